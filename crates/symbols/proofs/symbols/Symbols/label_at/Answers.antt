use Rattle.std.proofs.Common.{◌≡◌, ◌<◌, ◌≤◌, ◌+◌, ◌-◌, ℕ, List, None, inl, inr, arith}
use Rattle.symbols.proofs.symbols.Symbols.label_at.Goals as goal
use Rattle.symbols.specs.Names.{shown_name}

-- no place down to an offset has a shown name
none_near : (symbols : List (List ℕ × ℕ)) (address offset : ℕ) → ((k : ℕ) → k < offset → shown_name symbols (address - k) ≡ None) → (place : ℕ) → place ≤ address → address < place + offset → shown_name symbols place ≡ None
none_near symbols address offset none place below near =
    let same : address - (address - place) ≡ place = omega arith in
    rw same at (none (address - place) (omega arith))

pub returns-then-offset-address-clause-none : goal.returns-then-offset-address-clause-none
returns-then-offset-address-clause-none c = λ place may. none_near _ _ _ c.loop-offset.invariant place may.0 (omega arith)

pub returns-then-address-ge-ROM_END-clause-none : goal.returns-then-address-ge-ROM_END-clause-none
returns-then-address-ge-ROM_END-clause-none c = λ place may.
    let near : c.args.address < place + c.loop-offset.offset = elim may.2 [ inl below ↦ omega arith | inr above ↦ omega arith ] in
    none_near _ _ _ c.loop-offset.invariant place may.0 near

pub returns-clause-none : goal.returns-clause-none
returns-clause-none c = λ place may. none_near _ _ _ c.loop-offset.invariant place may.0 (let near : c.args.address ≤ place + 255 = may.1 in omega arith)
