-- Procedures, and the fields of their lines (docs/CERTIFICATE.md, "Procedures").
use Rattle.std.specs.Prelude.{ℕ, ◌≤◌, ◌≡◌, List, [], ◌∷◌, codes, Option, Some, None, IfSome, IsSome}
use Rattle.std.specs.Fmt.{decimal}
use Rattle.cert_lines.specs.declared.proc.Proc.{Proc}
use Rattle.cert_lines.specs.declared.proc.ProcKind.{ProcKind}
use Rattle.cert_lines.specs.declared.proc.ProcKind.TheVariants.{Main, Nmi, Sub}
use Rattle.texts.specs.Numbers.{IsWord, hex4}

abbrev pub kind_word : ProcKind → List ℕ
kind_word Main = codes "main"
kind_word Nmi = codes "nmi"
kind_word Sub = codes "sub"

-- a decimal, or a dash for none
abbrev pub decimal_or_dash : Option ℕ → List ℕ
decimal_or_dash None = codes "-"
decimal_or_dash (Some n) = decimal n

-- the fields after `proc`
abbrev pub proc_fields : Proc → List (List ℕ)
proc_fields p = kind_word p.kind ∷ hex4 p.entry ∷ decimal p.rank ∷ decimal p.depth ∷ decimal_or_dash p.time ∷ []

-- main has the entry 0000 and no time, the NMI routine has the entry 0066 and a time
abbrev pub IsOfKind : ProcKind → ℕ → Option ℕ → Type 0
IsOfKind Main entry time = (entry ≡ 0) × (time ≡ None)
IsOfKind Nmi entry time = (entry ≡ 102) × IsSome time
IsOfKind Sub entry time = Unit {0}

-- a procedure in form: rank and depth are words, and a time is at most 1,000,000,000
pub record IsProc (p : Proc) : Type 0 where
  pub entry : IsWord p.entry
  pub rank : IsWord p.rank
  pub depth : IsWord p.depth
  pub time : IfSome p.time (λ t. t ≤ 1000000000)
  pub kind : IsOfKind p.kind p.entry p.time
