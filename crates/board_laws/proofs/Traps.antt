-- Drafts that do not trap.
use Rattle.std.proofs.Common.{◌≡◌, ◌≢◌, Bool, true, false, Option, Some, None, refl}
use Rattle.std.proofs.Math.Bool.{cond}
use Rattle.std.proofs.lemmas.List.Folds.{list_any_none}
use Rattle.address_map.specs.AddressMap.{MapView}
use Rattle.address_map.specs.Class.{class_of}
use Rattle.address_map.specs.declared.map.WriteClass.{WriteClass}
use Rattle.address_map.specs.declared.map.WriteClass.TheVariants as writes
use Rattle.address_map.specs.declared.region.Region.{Region}
use Rattle.z80_draft.specs.Draft.{DraftView}
use Rattle.z80_draft.specs.declared.access.Write.{Write}
use Rattle.board_step.specs.Trap.{is_rom, is_unmapped, some_outside, some_write, trap_of_draft}
use Rattle.board_step.specs.declared.profile.Trap.{Trap}
use Rattle.board_step.specs.declared.profile.Trap.TheVariants as traps
use Rattle.board_laws.specs.Region.{AllTaken}

not_rom : (c : WriteClass) → c ≢ writes.Rom → is_rom c ≡ false
not_rom writes.Rom h = absurd (h refl)
not_rom _ h = refl

not_unmapped : (c : WriteClass) → c ≢ writes.Unmapped → is_unmapped c ≡ false
not_unmapped writes.Unmapped h = absurd (h refl)
not_unmapped _ h = refl

-- None of the three tests holds
all_clear : (a b c : Bool) → a ≡ false → b ≡ false → c ≡ false
    → (let t : Option Trap = cond a (Some traps.WriteRom) (cond b (Some traps.WriteUnmapped) (cond c (Some traps.StackOutside) None)) in t) ≡ None
all_clear false false false p q r = refl
all_clear true _ _ p q r = absurd (cc)
all_clear _ true _ p q r = absurd (cc)
all_clear _ _ true p q r = absurd (cc)

pub no_trap : (map : MapView) (region : Region) (draft : DraftView) → AllTaken map draft.writes → some_outside region draft.stack ≡ false → trap_of_draft map region draft ≡ None
unfolding trap_of_draft
no_trap map region draft taken inside =
    all_clear (some_write map is_rom draft.writes) (some_write map is_unmapped draft.writes) (some_outside region draft.stack)
    (list_any_none (λ (w : Write). is_rom (class_of map w.at).write) draft.writes (λ i d h. not_rom _ (taken i d h).0))
    (list_any_none (λ (w : Write). is_unmapped (class_of map w.at).write) draft.writes (λ i d h. not_unmapped _ (taken i d h).1)) inside
