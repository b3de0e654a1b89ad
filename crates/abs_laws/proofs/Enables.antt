-- The NMI enable and the mode after the data writes of a draft.
use Rattle.std.proofs.Common.{◌≡◌, ◌≢◌, ◌≤◌, ◌==◌, ◌%◌, ◌⊎◌, ℕ, Bool, true, false, nat_lt, refl, sym, ◌∙◌, ap, subst, arith, inl, inr, List, [], ◌∷◌}
use Rattle.std.specs.List.{All, AllZip}
use Rattle.std.proofs.lemmas.Bool.{and_cases, cases_Bool, ltb-false, or_parts}
use Rattle.std.proofs.lemmas.List.Elements.{All-cons, All-head, All-nil, All-same, All-tail}
use Rattle.address_map.specs.AddressMap.{MapView}
use Rattle.address_map.specs.Class.{class_of}
use Rattle.address_map.specs.declared.cell.RamKind.TheVariants.{Work, Video, Object}
use Rattle.address_map.specs.declared.map.WriteClass.{WriteClass}
use Rattle.address_map.specs.declared.map.WriteClass.TheVariants as writes
use Rattle.address_map.specs.declared.region.Region.{Region}
use Rattle.intervals.specs.Range.{RangeView, Within}
use Rattle.z80_draft.specs.Draft.{DraftView}
use Rattle.z80_draft.specs.declared.access.Write.{Write}
use Rattle.board_step.specs.Memory.{stored, stored_in, stored_all}
use Rattle.board_step.specs.State.{BoardView}
use Rattle.board_step.specs.Step.{committed}
use Rattle.board_step.specs.Trap.{some_outside}
use Rattle.board_laws.proofs.Brought.{committed_is, enable_kept, reaches}
use Rattle.board_laws.specs.Region.{IsStackRegion}
use Rattle.abs_state.specs.Holds.{HoldsMode, IsQuiet}
use Rattle.abs_state.specs.declared.mode.Mode.{Mode}
use Rattle.abs_state.specs.declared.mode.Mode.TheVariants.{Unset, Set, Nmi}
use Rattle.abs_state.specs.declared.state.AbsState.{AbsState}
use Rattle.abs_draft.proofs.GroundLemmas.{any_is}
use Rattle.abs_draft.specs.Ground.{GroundView, any_address, is_enable, may_enable, mode_after, some_odd}
use Rattle.abs_draft.specs.AbsDraft.{written_state}
use Rattle.abs_draft.specs.declared.data_write.DataWrite.{DataWrite}
use Rattle.abs_laws.specs.Fits.{WriteLiesIn, state_after_writes}
use Rattle.abs_laws.specs.Writes.{NeverEnables}

-- ---- a data write

not_odd : (range : RangeView) (byte : ℕ) → Within range byte → some_odd range ≡ false → (byte % 2 == 1) ≡ false
not_odd range byte h e =
    let p = or_parts (range.low % 2 == 1) (nat_lt range.low range.high) e in
    let one : range.high ≤ range.low = ltb-false range.low range.high p.1 in
    let same : range.low ≡ byte = omega arith in
    subst (λ (n : ℕ). (n % 2 == 1) ≡ false) same p.0

-- a write to the enable that cannot enable the NMI is of an even byte
even_there : (map : MapView) (w : DataWrite) (v : Write) → WriteLiesIn w v → NeverEnables map w → is_enable (class_of map v.at).write ≡ true → (v.byte % 2 == 1) ≡ false
even_there map w v lies never there = elim (and_cases (any_address (λ address. is_enable (class_of map address).write) w.at) (some_odd w.byte) never) [
  | inl none ↦
      let some = any_is (λ address. is_enable (class_of map address).write) w.at v.at lies.0 there in
      let clash : true ≡ false = sym some ∙ none in
      absurd (cc)
  | inr even ↦ not_odd w.byte v.byte lies.1 even
]

stored_in_clear : (c : WriteClass) (at byte : ℕ) (s : BoardView) → (is_enable c ≡ true → (byte % 2 == 1) ≡ false) → s.enable ≡ false → (stored_in c at byte s).enable ≡ false
stored_in_clear (writes.Ram Work) at byte s even clear = clear
stored_in_clear (writes.Ram Video) at byte s even clear = clear
stored_in_clear (writes.Ram Object) at byte s even clear = clear
stored_in_clear writes.NmiEnable at byte s even clear = even refl
stored_in_clear _ at byte s even clear = clear

stored_clear : (map : MapView) (w : DataWrite) (v : Write) (s : BoardView) → WriteLiesIn w v → NeverEnables map w → s.enable ≡ false → (stored map v.at v.byte s).enable ≡ false
unfolding stored
stored_clear map w v s lies never clear = stored_in_clear (class_of map v.at).write v.at v.byte s (even_there map w v lies never) clear

stored_all_clear : (map : MapView) (ws : List DataWrite) (vs : List Write) (s : BoardView) → AllZip WriteLiesIn ws vs → All (NeverEnables map) ws → s.enable ≡ false
    → (stored_all map vs s).enable ≡ false
unfolding stored_all
stored_all_clear map [] [] s zip never clear = clear
stored_all_clear map [] (v ∷ vs) s zip never clear = absurd zip
stored_all_clear map (w ∷ ws) [] s zip never clear = absurd zip
stored_all_clear map (w ∷ ws) (v ∷ vs) s zip never clear =
    stored_all_clear map ws vs (stored map v.at v.byte s) zip.1 (All-tail (NeverEnables map) w ws never)
    (stored_clear map w v s zip.0 (All-head (NeverEnables map) w ws never) clear)

-- ---- a draft

-- only the stack accesses
abbrev pub without_writes : DraftView → DraftView
without_writes draft = record draft { writes = [] }

-- the data writes come first
pub writes_first : (map : MapView) (draft : DraftView) (s : BoardView) → committed map draft s ≡ committed map (without_writes draft) (stored_all map draft.writes s)
unfolding stored_all
writes_first map draft s = committed_is map draft s ∙ sym (committed_is map (without_writes draft) (stored_all map draft.writes s))

-- no stack access goes to the enable
enable_stored : (map : MapView) (region : Region) (draft : DraftView) (s : BoardView) → IsStackRegion map region → some_outside region draft.stack ≡ false
    → (committed map draft s).enable ≡ (stored_all map draft.writes s).enable
enable_stored map region draft s r inside =
    ap (λ (t : BoardView). t.enable) (writes_first map draft s)
    ∙ enable_kept map region (without_writes draft) (stored_all map draft.writes s) r inside (All-nil (λ (v : Write). (class_of map v.at).write ≢ writes.NmiEnable))

pub enable_stays_clear : (map : MapView) (region : Region) (draft : DraftView) (s : BoardView) (ws : List DataWrite) → IsStackRegion map region → AllZip WriteLiesIn ws draft.writes
    → some_outside region draft.stack ≡ false → All (NeverEnables map) ws → s.enable ≡ false → (committed map draft s).enable ≡ false
enable_stays_clear map region draft s ws r zip inside never clear =
    enable_stored map region draft s r inside ∙ stored_all_clear map ws draft.writes s zip never clear

pub enable_stays : (map : MapView) (region : Region) (draft : DraftView) (s : BoardView) → IsStackRegion map region → draft.writes ≡ [] → some_outside region draft.stack ≡ false
    → (committed map draft s).enable ≡ s.enable
enable_stays map region draft s r none inside =
    let P : Write → Type 0 = λ (v : Write). (class_of map v.at).write ≢ writes.NmiEnable in
    enable_kept map region draft s r inside (All-same P draft.writes [] none (All-nil P))

-- ---- the mode

nmi_after : (may : Bool) → mode_after may Nmi ≡ Nmi
nmi_after true = refl
nmi_after false = refl

unset_after : (may : Bool) → mode_after may Unset ≡ Unset
unset_after true = refl
unset_after false = refl

other_after : (may : Bool) (mode : Mode) → mode ≢ Unset → mode_after may mode ≢ Unset
other_after true Set other = λ e. (cc)
other_after true Unset other = other
other_after true Nmi other = other
other_after false mode other = other

pub nmi_stays : (g : GroundView) (ws : List DataWrite) (a : AbsState) → a.mode ≡ Nmi → (state_after_writes g ws a).mode ≡ Nmi
nmi_stays g [] a e = e
nmi_stays g (w ∷ ws) a e = nmi_stays g ws (written_state g w a) (ap (mode_after (may_enable g.map w)) e ∙ nmi_after (may_enable g.map w))

pub unset_stays : (g : GroundView) (ws : List DataWrite) (a : AbsState) → a.mode ≡ Unset → (state_after_writes g ws a).mode ≡ Unset
unset_stays g [] a e = e
unset_stays g (w ∷ ws) a e = unset_stays g ws (written_state g w a) (ap (mode_after (may_enable g.map w)) e ∙ unset_after (may_enable g.map w))

pub set_stays : (g : GroundView) (ws : List DataWrite) (a : AbsState) → a.mode ≢ Unset → (state_after_writes g ws a).mode ≢ Unset
set_stays g [] a other = other
set_stays g (w ∷ ws) a other = set_stays g ws (written_state g w a) (other_after (may_enable g.map w) a.mode other)

-- mode `s` stays until a write that may enable the NMI
set_until : (g : GroundView) (ws : List DataWrite) (a : AbsState) → a.mode ≡ Set
    → ((state_after_writes g ws a).mode ≡ Nmi) ⊎ (((state_after_writes g ws a).mode ≡ Set) × All (NeverEnables g.map) ws)
set_until g [] a e = inr (e, All-nil (NeverEnables g.map))
set_until g (w ∷ ws) a e = elim (cases_Bool (may_enable g.map w)) [
  | inl may ↦ inl (nmi_stays g ws (written_state g w a) (ap (mode_after (may_enable g.map w)) e ∙ ap (λ (b : Bool). mode_after b Set) may))
  | inr never ↦ elim (set_until g ws (written_state g w a) (ap (mode_after (may_enable g.map w)) e ∙ ap (λ (b : Bool). mode_after b Set) never)) [
    | inl nmi ↦ inl nmi
    | inr rest ↦ inr (rest.0, All-cons (NeverEnables g.map) w ws never rest.1)
  ]
]

-- enable, line and latch stay clear if no data write may enable the NMI
quiet_stays : (map : MapView) (region : Region) (draft : DraftView) (s : BoardView) (ws : List DataWrite) → IsStackRegion map region → AllZip WriteLiesIn ws draft.writes
    → some_outside region draft.stack ≡ false → All (NeverEnables map) ws → IsQuiet s.enable s.line s.latched
    → IsQuiet (committed map draft s).enable (committed map draft s).line (committed map draft s).latched
quiet_stays map region draft s ws r zip inside never quiet =
    let reached = reaches map draft s in
    record {
      no_enable = enable_stays_clear map region draft s ws r zip inside never quiet.no_enable;
      no_line = reached.line ∙ quiet.no_line;
      no_latch = reached.latched ∙ quiet.no_latch;
    }

pub mode_holds : (g : GroundView) (region : Region) (draft : DraftView) (s : BoardView) (a : AbsState) (ws : List DataWrite) → IsStackRegion g.map region → AllZip WriteLiesIn ws draft.writes
    → some_outside region draft.stack ≡ false → HoldsMode a.mode s.enable s.line s.latched → (a.mode ≡ Unset → All (NeverEnables g.map) ws)
    → HoldsMode (state_after_writes g ws a).mode (committed g.map draft s).enable (committed g.map draft s).line (committed g.map draft s).latched
mode_holds g region draft s a ws r zip inside holds never = by a.mode refl
  where
    after : Mode → Type 0
    after mode = HoldsMode mode (committed g.map draft s).enable (committed g.map draft s).line (committed g.map draft s).latched

    before : (mode : Mode) → a.mode ≡ mode → HoldsMode mode s.enable s.line s.latched
    before mode e = subst (λ (m : Mode). HoldsMode m s.enable s.line s.latched) e holds

    by : (mode : Mode) → a.mode ≡ mode → HoldsMode (state_after_writes g ws a).mode (committed g.map draft s).enable (committed g.map draft s).line (committed g.map draft s).latched
    by Unset e = subst after (sym (unset_stays g ws a e)) (quiet_stays g.map region draft s ws r zip inside (never e) (before Unset e))
    by Set e = elim (set_until g ws a e) [
      | inl nmi ↦ subst after (sym nmi) tt
      | inr rest ↦ subst after (sym rest.0) (quiet_stays g.map region draft s ws r zip inside rest.1 (before Set e))
    ]
    by Nmi e = subst after (sym (nmi_stays g ws a e)) tt
