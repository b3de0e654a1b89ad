-- Certificates of versions 1 and 2 that differ only in their version mean the same to the rules.
use Rattle.std.proofs.Common.{◌≡◌, ◌≢◌, ◌⊎◌, ◌∙◌, inl, inr, ℕ, Bool, true, false, if◌then◌else◌, List, [], Option, Some, None, IfSome, Result, Ok, Err, Contains, length, refl, sym, subst, ap}
use Rattle.std.proofs.lemmas.Bool.{false≢true}
use Rattle.abs_draft.specs.Outcomes.{settled}
use Rattle.abs_state.specs.Entries.{after_call, callee_entry, main_entry, nmi_entry}
use Rattle.abs_state.specs.declared.state.AbsState.{AbsState}
use Rattle.abs_state.specs.Restricting.{byte_is}
use Rattle.abs_step.specs.Contained.{SetsTop}
use Rattle.abs_step.specs.declared.next.Next.{Next}
use Rattle.abs_step.specs.declared.reason.Reason.{Reason}
use Rattle.abs_step.specs.declared.reason.Reason.TheVariants as reasons
use Rattle.abs_step.specs.declared.reason.Saved.TheVariants as saved
use Rattle.check_cover.specs.Arrival.{ArrivalView, RefinementView, entry_refinement, first_arrival}
use Rattle.check_cover.specs.Covering.{Covered, CoveredBy, CoversMain, CoversNmi, SomeCovers}
use Rattle.check_cover.specs.Program.{IsRowAt, callee_at, is_main, split_at}
use Rattle.check_cover.specs.declared.program.Callee.{Callee}
use Rattle.cert_lines.specs.declared.proc.Proc.{Proc}
use Rattle.cert_lines.specs.declared.row.Row.{Row}
use Rattle.cert_lines.specs.declared.version.Version.{Version}
use Rattle.cert_lines.specs.declared.version.Version.TheVariants.{One, Two, Three}
use Rattle.cert_form.specs.Contents.{CertificateView}
use Rattle.cert_form.specs.Migrated.{migrated_version}
use Rattle.check_rules.specs.Acceptance.{Accepts, AreConsistent, Begins, CoversEntries, EntryFails, FitsRom, IsRefused, WholeRefused}
use Rattle.check_rules.specs.Table.{RestartsAtTop, HasNoStack, IsConsistent, FitsDepth, IsLowest, Passes}
use Rattle.check_ways.specs.Pays.{LeadsToRow, Pays, PaysCall}
use Rattle.check_steps.specs.Restarts.{restarted, restarts_by}
use Rattle.check_steps.specs.Returned.{effect_back, effect_of_call}
use Rattle.check_steps.specs.Told.{refinement_by}
use Rattle.refined_step.specs.Told.{StepToldView, untold}
use Rattle.check_ways.specs.Ways.{CallsCallee, EntersCallee, GoesOn, IsExit, IsSubject, IsWay, SubjectView, WayView, arrival_at_entry, behind_of, call_cost, jump_way, nexts_from, nexts_in, return_way, step_by, step_for, step_of, told_of}
use Rattle.loop_bounds.specs.Effect.{unchanged}
use Rattle.loop_bounds.specs.declared.effect.Effect.{Effect}
use Rattle.z80_decode.specs.declared.fault.DecodeFault.{DecodeFault}
use Rattle.z80_decode.specs.declared.instr.Instr.{Instr}
use Rattle.z80_decode.specs.declared.operands.Register8.{Register8}

-- what a certificate says, in another version; and a row of it
abbrev in_version : Version → CertificateView → CertificateView
in_version v c = record c { version = v }

abbrev moved : Version → SubjectView → SubjectView
moved v s = record s { cert = in_version v s.cert }

-- ---- covering

row_at : (v : Version) (c : CertificateView) (proc address : ℕ) (row : Row) → IsRowAt c proc address row → IsRowAt (in_version v c) proc address row
row_at v c proc address row h = record { listed = h.listed; of = h.of; at = h.at }

some_covers : (v : Version) (c : CertificateView) (a : ArrivalView) (state : AbsState) → SomeCovers c a state → SomeCovers (in_version v c) a state
some_covers v c a state h = record { row = h.row; at = row_at v c a.proc a.address h.row h.at; covers = h.covers }

some_covers_part : (v : Version) (c : CertificateView) (a : ArrivalView) (part : Option AbsState) → IfSome part (SomeCovers c a) → IfSome part (SomeCovers (in_version v c) a)
some_covers_part v c a None h = tt
some_covers_part v c a (Some state) h = some_covers v c a state h

covered_by : (v : Version) (c : CertificateView) (a : ArrivalView) (state : AbsState) (split : Option Register8) → CoveredBy c a state split → CoveredBy (in_version v c) a state split
covered_by v c a state None h = some_covers v c a state h
covered_by v c a state (Some register) h = λ value within. some_covers_part v c a (byte_is true register value state) (h value within)

covered : (v : Version) (c : CertificateView) (a : ArrivalView) (state : AbsState) → Covered c a state → Covered (in_version v c) a state
covered v c a state h = covered_by v c a state (split_at c a.proc a.address) h

-- ---- versions before the third

-- versions 1 and 2 have the same rules
abbrev IsEarly : Version → Type 0
IsEarly One = Unit {0}
IsEarly Two = Unit {0}
IsEarly Three = ⊥

-- no arrival has more than an effect
plain_arrival : (v : Version) (told : StepToldView) (effect : Effect) → IsEarly v → refinement_by v told effect ≡ None
plain_arrival One told effect early = refl
plain_arrival Two told effect early = refl
plain_arrival Three told effect early = absurd early

plain_entry : (v : Version) → IsEarly v → entry_refinement v ≡ None
plain_entry One early = refl
plain_entry Two early = refl
plain_entry Three early = absurd early

-- no instruction restarts
never_restarts : (v : Version) (proc : Proc) (decoded : Result Instr DecodeFault) → IsEarly v → restarts_by v proc decoded ≡ false
never_restarts One proc decoded early = refl
never_restarts Two proc decoded early = refl
never_restarts Three proc decoded early = absurd early

plain_back : (v : Version) (effect : Effect) (exit : AbsState) → IsEarly v → effect_back v effect exit ≡ effect_of_call effect exit
plain_back One effect exit early = refl
plain_back Two effect exit early = refl
plain_back Three effect exit early = absurd early

plain_step : (v : Version) (s : SubjectView) (instr : Instr) → IsEarly v → step_by v s instr ≡ step_by Two s instr
plain_step One s instr early = refl
plain_step Two s instr early = refl
plain_step Three s instr early = absurd early

-- ---- the step, and its ways

same_step : (v : Version) (s : SubjectView) → IsEarly s.cert.version → IsEarly v → step_of s ≡ step_of (moved v s)
same_step v s old new = by s.decoded
  where
    by : (decoded : Result Instr DecodeFault) → step_for s decoded ≡ step_for (moved v s) decoded
    by (Err fault) = refl
    by (Ok instr) = plain_step s.cert.version s instr old ∙ sym (plain_step v (moved v s) instr new)

same_nexts : (v : Version) (s : SubjectView) → IsEarly s.cert.version → IsEarly v → nexts_from s ≡ nexts_from (moved v s)
same_nexts v s old new = ap nexts_in (same_step v s old new)

leads : (v : Version) (s : SubjectView) (next : Next) → IsEarly s.cert.version → IsEarly v → Contains (nexts_from s) next → Contains (nexts_from (moved v s)) next
leads v s next old new h = subst (λ (ns : List Next). Contains ns next) (same_nexts v s old new) h

-- and back
leads_before : (v : Version) (s : SubjectView) (next : Next) → IsEarly s.cert.version → IsEarly v → Contains (nexts_from (moved v s)) next → Contains (nexts_from s) next
leads_before v s next old new h = subst (λ (ns : List Next). Contains ns next) (sym (same_nexts v s old new)) h

abbrev jump_by : SubjectView → Next → Bool → Option RefinementView → WayView
jump_by s next restarted_there refined = record {
  arrival = record {
    proc = if restarted_there then 0 else s.row.proc;
    address = next.address;
    facts = s.row.facts;
    before = s.row.state;
    effect = next.effect;
    refined = refined;
  };
  state = if restarted_there then restarted next.state else next.state;
  cost = next.cost;
}

plain_jump : (s : SubjectView) (next : Next) → IsEarly s.cert.version → jump_way s next ≡ jump_by s next false None
plain_jump s next early =
    ap (λ (b : Bool). jump_by s next b (refinement_by s.cert.version (told_of s s.decoded) next.moved))
    (never_restarts s.cert.version s.proc s.decoded early)
    ∙ ap (λ (r : Option RefinementView). jump_by s next false r) (plain_arrival s.cert.version (told_of s s.decoded) next.moved early)

same_jump : (v : Version) (s : SubjectView) (next : Next) → IsEarly s.cert.version → IsEarly v → jump_way s next ≡ jump_way (moved v s) next
same_jump v s next old new = plain_jump s next old ∙ sym (plain_jump (moved v s) next new)

abbrev return_by : SubjectView → Next → Callee → AbsState → Effect → Option RefinementView → WayView
return_by s next callee exit effect refined = record {
  arrival = record {
    proc = s.row.proc;
    address = behind_of s.decoded s.row.address;
    facts = s.row.facts;
    before = s.row.state;
    effect = settled (after_call next.state exit) effect;
    refined = refined;
  };
  state = after_call next.state exit;
  cost = call_cost next callee;
}

plain_return : (s : SubjectView) (next : Next) (callee : Callee) (exit : AbsState) → IsEarly s.cert.version →
    return_way s next callee exit ≡ return_by s next callee exit (effect_of_call next.effect exit) None
plain_return s next callee exit early =
    let moved_back = effect_back s.cert.version next.moved exit in
    ap (λ (e : Effect). return_by s next callee exit e (refinement_by s.cert.version untold moved_back)) (plain_back s.cert.version next.effect exit early)
    ∙ ap (λ (r : Option RefinementView). return_by s next callee exit (effect_of_call next.effect exit) r)
    (plain_arrival s.cert.version untold moved_back early)

same_return : (v : Version) (s : SubjectView) (next : Next) (callee : Callee) (exit : AbsState) → IsEarly s.cert.version → IsEarly v →
    return_way s next callee exit ≡ return_way (moved v s) next callee exit
same_return v s next callee exit old new = plain_return s next callee exit old ∙ sym (plain_return (moved v s) next callee exit new)

abbrev entry_by : SubjectView → Next → Callee → Option RefinementView → ArrivalView
entry_by s next callee refined = record {
  proc = callee.number;
  address = next.address;
  facts = s.row.facts;
  before = s.row.state;
  effect = next.effect;
  refined = refined;
}

same_entry : (v : Version) (s : SubjectView) (next : Next) (callee : Callee) → IsEarly s.cert.version → IsEarly v →
    arrival_at_entry s next callee ≡ arrival_at_entry (moved v s) next callee
same_entry v s next callee old new =
    ap (entry_by s next callee) (plain_arrival s.cert.version untold next.moved old ∙ sym (plain_arrival v untold next.moved new))

abbrev first_by : ℕ → ℕ → AbsState → Option RefinementView → ArrivalView
first_by proc address state refined = record { proc = proc; address = address; facts = []; before = state; effect = unchanged; refined = refined }

same_first : (v w : Version) (proc address : ℕ) (state : AbsState) → IsEarly v → IsEarly w → first_arrival v proc address state ≡ first_arrival w proc address state
same_first v w proc address state old new = ap (first_by proc address state) (plain_entry v old ∙ sym (plain_entry w new))

-- ---- entries

main_covered : (v : Version) (c : CertificateView) → IsEarly c.version → IsEarly v → CoversMain c → CoversMain (in_version v c)
main_covered v c old new h =
    subst (λ (a : ArrivalView). Covered (in_version v c) a main_entry) (same_first c.version v 0 0 main_entry old new)
    (covered v c (first_arrival c.version 0 0 main_entry) main_entry h)

nmi_covered : (v : Version) (c : CertificateView) → IsEarly c.version → IsEarly v → CoversNmi c → CoversNmi (in_version v c)
nmi_covered v c old new h =
    let state = nmi_entry (length c.cells) in
    subst (λ (a : ArrivalView). Covered (in_version v c) a state) (same_first c.version v 1 102 state old new)
    (covered v c (first_arrival c.version 1 102 state) state h)

entries : (v : Version) (c : CertificateView) → IsEarly c.version → IsEarly v → CoversEntries c → CoversEntries (in_version v c)
entries v c old new h = record { main = main_covered v c old new h.main; nmi = nmi c.budget h.nmi }
  where
    nmi : (budget : Option ℕ) → IfSome budget (λ b. CoversNmi c) → IfSome budget (λ b. CoversNmi (in_version v c))
    nmi None n = tt
    nmi (Some b) n = nmi_covered v c old new n

-- ---- successors

subject : (v : Version) (s : SubjectView) → IsSubject s → IsSubject (moved v s)
subject v s h = record { listed = h.listed; procedure = h.procedure; stands = h.stands }

calls : (v : Version) (s : SubjectView) (next : Next) (callee : Callee) → IsEarly s.cert.version → IsEarly v → CallsCallee s next callee →
    CallsCallee (moved v s) next callee
calls v s next callee old new h = record { leads = leads v s next old new h.leads; kind = h.kind; called = h.called }

-- and back
calls_before : (v : Version) (s : SubjectView) (next : Next) (callee : Callee) → IsEarly s.cert.version → IsEarly v → CallsCallee (moved v s) next callee →
    CallsCallee s next callee
calls_before v s next callee old new h = record { leads = leads_before v s next old new h.leads; kind = h.kind; called = h.called }

is_exit : (v : Version) (rom : List ℕ) (c : CertificateView) (proc : ℕ) (exit : AbsState) → IsEarly c.version → IsEarly v → IsExit rom c proc exit →
    IsExit rom (in_version v c) proc exit
is_exit v rom c proc exit old new h = record {
  subject = moved v h.subject;
  is_subject = subject v h.subject h.is_subject;
  same = (h.same.0, ap (in_version v) h.same.1);
  of = h.of;
  next = h.next;
  leads = leads v h.subject h.next (subst (λ (d : CertificateView). IsEarly d.version) (sym h.same.1) old) new h.leads;
  kind = h.kind;
  state = h.state;
}

is_way : (v : Version) (s : SubjectView) (way : WayView) → IsEarly s.cert.version → IsEarly v → IsWay s way → IsWay (moved v s) way
is_way v s way old new (inl h) =
    inl (record { next = h.next; leads = leads v s h.next old new h.leads; kind = h.kind; is = h.is ∙ same_jump v s h.next old new })
is_way v s way old new (inr h) =
    inr (record {
      next = h.next;
      callee = h.callee;
      calls = calls v s h.next h.callee old new h.calls;
      exit = h.exit;
      exits = is_exit v s.rom s.cert h.callee.number h.exit old new h.exits;
      is = h.is ∙ same_return v s h.next h.callee h.exit old new;
    })

enters : (v : Version) (s : SubjectView) (next : Next) (callee : Option Callee) → IsEarly s.cert.version → IsEarly v → EntersCallee s next callee →
    EntersCallee (moved v s) next callee
enters v s next None old new h = h
enters v s next (Some callee) old new h =
    subst (λ (a : ArrivalView). Covered (in_version v s.cert) a (callee_entry next.state)) (same_entry v s next callee old new)
    (covered v s.cert (arrival_at_entry s next callee) (callee_entry next.state) h)

-- a row that the step does not refuse for a reason is not refused for it in another version
not_refused : (v : Version) (s : SubjectView) (reason : Reason) → IsEarly s.cert.version → IsEarly v → step_of s ≢ Err reason → step_of (moved v s) ≢ Err reason
not_refused v s reason old new h e = h (same_step v s old new ∙ e)

goes_on : (v : Version) (s : SubjectView) → IsEarly s.cert.version → IsEarly v → GoesOn s → GoesOn (moved v s)
goes_on v s old new h = record {
  jumps = not_refused v s reasons.NotCovered old new h.jumps;
  ways = λ way is. covered v s.cert way.arrival way.state (h.ways way (is_way s.cert.version (moved v s) way new old is));
  entries = λ next there kind. enters v s next (callee_at s.cert next.address) old new (h.entries next (leads_before v s next old new there) kind);
}

-- ---- paying

leads_to : (v : Version) (s : SubjectView) (way : WayView) (target : Row) → IsEarly s.cert.version → IsEarly v → LeadsToRow s way target → LeadsToRow (moved v s) way target
leads_to v s way target old new h = record {
  is_way = is_way v s way old new h.is_way;
  lands = record { at = row_at v s.cert way.arrival.proc way.arrival.address target h.lands.at; asked = h.lands.asked };
}

pays_call : (v : Version) (s : SubjectView) (next : Next) (callee : Callee) → IsEarly s.cert.version → IsEarly v → PaysCall s next callee → PaysCall (moved v s) next callee
pays_call v s next callee old new h = record {
  timed = h.timed;
  endless = λ none. h.endless (λ exit is. none exit (is_exit v s.rom s.cert callee.number exit old new is));
}

pays : (v : Version) (s : SubjectView) → IsEarly s.cert.version → IsEarly v → Pays s → Pays (moved v s)
pays v s old new h = record {
  owns = h.owns;
  ways = λ way target there. h.ways way target (leads_to s.cert.version (moved v s) way target new old there);
  calls = λ next callee is. pays_call v s next callee old new (h.calls next callee (calls_before v s next callee old new is));
  exits = λ next there kind. h.exits next (leads_before v s next old new there) kind;
  entry = h.entry;
}

-- ---- the table

has_no_stack : (v : Version) (s : SubjectView) → HasNoStack s → HasNoStack (moved v s)
has_no_stack v s h = record { main = h.main; empty = h.empty }

fits_depth : (v : Version) (s : SubjectView) → IsEarly s.cert.version → IsEarly v → FitsDepth s → FitsDepth (moved v s)
fits_depth v s old new h = record {
  row = h.row;
  nexts = λ next there. h.nexts next (leads_before v s next old new there);
  calls = λ next callee is. h.calls next callee (calls_before v s next callee old new is);
}

stack_kept : (v : Version) (s : SubjectView) → Passes s reasons.StackOverwrite → Passes (moved v s) reasons.StackOverwrite
stack_kept v s (inl none) = inl (has_no_stack v s none)
stack_kept v s (inr all) = inr all

sets_top : (v : Version) (s : SubjectView) (instr : Instr) → IsEarly s.cert.version → SetsTop (is_main s.row.proc) s.cert.region instr ⊎ RestartsAtTop s instr →
    SetsTop (is_main s.row.proc) s.cert.region instr ⊎ RestartsAtTop (moved v s) instr
sets_top v s instr old (inl top) = inl top
sets_top v s instr old (inr there) =
    absurd (false≢true (sym (never_restarts s.cert.version s.proc s.decoded old) ∙ there.0))

passes : (v : Version) (s : SubjectView) (reason : Reason) → IsEarly s.cert.version → IsEarly v → Passes s reason → Passes (moved v s) reason
passes v s reasons.IoSpace old new h = not_refused v s reasons.IoSpace old new h
passes v s reasons.StackOverwrite old new h = stack_kept v s h
passes v s reasons.StackUnset old new h = not_refused v s reasons.StackUnset old new h
passes v s reasons.StackShape old new h = not_refused v s reasons.StackShape old new h
passes v s reasons.StackDepth old new h = fits_depth v s old new h
passes v s reasons.NotCovered old new h = goes_on v s old new h
passes v s reasons.Rank old new h = λ next callee is. h next callee (calls_before v s next callee old new is)
passes v s reasons.Time old new h = λ timed. pays v s old new (h timed)
passes v s (reasons.SavedRegister (saved.Pair pair)) old new h = λ nmi next there kind lost. h nmi next (leads_before v s next old new there) kind lost
passes v s (reasons.SavedRegister saved.I) old new h = h
passes v s reasons.SpWrite old new h = λ instr is sets. sets_top v s instr old (h instr is sets)
passes v s _ old new h = h

consistent : (v : Version) (s : SubjectView) → IsEarly s.cert.version → IsEarly v → IsConsistent s → IsConsistent (moved v s)
consistent v s old new h reason = passes v s reason old new (h reason)

is_lowest : (v : Version) (s : SubjectView) (reason : Reason) → IsEarly s.cert.version → IsEarly v → IsLowest s reason → IsLowest (moved v s) reason
is_lowest v s reason old new h = record {
  applies = λ pass. h.applies (passes s.cert.version (moved v s) reason new old pass);
  lowest = λ other low. passes v s other old new (h.lowest other low);
}

-- ---- acceptance

fits_rom : (v : Version) (rom : List ℕ) (c : CertificateView) → FitsRom rom c → FitsRom rom (in_version v c)
fits_rom v rom c h = record { some = h.some; fits = h.fits; same = h.same }

rows : (v : Version) (rom : List ℕ) (c : CertificateView) (upto : ℕ) → IsEarly c.version → IsEarly v → AreConsistent rom c upto →
    AreConsistent rom (in_version v c) upto
rows v rom c upto old new h number s low same at is =
    consistent s.cert.version (moved c.version s) old (subst (λ (d : CertificateView). IsEarly d.version) (sym same.1) new)
    (h number (moved c.version s) low (same.0, ap (in_version c.version) same.1) at (subject c.version s is))

accepts : (v : Version) (rom : List ℕ) (c : CertificateView) → IsEarly c.version → IsEarly v → Accepts rom c → Accepts rom (in_version v c)
accepts v rom c old new h = record {
  fits_rom = fits_rom v rom c h.fits_rom;
  fits_work_ram = h.fits_work_ram;
  entries = entries v c old new h.entries;
  rows = rows v rom c (length c.rows) old new h.rows;
  depth = h.depth;
  budget = h.budget;
}

begins : (v : Version) (rom : List ℕ) (c : CertificateView) → IsEarly c.version → IsEarly v → Begins rom c → Begins rom (in_version v c)
begins v rom c old new h = record {
  fits_rom = fits_rom v rom c h.fits_rom;
  fits_work_ram = h.fits_work_ram;
  entries = entries v c old new h.entries;
}

entry_fails : (v : Version) (c : CertificateView) (address : ℕ) → IsEarly c.version → IsEarly v → EntryFails c address → EntryFails (in_version v c) address
entry_fails v c address old new (inl main) = inl (main.0, λ h. main.1 (main_covered c.version (in_version v c) new old h))
entry_fails v c address old new (inr nmi) =
    inr (nmi.0, main_covered v c old new nmi.1, λ h. nmi.2 (entries c.version (in_version v c) new old h))

whole : (v : Version) (rom : List ℕ) (c : CertificateView) (address : ℕ) (reason : Reason) → IsEarly c.version → IsEarly v →
    WholeRefused rom c address reason → WholeRefused rom (in_version v c) address reason
whole v rom c address reasons.Rom old new w = (w.0, λ h. w.1 (fits_rom c.version rom (in_version v c) h))
whole v rom c address reasons.Region old new w = (w.0, fits_rom v rom c w.1, w.2)
whole v rom c address reasons.Entry old new w = (entry_fails v c address old new w.0, fits_rom v rom c w.1, w.2)
whole v rom c address reasons.StackDepth old new w = (w.0, begins v rom c old new w.1, rows v rom c (length c.rows) old new w.2, w.3)
whole v rom c address reasons.Budget old new w = (w.0, begins v rom c old new w.1, rows v rom c (length c.rows) old new w.2, w.3, w.4)
whole v rom c address _ old new w = w

refused : (v : Version) (rom : List ℕ) (c : CertificateView) (number : Option ℕ) (address : ℕ) (reason : Reason) → IsEarly c.version → IsEarly v →
    IsRefused rom c number address reason → IsRefused rom (in_version v c) number address reason
refused v rom c None address reason old new w = whole v rom c address reason old new w
refused v rom c (Some number) address reason old new r = record {
  begins = begins v rom c old new r.begins;
  before = rows v rom c number old new r.before;
  subject = moved v r.subject;
  is_subject = subject v r.subject r.is_subject;
  same = (r.same.0, ap (in_version v) r.same.1);
  row = r.row;
  at = r.at;
  lowest = is_lowest v r.subject reason (subst (λ (d : CertificateView). IsEarly d.version) (sym r.same.1) old) new r.lowest;
}

-- ---- back from the migrated version

-- a later certificate is itself after the migration to version 2
same_later : (c d : CertificateView) (v : Version) → c.version ≡ v → in_version v c ≡ d → c ≡ d
same_later c d v is same = ap (λ (w : Version). in_version w c) is ∙ same

pub accepted_before : (rom : List ℕ) (c d : CertificateView) → in_version (migrated_version c.version) c ≡ d → Accepts rom d → Accepts rom c
accepted_before rom c d is h = by c.version refl is
  where
    by : (v : Version) → c.version ≡ v → in_version (migrated_version v) c ≡ d → Accepts rom c
    by One old same = accepts c.version rom (in_version Two c) tt (subst IsEarly (sym old) tt) (subst (Accepts rom) (sym same) h)
    by Two old same = subst (Accepts rom) (sym (same_later c d Two old same)) h
    by Three old same = subst (Accepts rom) (sym (same_later c d Three old same)) h

pub refused_before : (rom : List ℕ) (c d : CertificateView) (number : Option ℕ) (address : ℕ) (reason : Reason) →
    in_version (migrated_version c.version) c ≡ d → IsRefused rom d number address reason → IsRefused rom c number address reason
refused_before rom c d number address reason is h = by c.version refl is
  where
    Told : CertificateView → Type 0
    Told x = IsRefused rom x number address reason

    by : (v : Version) → c.version ≡ v → in_version (migrated_version v) c ≡ d → IsRefused rom c number address reason
    by One old same = refused c.version rom (in_version Two c) number address reason tt (subst IsEarly (sym old) tt) (subst Told (sym same) h)
    by Two old same = subst Told (sym (same_later c d Two old same)) h
    by Three old same = subst Told (sym (same_later c d Three old same)) h
