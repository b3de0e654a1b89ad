-- A row of an accepted certificate: an instruction stands at its address, and no reason applies to it.
use Rattle.std.proofs.Common.{◌≡◌, ◌≢◌, ◌<◌, ◌∙◌, ℕ, Bool, true, false, cond, List, length, drop, get_or, slice_get, Contains, Option, Some, None, Result, Ok, Err, inl, inr, refl, sym, ap, subst, arith}
use Rattle.std.proofs.lemmas.Bool.{cases_lt}
use Rattle.std.proofs.lemmas.List.{get_or-drop, get_or_default}
use Rattle.std.proofs.lemmas.Option.{slice_get_read}
use Rattle.z80_decode.specs.Decoding.{first_instr}
use Rattle.z80_decode.specs.Spelling.{spelling}
use Rattle.z80_decode.specs.declared.fault.DecodeFault.{DecodeFault}
use Rattle.z80_decode.specs.declared.fault.DecodeFault.TheVariants.{Truncated, Undocumented}
use Rattle.z80_decode.specs.declared.instr.Instr.{Instr}
use Rattle.z80_decode.proofs.Laws.{front, no_beginning, no_front, proper_beginning}
use Rattle.board_fetch.specs.Decoded.{StandsAt}
use Rattle.board_step.specs.State.{AreBytes}
use Rattle.abs_step.specs.Successors.{answer_by, has_no_shape, jumps_anywhere, uses_stack}
use Rattle.abs_step.specs.declared.next.Next.{Next}
use Rattle.abs_step.specs.declared.reason.Reason.{Reason}
use Rattle.abs_step.specs.declared.reason.Reason.TheVariants as reasons
use Rattle.abs_state.specs.Mode.{is_unset}
use Rattle.t_states.specs.Io.{is_io}
use Rattle.std.specs.Prelude.{◌&&◌}
use Rattle.check_cover.specs.Program.{is_inline, is_main}
use Rattle.cert_lines.specs.declared.proc.Proc.{Proc}
use Rattle.cert_lines.specs.declared.row.Row.{Row}
use Rattle.cert_lines.specs.declared.version.Version.{Version}
use Rattle.cert_lines.specs.declared.version.Version.TheVariants.{One, Two, Three}
use Rattle.cert_form.specs.Contents.{CertificateView}
use Rattle.check_rules.specs.Table.{IsConsistent}
use Rattle.check_ways.specs.Ways.{IsSubject, SubjectView, nexts_from, nexts_in, step_by, step_of}
use Rattle.check_laws.specs.Chain.{AcceptsInForm}

-- ---- something stands at each address

pub something_stands : (rom : List ℕ) (at : ℕ) → AreBytes rom → (d : Result Instr DecodeFault) × StandsAt rom at d
something_stands rom at bytes = by (first_instr (drop at rom)) refl
  where
    small : (k : ℕ) → get_or (drop at rom) k 0 < 256
    small k = subst (λ (n : ℕ). n < 256) (sym (get_or-drop at rom k 0)) (bytes _)

    by : (o : Option Instr) → first_instr (drop at rom) ≡ o → (d : Result Instr DecodeFault) × StandsAt rom at d
    by None e = (Err Undocumented, (λ p. no_beginning (drop at rom) e p, λ i spells. no_front (drop at rom) e i spells.0 spells.1))
    by (Some i) e =
        elim (cases_lt (length (drop at rom)) (length (spelling i))) [
          | inl short ↦ (Err Truncated, proper_beginning (drop at rom) small i e short)
          | inr long ↦ (Ok i, (drop (length (spelling i)) (drop at rom), front (drop at rom) small i e (omega arith)))
        ]

-- ---- judged rows

-- a row at an instruction
abbrev pub subject_of : List ℕ → CertificateView → Row → Proc → Instr → SubjectView
subject_of rom cert row proc instr = record { rom = rom; cert = cert; row = row; proc = proc; decoded = Ok instr }

-- an instruction stands there, no reason applies to the row, and the abstract step gives its successors
pub record Judged (rom : List ℕ) (cert : CertificateView) (row : Row) (proc : Proc) : Type 0 where
  pub instr : Instr
  pub stands : StandsAt rom row.address (Ok instr)
  pub is_subject : IsSubject (subject_of rom cert row proc instr)
  pub consistent : IsConsistent (subject_of rom cert row proc instr)
  pub step : step_of (subject_of rom cert row proc instr) ≡ Ok (nexts_from (subject_of rom cert row proc instr))

-- an answer that is no refusal is the successors
allowed : (a b c d : Bool) (nexts : List Next) → (let answer = answer_by (cond a (Some reasons.IoSpace) (cond b (Some reasons.StackUnset) (cond c (Some reasons.StackShape) (cond d (Some reasons.NotCovered) None)))) nexts in
    answer ≢ Err reasons.IoSpace → answer ≢ Err reasons.StackUnset → answer ≢ Err reasons.StackShape → answer ≢ Err reasons.NotCovered → answer ≡ Ok nexts)
allowed true b c d nexts p q r s = absurd (p refl)
allowed false true c d nexts p q r s = absurd (q refl)
allowed false false true d nexts p q r s = absurd (r refl)
allowed false false false true nexts p q r s = absurd (s refl)
allowed false false false false nexts p q r s = refl

-- an answer that is no refusal, of a step of each version
told_nexts : (answer : Result (List Next) Reason) (nexts : List Next) → answer ≡ Ok nexts → answer ≡ Ok (nexts_in answer)
told_nexts answer nexts e = e ∙ ap (λ ns. Ok ns) (sym (ap nexts_in e))

answered_by : (version : Version) (s : SubjectView) (instr : Instr) → step_by version s instr ≢ Err reasons.IoSpace → step_by version s instr ≢ Err reasons.StackUnset → step_by version s instr ≢ Err reasons.StackShape → step_by version s instr ≢ Err reasons.NotCovered
    → step_by version s instr ≡ Ok (nexts_in (step_by version s instr))
answered_by One s instr p q r n =
    let a = s.row.state in
    let main = is_main s.row.proc in
    let inline = is_inline s.cert s.row.address in
    told_nexts (step_by One s instr) _ (allowed (is_io instr) (uses_stack instr && is_unset a.mode) (has_no_shape main inline instr a.shape) (jumps_anywhere instr a) _ p q r n)
answered_by Two s instr p q r n =
    let a = s.row.state in
    let main = is_main s.row.proc in
    let inline = is_inline s.cert s.row.address in
    told_nexts (step_by Two s instr) _ (allowed (is_io instr) (uses_stack instr && is_unset a.mode) (has_no_shape main inline instr a.shape) (jumps_anywhere instr a) _ p q r n)
answered_by Three s instr p q r n =
    let a = s.row.state in
    let main = is_main s.row.proc in
    let inline = is_inline s.cert s.row.address in
    told_nexts (step_by Three s instr) _ (allowed (is_io instr) (uses_stack instr && is_unset a.mode) (has_no_shape main inline instr a.shape) (jumps_anywhere instr a) _ p q r n)

answered : (s : SubjectView) (instr : Instr) → s.decoded ≡ Ok instr → IsConsistent s → (rom : List ℕ) (cert : CertificateView) (row : Row) (proc : Proc) → s ≡ subject_of rom cert row proc instr
    → step_of (subject_of rom cert row proc instr) ≡ Ok (nexts_from (subject_of rom cert row proc instr))
answered s instr d ok rom cert row proc e =
    let t = subject_of rom cert row proc instr in
    let k : IsConsistent t = subst IsConsistent e ok in
    answered_by cert.version t instr (k reasons.IoSpace) (k reasons.StackUnset) (k reasons.StackShape) (k reasons.NotCovered).jumps

pub judge : (rom : List ℕ) (cert : CertificateView) (row : Row) (proc : Proc) → AcceptsInForm rom cert → Contains cert.rows row → slice_get cert.procs row.proc ≡ Some proc → Judged rom cert row proc
judge rom cert row proc acc listed has = by stands.0 stands.1
  where
    stands : (d : Result Instr DecodeFault) × StandsAt rom row.address d
    stands = something_stands rom row.address acc.bytes

    at : (k : ℕ) × (slice_get cert.rows k ≡ Some row) × (k < length cert.rows)
    at = let (k, within, is) = listed in (k, slice_get_read cert.rows _ k row refl within (sym is), within)

    ok : (d : Result Instr DecodeFault) → StandsAt rom row.address d → IsConsistent (let s : SubjectView = record { rom = rom; cert = cert; row = row; proc = proc; decoded = d } in s)
    ok d h = acc.accepts.rows at.0 (record { rom = rom; cert = cert; row = row; proc = proc; decoded = d }) at.2 (refl, refl) at.1 (record { listed = listed; procedure = has; stands = h })

    by : (d : Result Instr DecodeFault) → StandsAt rom row.address d → Judged rom cert row proc
    by (Err fault) h = absurd (ok (Err fault) h (reasons.Decode fault) refl)
    by (Ok instr) h = record {
      instr = instr;
      stands = h;
      is_subject = record { listed = listed; procedure = has; stands = h };
      consistent = ok (Ok instr) h;
      step = answered (subject_of rom cert row proc instr) instr refl (ok (Ok instr) h) rom cert row proc refl;
    }

-- an element of a list is in it
pub listed_at : {X : Type 0} (xs : List X) (k : ℕ) (d : X) → k < length xs → Contains xs (get_or xs k d)
listed_at xs k d p = (k, p, get_or_default xs k (get_or xs k d) d p)
