-- What the step's answer says about a row.
use Rattle.std.proofs.Common.{◌≡◌, ◌<◌, ◌≤◌, if◌then◌else◌, Bool, true, false, ◌&&◌, Some, None, Result, Ok, Err, List, [], Contains, refl, sym, ap, subst, arith}
use Rattle.abs_step.specs.Reason.{number_of}
use Rattle.abs_step.specs.Successors.{answer_by, has_no_shape, jumps_anywhere, nexts_of, refusal, uses_stack}
use Rattle.abs_state.specs.Mode.{is_unset}
use Rattle.abs_step.specs.declared.next.Next.{Next}
use Rattle.abs_step.specs.declared.reason.Reason.{Reason}
use Rattle.abs_step.specs.declared.reason.Reason.TheVariants as reasons
use Rattle.check_cover.specs.Program.{ground_for, is_inline, is_main}
use Rattle.check_rules.specs.Table.{FitsDepth, IsLowest, PassesBelow, bytes_in}
use Rattle.check_rules.proofs.Order.{begins, decode_passes, passes}
use Rattle.check_ways.specs.Ways.{SubjectView, nexts_from, nexts_in, step_by, step_for, step_of}
use Rattle.cert_lines.specs.declared.version.Version.{Version}
use Rattle.cert_lines.specs.declared.version.Version.TheVariants.{One, Two, Three}
use Rattle.refined_step.specs.Refined.{refined_nexts}
use Rattle.t_states.specs.Io.{is_io}
use Rattle.z80_decode.specs.declared.fault.DecodeFault.{DecodeFault}
use Rattle.z80_decode.specs.declared.instr.Instr.{Instr}

-- why a row is refused for itself: its bytes are no instruction, or one of four reasons applies
pub data Refuses (s : SubjectView) (reason : Reason) : Type 0 where
  undecoded : (fault : DecodeFault) → s.decoded ≡ Err fault → reason ≡ reasons.Decode fault → Refuses s reason
  by_io : reason ≡ reasons.IoSpace → Refuses s reason
  by_mode : reason ≡ reasons.StackUnset → Refuses s reason
  by_shape : reason ≡ reasons.StackShape → Refuses s reason
  by_jump : reason ≡ reasons.NotCovered → Refuses s reason

-- the first of the four that applies
first_of_four : (s : SubjectView) (a b c d : Bool) (found : List Next) (r : Reason) →
    answer_by (if a then Some reasons.IoSpace else if b then Some reasons.StackUnset else if c then Some reasons.StackShape else if d then Some reasons.NotCovered else None) found ≡ Err r →
    Refuses s r
first_of_four s true b c d found r e = by_io (cc)
first_of_four s false true c d found r e = by_mode (cc)
first_of_four s false false true d found r e = by_shape (cc)
first_of_four s false false false true found r e = by_jump (cc)
first_of_four s false false false false found r e = absurd (cc)

-- whatever the successors are
among_four : (s : SubjectView) (instr : Instr) (found : List Next) (r : Reason) →
    answer_by (refusal (is_main s.row.proc) (is_inline s.cert s.row.address) instr s.row.state) found ≡ Err r → Refuses s r
among_four s instr found r e =
    first_of_four s (is_io instr) (uses_stack instr && is_unset s.row.state.mode) (has_no_shape (is_main s.row.proc) (is_inline s.cert s.row.address) instr s.row.state.shape)
    (jumps_anywhere instr s.row.state) found r e

pub refused : (s : SubjectView) (r : Reason) → step_of s ≡ Err r → Refuses s r
refused s r e = by s.decoded refl e
  where
    by_version : (version : Version) (instr : Instr) → step_by version s instr ≡ Err r → Refuses s r
    by_version One instr e =
        among_four s instr (nexts_of (ground_for s.rom s.cert) s.row.address (is_main s.row.proc) (is_inline s.cert s.row.address) instr s.row.state) r e
    by_version Two instr e =
        among_four s instr (nexts_of (ground_for s.rom s.cert) s.row.address (is_main s.row.proc) (is_inline s.cert s.row.address) instr s.row.state) r e
    by_version Three instr e =
        among_four s instr
        (refined_nexts (ground_for s.rom s.cert) s.row.address (is_main s.row.proc) (is_inline s.cert s.row.address) instr s.row.parts s.row.state) r e

    by : (d : Result Instr DecodeFault) → s.decoded ≡ d → step_for s d ≡ Err r → Refuses s r
    by (Err fault) is e = undecoded fault is (cc)
    by (Ok instr) is e = by_version s.cert.version instr e

-- where no instruction stands, the step answers so
undecoded_step : (s : SubjectView) (fault : DecodeFault) → s.decoded ≡ Err fault → step_of s ≡ Err (reasons.Decode fault)
undecoded_step s fault is = ap (step_for s) is

-- where the step gives successors, no reason up to 5 applies to the row
pub leads_on : (s : SubjectView) (nexts : List Next) → step_of s ≡ Ok nexts → PassesBelow s 6
leads_on s nexts e =
    passes s reasons.IoSpace 6 refl refl (decode_passes s (begins s) (λ fault bad. let b = undecoded_step s fault bad in cc)) (λ bad. cc)

-- nor do 9 and 10
pub leads_further : (s : SubjectView) (nexts : List Next) → step_of s ≡ Ok nexts → PassesBelow s 9 → PassesBelow s 11
leads_further s nexts e below =
    passes s reasons.StackShape 11 refl refl (passes s reasons.StackUnset 10 refl refl below (λ bad. cc)) (λ bad. cc)

-- a row that is refused for itself has no successors, and only its own bytes count
pub refused_fits_depth : (s : SubjectView) (r : Reason) → step_of s ≡ Err r → bytes_in s s.row.state ≤ s.proc.depth → FitsDepth s
refused_fits_depth s r e fits = record {
  row = fits;
  nexts = λ next leads. absurd (none next leads);
  calls = λ next callee calls. absurd (none next calls.leads);
}
  where
    nowhere : nexts_from s ≡ []
    nowhere = ap nexts_in e

    none : (next : Next) → Contains (nexts_from s) next → ⊥
    none next leads =
        let (k, within, is) = subst (λ (nexts : List Next). Contains nexts next) nowhere leads in
        omega (arith, within)

-- ---- the lowest reason of a row that is refused for itself

pub at_once : (s : SubjectView) (r : Reason) → step_of s ≡ Err r → number_of r < 6 → IsLowest s r
at_once s r e low = by (refused s r e)
  where
    by : Refuses s r → IsLowest s r
    by (undecoded fault is same) = subst (IsLowest s) (sym same) (record { applies = λ pass. pass is; lowest = begins s })
    by (by_io same) =
        subst (IsLowest s) (sym same)
        (record { applies = λ pass. pass (cc); lowest = decode_passes s (begins s) (λ fault bad. let b = undecoded_step s fault bad in cc) })
    by (by_mode same) = let n = ap number_of same in absurd (omega (arith, low, n))
    by (by_shape same) = let n = ap number_of same in absurd (omega (arith, low, n))
    by (by_jump same) = let n = ap number_of same in absurd (omega (arith, low, n))

-- after 6, 7 and 8; where 11 comes before the refusal, the row's own bytes are within the depth
pub behind_writes : (s : SubjectView) (r : Reason) → step_of s ≡ Err r → 6 ≤ number_of r → PassesBelow s 9 → (11 < number_of r → bytes_in s s.row.state ≤ s.proc.depth) → IsLowest s r
behind_writes s r e high below fits = by (refused s r e)
  where
    by : Refuses s r → IsLowest s r
    by (undecoded fault is same) = let n = ap number_of same in absurd (omega (arith, high, n))
    by (by_io same) = let n = ap number_of same in absurd (omega (arith, high, n))
    by (by_mode same) = subst (IsLowest s) (sym same) (record { applies = λ pass. pass (cc); lowest = below })
    by (by_shape same) =
        subst (IsLowest s) (sym same) (record { applies = λ pass. pass (cc); lowest = passes s reasons.StackUnset 10 refl refl below (λ bad. cc) })
    by (by_jump same) =
        let n = ap number_of same in
        let deep = refused_fits_depth s r e (fits (omega (arith, n))) in
        subst (IsLowest s) (sym same)
        (record {
          applies = λ pass. pass.jumps (cc);
          lowest = passes s reasons.StackDepth 12 refl refl (passes s reasons.StackShape 11 refl refl (passes s reasons.StackUnset 10 refl refl below (λ bad. cc)) (λ bad. cc)) deep;
        })

-- 11 is the lowest, where the row's own bytes are above the depth
pub too_deep : (s : SubjectView) (r : Reason) → step_of s ≡ Err r → 11 < number_of r → PassesBelow s 9 → (bytes_in s s.row.state ≤ s.proc.depth → ⊥) → IsLowest s reasons.StackDepth
too_deep s r e high below deeper = record {
  applies = λ deep. deeper deep.row;
  lowest = passes s reasons.StackShape 11 refl refl (passes s reasons.StackUnset 10 refl refl below (λ bad. not_below reasons.StackUnset bad (omega arith))) (λ bad. not_below reasons.StackShape bad (omega arith));
}
  where
    not_below : (other : Reason) → step_of s ≡ Err other → number_of other < 12 → ⊥
    not_below other bad low =
        let same : other ≡ r = cc in
        let n = ap number_of same in
        omega (arith, n, low, high)
