-- A row of a timed procedure is no restart, and a jump of a row that is none stays in its procedure.
use Rattle.std.proofs.Common.{◌≡◌, ◌&&◌, ℕ, Bool, true, false, not, if◌then◌else◌, is_some, IsSome, Option, Some, None, Result, Ok, Err, refl, sym, ap}
use Rattle.abs_step.specs.declared.next.Next.{Next}
use Rattle.cert_lines.specs.declared.version.Version.{Version}
use Rattle.cert_lines.specs.declared.version.Version.TheVariants.{One, Two, Three}
use Rattle.check_steps.specs.Restarts.{is_sub, loads_sp, restarted, restarts_by}
use Rattle.check_ways.specs.Ways.{SubjectView, jump_to, jump_way, restarts}
use Rattle.z80_decode.specs.declared.fault.DecodeFault.{DecodeFault}
use Rattle.z80_decode.specs.declared.instr.Instr.{Instr}

-- a row of a timed procedure is no restart
pub timed_stays : (s : SubjectView) → IsSome s.proc.time → restarts s ≡ false
timed_stays s timed = by s.cert.version s.decoded
  where
    never : (sub : Bool) (time : Option ℕ) (loads : Bool) → IsSome time → (sub && (not (is_some time) && loads)) ≡ false
    never false time loads some = refl
    never true None loads some = cc
    never true (Some t) loads some = refl

    by : (version : Version) (decoded : Result Instr DecodeFault) → restarts_by version s.proc decoded ≡ false
    by One decoded = refl
    by Two decoded = refl
    by Three (Err fault) = refl
    by Three (Ok instr) = never (is_sub s.proc.kind) s.proc.time (loads_sp instr) timed

-- a jump of a row that is no restart stays in its procedure
pub own_jump : (s : SubjectView) (next : Next) → restarts s ≡ false → jump_to s next s.row.proc next.state ≡ jump_way s next
own_jump s next stays =
    ap (λ (b : Bool). jump_to s next (if b then 0 else s.row.proc) (if b then restarted next.state else next.state)) (sym stays)
