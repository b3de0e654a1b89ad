-- What ends a command that shows a program.
use Rattle.std.proofs.Common.{◌≡◌, ◌⊎◌, inl, inr, refl, Result, Ok, Err, subst}
use Rattle.std.specs.Result.{IfOk}
use Rattle.command_parts.specs.declared.stop.Stop.{Stop}
use Rattle.command_parts.specs.declared.stop.Stop.TheVariants.{Device, OutOfMemory, Refused}
use Rattle.texts.specs.Device.{DeviceState, HasFailed}

-- the reasons for an early end
pub stop_cases : (stop : Stop) → (stop ≡ Refused) ⊎ ((stop ≡ Device) ⊎ (stop ≡ OutOfMemory))
stop_cases Refused = inl refl
stop_cases Device = inr (inl refl)
stop_cases OutOfMemory = inr (inr refl)

-- what holds anyway holds at Ok
pub at_ok : {T E : Type 0} (result : Result T E) (Holds : Type 0) → Holds → IfOk result (λ _. Holds)
at_ok (Ok _) Holds holds = holds
at_ok (Err _) Holds holds = tt

-- a sink that failed after it stayed the same failed
pub failed_from : {X : Type 0} (state : X → DeviceState) (before same new : X) → before ≡ same → HasFailed (state before) (state new) → HasFailed (state same) (state new)
failed_from {X} state before same new kept failed = subst (λ (x : X). HasFailed (state x) (state new)) kept failed
