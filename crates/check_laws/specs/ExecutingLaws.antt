-- What the laws of src/executing.rt say: each is the contract of the function with its name.
use Rattle.std.specs.Prelude.{ℕ, List}
use Rattle.board_step.specs.Env.{IsEnv}
use Rattle.board_step.specs.State.{IsState, BoardView}
use Rattle.board_step.specs.declared.env.Env.{Env}
use Rattle.check_cover.specs.declared.program.Callee.{Callee}
use Rattle.cert_form.specs.Contents.{CertificateView}
use Rattle.check_laws.specs.Chain.{AcceptsInForm}
use Rattle.check_laws.specs.Placed.{Activations, ArePlaced, IsMainOrTimed, Under}
use Rattle.check_laws.specs.Steps.{Executed}

abbrev pub ChainsTakeInstructions : Type 0
ChainsTakeInstructions =
    (rom : List ℕ) (cert : CertificateView) (lowest : Callee) (under : List ℕ) (c : Activations) (s : BoardView) (env : Env)
    → AcceptsInForm rom cert → Under cert lowest under → IsMainOrTimed lowest → IsState s → IsEnv env → ArePlaced rom cert lowest under c s
    → Executed rom cert lowest under c s env
