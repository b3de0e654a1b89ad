-- What the laws of src/owing.rt say: each is the contract of the function with its name.
use Rattle.std.specs.Prelude.{ℕ, List, pos, ◌≤ℤ◌}
use Rattle.board_step.specs.State.{IsState, BoardView}
use Rattle.check_cover.specs.declared.program.Callee.{Callee}
use Rattle.cert_form.specs.Contents.{CertificateView}
use Rattle.check_rules.specs.Table.{IsTimed}
use Rattle.check_laws.specs.Chain.{AcceptsInForm}
use Rattle.check_laws.specs.Placed.{Activations, ArePlaced, Under, owed}

abbrev pub ChainsOweSomething : Type 0
ChainsOweSomething =
    (rom : List ℕ) (cert : CertificateView) (lowest : Callee) (under : List ℕ) (c : Activations) (s : BoardView)
    → AcceptsInForm rom cert → Under cert lowest under → IsTimed lowest.proc → IsState s
    → ArePlaced rom cert lowest under c s → pos 0 ≤ℤ owed cert c s
