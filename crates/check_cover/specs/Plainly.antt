-- Rows without facts and flag parts: they cover a state however it arrives (docs/CHECKER.md, "How long judging takes").
use Rattle.std.specs.Prelude.{ℕ, ◌≡◌, []}
use Rattle.abs_state.specs.Covers.{CoversState}
use Rattle.abs_state.specs.declared.state.AbsState.{AbsState}
use Rattle.cert_lines.specs.declared.row.Row.{Row}
use Rattle.cert_form.specs.Contents.{CertificateView}
use Rattle.check_cover.specs.Program.{IsRowAt}

-- some row at an address of a procedure has no facts and no flag parts, and covers a state
pub record CoversPlainly (cert : CertificateView) (proc address : ℕ) (state : AbsState) : Type 0 where
  pub row : Row
  pub at : IsRowAt cert proc address row
  pub facts : row.facts ≡ []
  pub parts : row.parts ≡ []
  pub covers : CoversState row.state state
