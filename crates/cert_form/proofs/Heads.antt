-- The lines up to the budget were read before any line of a list.
use Rattle.std.proofs.Common.{◌≡◌, ◌≤◌, ℕ, ◌∷◌, [], List, length, refl, ap, ◌∙◌, arith, length-append}
use Rattle.cert_lines.specs.declared.line.Line.{Line}
use Rattle.cert_lines.specs.declared.line.Line.TheVariants as lines
use Rattle.cert_lines.specs.declared.version.BoardMap.{BoardMap}
use Rattle.cert_lines.specs.declared.version.BoardMap.TheVariants.{Galaxian}
use Rattle.cert_lines.specs.declared.version.Version.{Version}
use Rattle.cert_lines.specs.declared.version.Version.TheVariants.{One, Two, Three}
use Rattle.cert_form.specs.Contents.{CertificateView}
use Rattle.cert_form.specs.Form.{SuitsVersion}
use Rattle.cert_form.specs.Text.{HasHead, board_lines, head_lines, list_lines}
use Rattle.cert_form.specs.Reader.{IsListed, MayFollow, ReaderView, lines_read, stage_rank}
use Rattle.cert_form.proofs.BadLines.{begun_by}
use Rattle.cert_form.proofs.Completes.{completes}
use Rattle.cert_form.proofs.Order.{ordered}
use Rattle.cert_form.proofs.OrderOfLists.{at_lists}
use Rattle.cert_form.proofs.Texts.{Stands}

galaxian : (v : Version) (c : CertificateView) → SuitsVersion v c → v ≡ One → c.board ≡ Galaxian
galaxian One c suits old = suits.board
galaxian Two c suits old = cc
galaxian Three c suits old = cc

length_board : (v : Version) (b d : BoardMap) → (v ≡ One → b ≡ Galaxian) → (v ≡ One → d ≡ Galaxian) →
    length (board_lines v b) ≡ length (board_lines v d)
length_board One b d here there = rw (here refl, there refl) refl
length_board Two b d here there = refl
length_board Three b d here there = refl

-- certificates of one version have the same number of lines up to the budget
length_head : (c d : CertificateView) → c.version ≡ d.version → SuitsVersion c.version c → SuitsVersion d.version d →
    length (head_lines c) ≡ length (head_lines d)
length_head c d same suits_c suits_d =
    let boards = length_board d.version c.board d.board (λ old. galaxian c.version c suits_c (same ∙ old)) (galaxian d.version d suits_d) in
    let first = ap (λ v. length (board_lines v c.board)) same in
    omega (
      arith,
      boards,
      first,
      length-append (board_lines c.version c.board) (lines.Stack c.region ∷ lines.Budget c.budget ∷ []),
      length-append (board_lines d.version d.board) (lines.Stack d.region ∷ lines.Budget d.budget ∷ []),
    )

-- a line of a list comes after the budget
listed_rank : (p : ReaderView) (line : Line) → MayFollow p line → IsListed line → (5 ≤ stage_rank p.stage) × (stage_rank p.stage ≤ 9)
listed_rank p (lines.Proc proc) may is = (omega (arith, ap stage_rank may.0), omega (arith, ap stage_rank may.0))
listed_rank p (lines.Split split) may is = (may.0.from, omega (arith, may.0.to))
listed_rank p (lines.Inline address) may is = (may.0.from, omega (arith, may.0.to))
listed_rank p (lines.Cell cell) may is = (may.0.from, omega (arith, may.0.to))
listed_rank p (lines.Row row) may is = (may.0.from, omega (arith, may.0.to))
listed_rank p (lines.Header version) may is = absurd is
listed_rank p (lines.Rom len) may is = absurd is
listed_rank p (lines.Board board) may is = absurd is
listed_rank p (lines.Stack region) may is = absurd is
listed_rank p (lines.Budget budget) may is = absurd is
listed_rank p lines.End may is = absurd is

pub has_head : (bytes : List ℕ) (p : ReaderView) (rest : List ℕ) (line : Line) → Stands bytes p rest → MayFollow p line →
    IsListed line → HasHead bytes
has_head bytes p rest line stands may is =
    let rank = listed_rank p line may is in
    let whole = completes p (ordered p stands.form) in
    let same = length_head whole.0 p.contents whole.1.version whole.1.certificate.version stands.form.version in
    record {
      number = length (lines_read p);
      begins = begun_by bytes p rest stands whole.0 whole.1;
      head = omega (
        arith,
        same,
        ap length (at_lists p.stage p.contents rank.0 rank.1),
        length-append (head_lines p.contents) (list_lines p.contents),
      );
    }
