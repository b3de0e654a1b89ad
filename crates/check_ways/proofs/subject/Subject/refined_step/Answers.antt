use Rattle.std.proofs.Common.{◌≡◌, ◌∙◌, List, ap}
use Rattle.abs_draft.specs.Ground.{ground_of}
use Rattle.abs_state.specs.declared.cell.KeptCell.{KeptCell}
use Rattle.address_map.specs.AddressMap.{MapView}
use Rattle.cert_form.specs.Contents.{map_of_board}
use Rattle.cert_lines.specs.declared.row.Row.{Row}
use Rattle.check_cover.specs.Program.{ground_for, is_inline}
use Rattle.check_ways.proofs.SubjectLemmas.{same_step}
use Rattle.check_ways.specs.Ways.{SubjectView}
use Rattle.refined_step.specs.Refined.{step_told}
use Rattle.check_ways.proofs.subject.Subject.refined_step.Goals as goal

pub returns-clause-told : goal.returns-clause-told
returns-clause-told c =
    let s = c.args.self.now in
    let cert = c.self.inside.certificate.now in
    let row : c.self.inside.row ≡ s.row = ap (λ (x : SubjectView). x.row) c.self.view_is in
    let made : c.of.result ≡ ground_of c.self.inside.rom.now c.self.inside.map.now c.cells.result.now = c.of.ensures in
    let with_map : ground_of c.self.inside.rom.now c.self.inside.map.now c.cells.result.now
    ≡ ground_of c.self.inside.rom.now (map_of_board cert) c.cells.result.now =
    ap (λ (m : MapView). ground_of c.self.inside.rom.now m c.cells.result.now) c.self.invariant.1 in
    let with_cells : ground_of c.self.inside.rom.now (map_of_board cert) c.cells.result.now ≡ ground_for c.self.inside.rom.now cert =
    ap (λ (cells : List KeptCell). ground_of c.self.inside.rom.now (map_of_board cert) cells) c.cells.ensures in
    let ground : c.of.result ≡ ground_for s.rom s.cert =
    made ∙ with_map ∙ with_cells ∙ ap (λ (x : SubjectView). ground_for x.rom x.cert) c.self.view_is in
    let address : c.row.inside.address ≡ s.row.address = ap (λ (r : Row). r.address) c.row.view_is ∙ ap (λ (r : Row). r.address) row in
    let inline : c.is_inline.result ≡ is_inline s.cert s.row.address =
    c.is_inline.ensures ∙ ap (λ (x : SubjectView). is_inline x.cert c.row.inside.address) c.self.view_is ∙ ap (is_inline s.cert) address in
    let parts : c.row.inside.parts.now ≡ s.row.parts = ap (λ (r : Row). r.parts) c.row.view_is ∙ ap (λ (r : Row). r.parts) row in
    let state : c.self.inside.state ≡ s.row.state = c.self.invariant.3 ∙ ap (λ (x : SubjectView). x.row.state) c.self.view_is in
    c.refined_step.ensures.told
    ∙ same_step step_told c.of.result (ground_for s.rom s.cert) c.row.inside.address s.row.address c.is_inline.result (is_inline s.cert s.row.address)
    c.args.instr.now c.row.inside.parts.now s.row.parts c.self.inside.state s.row.state ground address inline parts state
