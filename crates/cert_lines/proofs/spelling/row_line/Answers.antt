use Rattle.std.proofs.Common.{◌++◌, ◌∙◌, ap, codes}
use Rattle.std.specs.List.{join_with_byte}
use Rattle.cert_lines.specs.Line.{fields_of}
use Rattle.cert_lines.specs.Row.{last_fields, pair_fields, place_fields, place_of}
use Rattle.cert_lines.specs.declared.row.Row.{Row}
use Rattle.cert_lines.proofs.SpellingLemmas.{row_text, texts_made}
use Rattle.cert_lines.proofs.spelling.row_line.Goals as goal

pub returns : goal.returns
unfolding fields_of
returns c =
    let row = c.args.row.now in
    let pairs = c.add_pairs.ensures.value
    ∙ ap (λ (r : Row). c.add_byte.new.self ++ join_with_byte 32 (pair_fields r.state.pairs)) c.row.view_is in
    texts_made (codes "row ") (join_with_byte 32 (place_fields c.args.version (place_of row)))
    (join_with_byte 32 (pair_fields row.state.pairs)) (join_with_byte 32 (last_fields c.args.version row))
    c.line_of-line.result c.add_place.new.line c.add_byte.new.self c.add_pairs.new.line c.add_byte-2.new.self
    c.add_last.new.line c.add_byte-3.new.self c.line_of-line.ensures.value c.add_place.ensures.value
    c.add_byte.ensures.value pairs c.add_byte-2.ensures.value c.add_last.ensures.value c.add_byte-3.ensures.value
    ∙ row_text c.args.version row
