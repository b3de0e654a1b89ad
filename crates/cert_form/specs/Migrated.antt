-- Helper: a certificate migrated to a later version (docs/CERTIFICATE.md, "Migration").
use Rattle.std.specs.Prelude.{List, [], map, None}
use Rattle.abs_state.specs.declared.cell.KeptCell.{KeptCell}
use Rattle.cert_lines.specs.declared.row.Row.{Row}
use Rattle.cert_lines.specs.declared.version.BoardMap.{BoardMap}
use Rattle.cert_lines.specs.declared.version.BoardMap.TheVariants.{Galaxian}
use Rattle.cert_lines.specs.declared.version.Version.{Version}
use Rattle.cert_lines.specs.declared.version.Version.TheVariants.{One, Two, Three}
use Rattle.cert_flags.specs.FactParts.{told_by_parts}
use Rattle.cert_form.specs.Contents.{CertificateView}

-- version 1 becomes version 2; later versions stay
abbrev pub migrated_version : Version → Version
migrated_version One = Two
migrated_version Two = Two
migrated_version Three = Three

abbrev pub migrated_board : Version → BoardMap → BoardMap
migrated_board One board = Galaxian
migrated_board Two board = board
migrated_board Three board = board

abbrev pub migrated_cells : Version → List KeptCell → List KeptCell
migrated_cells One cells = []
migrated_cells Two cells = cells
migrated_cells Three cells = cells

abbrev pub migrated_row : Version → Row → Row
migrated_row One row = record row { state = record (row.state) { armed = 0 } }
migrated_row Two row = row
migrated_row Three row = row

-- a certificate of version 1 in version 2: it gets the Galaxian board and no cells; those of later versions stay
abbrev pub migrated : CertificateView → CertificateView
migrated c = record c {
  version = migrated_version c.version;
  board = migrated_board c.version c.board;
  cells = migrated_cells c.version c.cells;
  rows = map (migrated_row c.version) c.rows;
}

-- a row with flag parts in place of its flag fact
abbrev pub row_with_parts : Row → Row
row_with_parts row = record row {
  state = record (row.state) { flag = None };
  parts = told_by_parts row.state.flag row.parts;
}

-- a certificate in version 3, with flag parts in place of its flag facts
abbrev pub with_flag_parts : CertificateView → CertificateView
with_flag_parts c = record c { version = Three; rows = map row_with_parts c.rows }

-- a certificate in this version; as it is, if its own is later
abbrev pub migrated_to : Version → CertificateView → CertificateView
migrated_to One c = c
migrated_to Two c = migrated c
migrated_to Three c = with_flag_parts (migrated c)
