-- The board of an accepted certificate: its map, the stack's region and the kept cells.
use Rattle.std.proofs.Common.{◌≡◌, ◌≤◌, ◌∙◌, ℕ, Bool, true, false, ltb, List, length, refl, arith}
use Rattle.std.specs.List.{All}
use Rattle.address_map.specs.Boards.{galaxian, raised}
use Rattle.address_map.specs.MapLaw.{IsMap}
use Rattle.address_map.specs.WorkRam.{work_start}
use Rattle.address_map.proofs.BoardLemmas.{galaxian_is_map, raised_is_map}
use Rattle.board_laws.specs.Region.{IsStackRegion}
use Rattle.abs_laws.specs.Writes.{IsPlaced}
use Rattle.cert_lines.specs.Version.{work_start_of}
use Rattle.cert_lines.specs.BoardMaps.{map_named}
use Rattle.cert_lines.specs.declared.version.BoardMap.{BoardMap}
use Rattle.cert_lines.specs.declared.version.BoardMap.TheVariants.{Galaxian, Raised}
use Rattle.cert_form.specs.Contents.{CertificateView, map_of_board}
use Rattle.cert_form.specs.Form.{IsCell}
use Rattle.check_laws.proofs.InForm.{each_or}
use Rattle.check_laws.specs.Chain.{AcceptsInForm}

named_is_map : (board : BoardMap) (n : ℕ) → 1 ≤ n → n ≤ 16384 → IsMap (map_named board n)
named_is_map Galaxian n some fits = galaxian_is_map n some fits
named_is_map Raised n some fits = raised_is_map n some fits

named_rom_len : (board : BoardMap) (n : ℕ) → (map_named board n).rom_len ≡ n
unfolding galaxian raised
named_rom_len Galaxian n = refl
named_rom_len Raised n = refl

named_work_start : (board : BoardMap) (n : ℕ) → work_start (map_named board n) ≡ work_start_of board
unfolding galaxian raised work_start
named_work_start board n = by board (ltb n 0x4000) refl
  where
    by : (board : BoardMap) (b : Bool) → ltb n 0x4000 ≡ b → work_start (map_named board n) ≡ work_start_of board
    by Galaxian true e = rw e refl
    by Galaxian false e = rw e refl
    by Raised true e = rw e refl
    by Raised false e = rw e refl

module _ (rom : List ℕ) (cert : CertificateView) (acc : AcceptsInForm rom cert) where
  pub fits_len : (map_of_board cert).rom_len ≡ length rom
  fits_len = named_rom_len cert.board cert.rom_len ∙ acc.accepts.fits_rom.same

  pub is_region : IsStackRegion (map_of_board cert) cert.region
  is_region =
      let f = acc.accepts.fits_rom in
      let w = acc.accepts.fits_work_ram in
      let top = acc.form.certificate.region.1 in
      record {
        is_map = named_is_map cert.board cert.rom_len (omega (arith, f.some, f.same)) (omega (arith, f.fits, f.same));
        low = w.low;
        some = w.some;
        top = w.top;
        top_fits = omega (arith, top);
      }

  pub are_placed : All (IsPlaced (map_of_board cert) cert.region) cert.cells
  are_placed k d p =
      let cell = each_or (IsCell cert.board) cert.cells k d acc.form.certificate.cells.each p in
      let start = named_work_start cert.board cert.rom_len in
      let from = cell.from in
      let below = cell.below in
      record { start = omega (arith, start, from); end = omega (arith, start, below); outside = acc.accepts.fits_work_ram.cells k d p }
