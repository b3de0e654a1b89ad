use Rattle.std.proofs.Common.{◌≡◌, ℕ, List, length, ap, subst, ◌∙◌}
use Rattle.address_map.specs.AddressMap.{MapView}
use Rattle.address_map.proofs.BoardLemmas.{galaxian_rom_len, raised_rom_len}
use Rattle.cert_lines.specs.BoardMaps.{map_named}
use Rattle.cert_lines.specs.declared.version.BoardMap.{BoardMap}
use Rattle.cert_lines.specs.declared.version.BoardMap.TheVariants.{Galaxian, Raised}
use Rattle.cert_form.specs.Contents.{CertificateView, map_of_board}
use Rattle.check_laws.specs.Acceptance.{Accepts}
use Rattle.cert_checker.specs.Certified.{AcceptedView}
use Rattle.cert_checker.proofs.accepted.Accepted.map.Goals as goal

-- the ROM of a board's map has the length that is given
named_rom_len : (board : BoardMap) (n : ℕ) → (map_named board n).rom_len ≡ n
named_rom_len Galaxian n = galaxian_rom_len n
named_rom_len Raised n = raised_rom_len n

-- the ROM of an accepted certificate's map has the length of the accepted ROM
fits : (rom : List ℕ) (cert : CertificateView) (m : MapView) → Accepts rom cert → m ≡ map_of_board cert → m.rom_len ≡ length rom
fits rom cert m a e = ap (λ (x : MapView). x.rom_len) e ∙ named_rom_len cert.board cert.rom_len ∙ a.fits_rom.same

pub returns-clause-length : goal.returns-clause-length
returns-clause-length c =
    subst (λ (v : AcceptedView). c.self.inside.map.rom_len ≡ length v.rom) c.self.view_is
    (fits c.self.inside.rom c.self.inside.certificate c.self.inside.map c.self.invariant.0 c.self.invariant.2)
