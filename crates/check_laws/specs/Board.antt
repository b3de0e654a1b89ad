-- Trusted: the board on which a certificate's ROM runs.
use Rattle.std.specs.Prelude.{ℕ, List}
use Rattle.board_step.specs.Hardware.{Hardware, hardware_of}
use Rattle.cert_form.specs.Contents.{CertificateView, map_of_board}

-- the ROM with its certificate's map
abbrev pub board_of : List ℕ → CertificateView → Hardware
board_of rom cert = hardware_of rom (map_of_board cert)
