-- Parts that follow one another.
use Rattle.std.proofs.Common.{◌≡◌, ◌+◌, ◌++◌, ℕ, List, [], ◌∷◌, Option, Some, reverse, sym, subst, ap}
use Rattle.std.proofs.lemmas.List.{reverse-append}
use Rattle.cert_form.specs.Contents.{CertificateView}
use Rattle.dearest_way.specs.Along.{IsAlong, IsWayPart, first_row, last_row_of}
use Rattle.dearest_way.specs.declared.parts.WayPart.{WayPart}

-- one more part, to the front
pub along_more : (rom : List ℕ) (cert : CertificateView) (before from : Option ℕ) (parts : List WayPart) (part : WayPart) (sum more : ℕ) →
    IsAlong rom cert from (reverse parts) sum → from ≡ Some (last_row_of part.row part.left_by) → IsWayPart rom cert before (first_row (reverse parts)) sum part →
    more ≡ part.cost + sum → IsAlong rom cert before (reverse (parts ++ part ∷ [])) more
along_more rom cert before from parts part sum more along is_from is_part more_is =
    subst (λ (ps : List WayPart). IsAlong rom cert before ps more) (sym (reverse-append parts (part ∷ [])))
    (sum, more_is, is_part, subst (λ (o : Option ℕ). IsAlong rom cert o (reverse parts) sum) is_from along)

pub first_more : (parts : List WayPart) (part : WayPart) → Some part.row ≡ first_row (reverse (parts ++ part ∷ []))
first_more parts part = ap first_row (sym (reverse-append parts (part ∷ [])))
