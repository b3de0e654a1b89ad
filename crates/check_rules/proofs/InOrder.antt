-- Rows that are judged in their order.
use Rattle.std.proofs.Common.{◌≡◌, ◌+◌, ◌∙◌, inl, inr, ℕ, List, Some, slice_get, sym, ap, subst, arith}
use Rattle.std.proofs.lemmas.Bool.{cases_lt}
use Rattle.cert_form.specs.Contents.{CertificateView}
use Rattle.check_rules.specs.Acceptance.{AreConsistent}
use Rattle.check_rules.specs.Table.{IsConsistent}
use Rattle.check_ways.proofs.ExitLemmas.{subject_once}
use Rattle.check_ways.specs.Ways.{IsNumbered, IsSubject, SubjectView}

-- no reason applies to one more row
pub one_more_row : (rom : List ℕ) (cert : CertificateView) (number : ℕ) (s : SubjectView) → AreConsistent rom cert number → IsSubject s → (s.rom ≡ rom) × (s.cert ≡ cert) →
    slice_get cert.rows number ≡ Some s.row → IsConsistent s → AreConsistent rom cert (number + 1)
one_more_row rom cert number s before is_s same at here k t low same_t at_t is_t =
    elim (cases_lt k number) [
      | inl less ↦ before k t less same_t at_t is_t
      | inr not ↦
          let e : number ≡ k = omega arith in
          let is : IsNumbered rom cert k s = record { is_subject = is_s; same = same; at = sym (ap (slice_get cert.rows) e) ∙ at } in
          subst IsConsistent (subject_once rom cert k s t is (record { is_subject = is_t; same = same_t; at = at_t })) here
    ]
