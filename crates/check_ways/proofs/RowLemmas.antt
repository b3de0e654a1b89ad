-- The rows at an address: whether there is one, and which of them are asked.
use Rattle.std.proofs.Common.{◌≡◌, ◌<◌, ◌≤◌, ◌-◌, ◌+◌, ◌↔◌, ℕ, leb, IsTrue, Some, length, slice_get, inl, inr, arith}
use Rattle.std.proofs.lemmas.Bool.{cases_lt, le-leb, leb-true}
use Rattle.std.proofs.lemmas.Option.{slice_get_cases}
use Rattle.cert_lines.specs.declared.row.Row.{Row}
use Rattle.cert_form.specs.Contents.{CertificateView}
use Rattle.check_ways.specs.Pays.{AreOne}

-- the numbers from `start` to below `end` are those of the rows at an address of a procedure
abbrev AreRows : CertificateView → (proc address start end : ℕ) → Type 0
AreRows cert proc address start end =
    (k : ℕ) (row : Row) → slice_get cert.rows k ≡ Some row → ((start ≤ k) × (k < end)) ↔ ((row.proc ≡ proc) × (row.address ≡ address))

-- two rows or more are not one
two_rows : (cert : CertificateView) (proc address start end : ℕ) → AreRows cert proc address start end → end ≤ length cert.rows → start + 1 < end →
    AreOne cert proc address → ⊥
two_rows cert proc address start end rows within two one =
    elim (slice_get_cases cert.rows start).1 [
      | inl first ↦
          elim (slice_get_cases cert.rows (start + 1)).1 [
            | inl second ↦
                let same : start ≡ start + 1 =
                one start (start + 1) first.0 second.0 first.2 ((rows start first.0 first.2).0 (omega arith, omega (arith, two))) second.2
                ((rows (start + 1) second.0 second.2).0 (omega arith, two)) in
                absurd (omega (arith, same))
            | inr past ↦ let behind = past.0 in absurd (omega (arith, behind, within, two))
          ]
      | inr past ↦ let behind = past.0 in absurd (omega (arith, behind, within, two))
    ]

-- there is at most one row where there is at most one number
pub one_row : (cert : CertificateView) (proc address start end few : ℕ) → AreRows cert proc address start end → end ≤ length cert.rows → few ≡ end - start →
    IsTrue (leb few 1) ↔ AreOne cert proc address
one_row cert proc address start end few rows within is = (
  (λ yes i j row other at place at_other place_other.
      let upto : few ≤ 1 = leb-true few 1 yes in
      let here = (rows i row at).1 place in
      let there = (rows j other at_other).1 place_other in
      let h = here.0 in
      let k = here.1 in
      let l = there.0 in
      let m = there.1 in
      omega (arith, upto, is, h, k, l, m)),
  (λ one.
      elim (cases_lt (start + 1) end) [
        | inl two ↦ absurd (two_rows cert proc address start end rows within two one)
        | inr upto ↦ le-leb few 1 (omega (arith, is, upto))
      ]),
)
