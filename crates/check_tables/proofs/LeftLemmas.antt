-- What exits leave can be compared, and is gathered row by row.
use Rattle.std.proofs.Common.{zero, suc, ◌↔◌, ◌≡◌, ◌<◌, ◌≤◌, ◌+◌, ◌==◌, ◌&&◌, ◌⊎◌, if◌then◌else◌, ℕ, Bool, true, false, Option, Some, None, Result, Ok, List, [], ◌∷◌, ◌++◌, slice_get, refl, sym, subst, ap, ◌∙◌, inl, inr, arith, rules}
use Rattle.std.specs.List.{All, Contains, list_any}
use Rattle.std.proofs.lemmas.Bool.{and_parts, cases_lt, eqb-true}
use Rattle.indexmap.proofs.CallerLemmas.{Contains-insert_key}
use Rattle.indexmap.specs.IndexSet.{insert_key}
use Rattle.std.proofs.lemmas.List.Elements.{All-push, Contains-append_cases, Contains-append_left}
use Rattle.std.proofs.lemmas.Option.{same_Some}
use Rattle.abs_state.specs.declared.state.AbsState.{AbsState}
use Rattle.check_cover.specs.Program.{is_main}
use Rattle.cert_lines.specs.declared.row.Row.{Row}
use Rattle.cert_form.specs.Contents.{CertificateView}
use Rattle.check_tables.specs.Exits.{exit_by}
use Rattle.check_tables.specs.Lefts.{AddsExit, AreLeft, IsLeft, IsLeftAt, left_of}
use Rattle.check_tables.specs.declared.left.Left.{Left}
use Rattle.intervals.specs.Range.{RangeView}
use Rattle.intervals.specs.contracts.pair.PairPartialEq as pair_eq
use Rattle.intervals.specs.contracts.reg_pair.RegPair as reg_pair
use Rattle.intervals.specs.contracts.reg_pair.RegPairPartialEq as reg_pair_eq
use Rattle.intervals.specs.declared.pair.Pair.{Pair}
use Rattle.intervals.specs.declared.reg_pair.RegPair.{RegPair}
use Rattle.board_fetch.specs.Decoded.{StandsAt}
use Rattle.std.specs.Option.{option_eq}
use Rattle.z80_decode.specs.declared.fault.DecodeFault.{DecodeFault}
use Rattle.z80_decode.specs.declared.instr.Instr.{Instr}
use denote.Enum.Bare.{same_true}
use Rattle.check_tables.specs.contracts.left.LeftPartialEq as left_eq

-- ---- what compares equal is equal

abbrev range_eq : RangeView → RangeView → Bool
range_eq r s = (r.low == s.low) && (r.high == s.high)

abbrev name_eq : RegPair → RegPair → Bool
name_eq a b = (reg_pair_eq.TheImpl.ghosts).eq a b

abbrev eq_pair : Pair → Pair → Bool
eq_pair p q = (pair_eq.TheImpl.ghosts).eq p q

split_pair : (p q : Pair) → eq_pair p q
    ≡ (range_eq p.word q.word && (range_eq p.high q.high && (range_eq p.low q.low && option_eq name_eq p.origin q.origin)))
split_pair p q = refl

same_name : (a b : RegPair) → name_eq a b ≡ true → a ≡ b
same_name a b e = same_true reg_pair.the_type (search rules) a b e

same_origin : (a b : Option RegPair) → option_eq name_eq a b ≡ true → a ≡ b
same_origin None None e = refl
same_origin None (Some b) e = cc
same_origin (Some a) None e = cc
same_origin (Some a) (Some b) e = ap Some (same_name a b e)

abbrev range_of : ℕ → ℕ → RangeView
range_of low high = record { low = low; high = high }

same_range : (r s : RangeView) → range_eq r s ≡ true → r ≡ s
same_range r s e =
    let parts = and_parts (r.low == s.low) (r.high == s.high) e in
    let low = eqb-true _ _ parts.0 in
    let high = eqb-true _ _ parts.1 in
    ap (λ n. range_of n r.high) low ∙ ap (range_of s.low) high

abbrev pair_of : RangeView → RangeView → RangeView → Option RegPair → Pair
pair_of w h l o = record { word = w; high = h; low = l; origin = o }

same_pair : (p q : Pair) → eq_pair p q ≡ true → p ≡ q
same_pair p q e =
    let word = and_parts (range_eq p.word q.word) _ (sym (split_pair p q) ∙ e) in
    let high = and_parts (range_eq p.high q.high) _ word.1 in
    let low = and_parts (range_eq p.low q.low) _ high.1 in
    let a = same_range p.word q.word word.0 in
    let b = same_range p.high q.high high.0 in
    let c = same_range p.low q.low low.0 in
    let d = same_origin p.origin q.origin low.1 in
    ap (λ w. pair_of w p.high p.low p.origin) a ∙ ap (λ h. pair_of q.word h p.low p.origin) b
    ∙ ap (λ l. pair_of q.word q.high l p.origin) c ∙ ap (pair_of q.word q.high q.low) d

abbrev pub eq_left : Left → Left → Bool
eq_left a b = (left_eq.TheImpl.ghosts).eq a b

split_left : (a b : Left) → eq_left a b
    ≡ ((a.mode == b.mode) && ((a.armed == b.armed) && (eq_pair a.af b.af && (eq_pair a.bc b.bc && (eq_pair a.de b.de && (eq_pair a.hl b.hl
    && (eq_pair a.ix b.ix && (eq_pair a.iy b.iy && (eq_pair a.alternate_af b.alternate_af && (eq_pair a.alternate_bc b.alternate_bc
    && (eq_pair a.alternate_de b.alternate_de && eq_pair a.alternate_hl b.alternate_hl)))))))))))
split_left a b = refl

pub same_left : (a b : Left) → eq_left a b ≡ true → a ≡ b
same_left a b e =
    let p0 = and_parts (a.mode == b.mode) _ (sym (split_left a b) ∙ e) in
    let p1 = and_parts (a.armed == b.armed) _ p0.1 in
    let p2 = and_parts (eq_pair a.af b.af) _ p1.1 in
    let p3 = and_parts (eq_pair a.bc b.bc) _ p2.1 in
    let p4 = and_parts (eq_pair a.de b.de) _ p3.1 in
    let p5 = and_parts (eq_pair a.hl b.hl) _ p4.1 in
    let p6 = and_parts (eq_pair a.ix b.ix) _ p5.1 in
    let p7 = and_parts (eq_pair a.iy b.iy) _ p6.1 in
    let p8 = and_parts (eq_pair a.alternate_af b.alternate_af) _ p7.1 in
    let p9 = and_parts (eq_pair a.alternate_bc b.alternate_bc) _ p8.1 in
    let p10 = and_parts (eq_pair a.alternate_de b.alternate_de) (eq_pair a.alternate_hl b.alternate_hl) p9.1 in
    ap (λ (x : ℕ). record a { mode = x }) (eqb-true _ _ p0.0)
    ∙ ap (λ (x : ℕ). record a { mode = b.mode; armed = x }) (eqb-true _ _ p1.0)
    ∙ ap (λ (x : Pair). record a { mode = b.mode; armed = b.armed; af = x }) (same_pair _ _ p2.0)
    ∙ ap (λ (x : Pair). record a { mode = b.mode; armed = b.armed; af = b.af; bc = x }) (same_pair _ _ p3.0)
    ∙ ap (λ (x : Pair). record a { mode = b.mode; armed = b.armed; af = b.af; bc = b.bc; de = x }) (same_pair _ _ p4.0)
    ∙ ap (λ (x : Pair). record a { mode = b.mode; armed = b.armed; af = b.af; bc = b.bc; de = b.de; hl = x }) (same_pair _ _ p5.0)
    ∙ ap (λ (x : Pair). record b { ix = x; iy = a.iy; alternate_af = a.alternate_af; alternate_bc = a.alternate_bc; alternate_de = a.alternate_de; alternate_hl = a.alternate_hl }) (same_pair _ _ p6.0)
    ∙ ap (λ (x : Pair). record b { iy = x; alternate_af = a.alternate_af; alternate_bc = a.alternate_bc; alternate_de = a.alternate_de; alternate_hl = a.alternate_hl }) (same_pair _ _ p7.0)
    ∙ ap (λ (x : Pair). record b { alternate_af = x; alternate_bc = a.alternate_bc; alternate_de = a.alternate_de; alternate_hl = a.alternate_hl }) (same_pair _ _ p8.0)
    ∙ ap (λ (x : Pair). record b { alternate_bc = x; alternate_de = a.alternate_de; alternate_hl = a.alternate_hl }) (same_pair _ _ p9.0)
    ∙ ap (λ (x : Pair). record b { alternate_de = x; alternate_hl = a.alternate_hl }) (same_pair _ _ p10.0)
    ∙ ap (λ (x : Pair). record b { alternate_hl = x }) (same_pair _ _ p10.1)

-- after an insertion a set has what it had, and what was inserted
inserted_only : (ks new : List Left) (k x : Left) (b : Bool) → new ≡ (if b then ks else ks ++ k ∷ []) → Contains new x →
    Contains ks x ⊎ (x ≡ k)
inserted_only ks new k x true is listed = inl (subst (λ (l : List Left). Contains l x) is listed)
inserted_only ks new k x false is listed =
    elim (Contains-append_cases ks (k ∷ []) x (subst (λ (l : List Left). Contains l x) is listed)) [
      | inl before ↦ inl before
      | inr here ↦ inr (in_one k x here)
    ]
  where
    in_one : (k x : Left) → Contains (k ∷ []) x → x ≡ k
    in_one k x (zero, within, is) = sym is
    in_one k x (suc n, within, is) = absurd (omega (arith, within))

-- ---- row by row

-- what the exits of the rows from `start` to below `end` leave
pub record Gathers (rom : List ℕ) (cert : CertificateView) (proc start end : ℕ) (lefts : List Left) : Type 0 where
  pub each : (k : ℕ) (left : Left) → start ≤ k → k < end → IsLeftAt rom cert k left → Contains lefts left
  pub only : (left : Left) → Contains lefts left → IsLeft rom cert proc left

abbrev AreRowsOf : CertificateView → ℕ → ℕ → ℕ → Type 0
AreRowsOf cert proc start end = (k : ℕ) (row : Row) → slice_get cert.rows k ≡ Some row → ((start ≤ k) × (k < end)) ↔ (row.proc ≡ proc)

pub gathers_more : (rom : List ℕ) (cert : CertificateView) (proc start end k : ℕ) (old new : List Left) → AreRowsOf cert proc start end → start ≤ k → k < end →
    Gathers rom cert proc start k old → AddsExit rom cert k old new → Gathers rom cert proc start (k + 1) new
gathers_more rom cert proc start end k old new rows from below gathers adds = record {
  each = λ n left over under is.
      elim (cases_lt n k) [
        | inl before ↦ adds.kept left (gathers.each n left over before is)
        | inr behind ↦
            let same : n ≡ k = omega (arith, under, behind) in
            adds.exit left (subst (λ (m : ℕ). IsLeftAt rom cert m left) same is)
      ];
  only = λ left listed.
      elim (adds.only left listed) [
        | inl before ↦ gathers.only left before
        | inr here ↦ record { number = k; here = here; of = (rows k here.row here.at).0 (from, below) }
      ];
}

pub gathers_all : (rom : List ℕ) (cert : CertificateView) (proc start end k : ℕ) (lefts : List Left) → AreRowsOf cert proc start end → end ≤ k →
    Gathers rom cert proc start k lefts → AreLeft rom cert proc lefts
gathers_all rom cert proc start end k lefts rows past gathers = record {
  each = λ left is.
      let place = (rows is.number is.here.row is.here.at).1 is.of in
      gathers.each is.number left place.0 (before is.number place.1) is.here;
  only = gathers.only;
}
  where
    before : (n : ℕ) → n < end → n < k
    before n under = omega (arith, under, past)

-- ---- one row

abbrev Tells : List ℕ → Row → Option AbsState → Type 0
Tells rom row only = (decoded : Result Instr DecodeFault) → StandsAt rom row.address decoded → only ≡ exit_by (is_main row.proc) row.parts row.state decoded

-- a row without an exit adds nothing
pub adds_none : (rom : List ℕ) (cert : CertificateView) (number : ℕ) (row : Row) (lefts : List Left) → slice_get cert.rows number ≡ Some row →
    Tells rom row None → AddsExit rom cert number lefts lefts
adds_none rom cert number row lefts at tells = record {
  exit = λ left is.
      let same : is.row ≡ row = same_Some is.row row (sym is.at ∙ at) in
      let none = tells is.decoded (subst (λ (r : Row). StandsAt rom r.address is.decoded) same is.stands) in
      let some = subst (λ (r : Row). exit_by (is_main r.proc) r.parts r.state is.decoded ≡ Some is.exit) same is.leaves in
      absurd (not_some is.exit (none ∙ some));
  kept = λ left listed. listed;
  only = λ left listed. inl listed;
}
  where
    not_some : (exit : AbsState) → None ≡ Some exit → ⊥
    not_some exit e = cc

-- where there is no row, nothing is added
pub adds_nothing : (rom : List ℕ) (cert : CertificateView) (number : ℕ) (lefts : List Left) → slice_get cert.rows number ≡ None → AddsExit rom cert number lefts lefts
adds_nothing rom cert number lefts none = record {
  exit = λ left is. absurd (not_some is.row (sym none ∙ is.at));
  kept = λ left listed. listed;
  only = λ left listed. inl listed;
}
  where
    not_some : (row : Row) → None ≡ Some row → ⊥
    not_some row e = cc

-- a row with an exit adds what the exit leaves
pub adds_one : (rom : List ℕ) (cert : CertificateView) (number : ℕ) (row : Row) (exit : AbsState) (old new : List Left) → slice_get cert.rows number ≡ Some row →
    Tells rom row (Some exit) → (stands : (instr : Instr) × StandsAt rom row.address (Ok instr)) → Contains new (left_of exit) →
    ((left : Left) → Contains old left → Contains new left) → ((left : Left) → Contains new left → Contains old left ⊎ (left ≡ left_of exit)) →
    AddsExit rom cert number old new
adds_one rom cert number row exit old new at tells stands has kept only = record {
  exit = λ left is.
      let same : is.row ≡ row = same_Some is.row row (sym is.at ∙ at) in
      let told = tells is.decoded (subst (λ (r : Row). StandsAt rom r.address is.decoded) same is.stands) in
      let some = subst (λ (r : Row). exit_by (is_main r.proc) r.parts r.state is.decoded ≡ Some is.exit) same is.leaves in
      let one : exit ≡ is.exit = same_Some exit is.exit (told ∙ some) in
      subst (λ (l : Left). Contains new l) (ap left_of one ∙ sym is.is) has;
  kept = kept;
  only = λ left listed.
      elim (only left listed) [
        | inl before ↦ inl before
        | inr here ↦
            inr record {
              row = row;
              at = at;
              decoded = Ok stands.0;
              stands = stands.1;
              exit = exit;
              leaves = sym (tells (Ok stands.0) stands.1);
              is = here;
            }
      ];
}

-- the same for an insertion into a set
pub adds_inserted : (rom : List ℕ) (cert : CertificateView) (number : ℕ) (row : Row) (exit : AbsState) (old new : List Left) (left : Left) →
    slice_get cert.rows number ≡ Some row → Tells rom row (Some exit) → (stands : (instr : Instr) × StandsAt rom row.address (Ok instr)) →
    left ≡ left_of exit → new ≡ insert_key eq_left old left → AddsExit rom cert number old new
adds_inserted rom cert number row exit old new left at tells stands is inserted =
    adds_one rom cert number row exit old new at tells stands
    (subst (λ (l : Left). Contains new l) is
    (subst (λ (ls : List Left). Contains ls left) (sym inserted) (Contains-insert_key eq_left same_left old left)))
    (λ x before. subst (λ (ls : List Left). Contains ls x) (sym inserted) (stays (list_any (eq_left left) old) x before))
    (λ x listed.
    elim (inserted_only old new left x (list_any (eq_left left) old) inserted listed) [
      | inl before ↦ inl before
      | inr here ↦ inr (here ∙ is)
    ])
  where
    stays : (b : Bool) (x : Left) → Contains old x → Contains (if b then old else old ++ left ∷ []) x
    stays true x before = before
    stays false x before = Contains-append_left old (left ∷ []) x before

-- ---- what is gathered

-- a property of each element and of a pushed one holds of each after the push
pub all_kept : {X : Type 0} (P : X → Type 0) (old new : List X) (x : X) (b : Bool) → new ≡ (if b then old ++ x ∷ [] else old) → All P old → P x → All P new
all_kept P old new x true is all here = subst (λ xs. All P xs) (sym is) (All-push P old x all here)
all_kept P old new x false is all here = subst (λ xs. All P xs) (sym is) all
