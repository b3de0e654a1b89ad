-- How the links between the rows of a procedure are gathered.
use Rattle.std.proofs.Common.{◌≡◌, ◌<◌, ◌≤◌, ◌+◌, ◌-◌, ◌⊎◌, ◌↔◌, ◌∙◌, ◌++◌, ℕ, true, false, List, [], ◌∷◌, Option, Some, None, Contains, length, get_or, slice_get, take, drop, min, inl, inr, sym, ap, subst, refl, arith, ltb, leb}
use Rattle.std.specs.List.Sorted.{IsPartitionPoint, IsPermutation}
use Rattle.std.proofs.lemmas.Bool.{cases_lt, leb-false, leb-true, ltb-false, ltb-true}
use Rattle.std.proofs.lemmas.List.{get_or-drop, get_or-take, length-drop, length-take, take_more}
use Rattle.std.proofs.lemmas.List.Elements.{Contains-append_left, Contains-push, Contains-push_cases}
use Rattle.std.proofs.lemmas.List.Sorted.{Contains-permutation, IsPermutation-sym}
use Rattle.std.proofs.lemmas.Option.{same_Some, slice_get_cases, slice_get_within}
use Rattle.abs_step.specs.declared.next.Next.{Next}
use Rattle.abs_step.specs.declared.next.NextKind.{NextKind}
use Rattle.cert_lines.specs.declared.row.Row.{Row}
use Rattle.cert_form.specs.Contents.{CertificateView}
use Rattle.check_ways.proofs.ExitLemmas.{subject_once}
use Rattle.check_ways.proofs.RestartLemmas.{own_jump, timed_stays}
use Rattle.check_ways.specs.Pays.{IsGreatest, IsWalked, Lands, LieBetween, LiesBetween}
use Rattle.check_ways.specs.Ways.{IsJump, IsNumbered, IsReturn, IsWay, SubjectView, WayView, nexts_from}
use Rattle.path_time.specs.Links.{Added, AreLinks, HasLink, HaveRows, IsAny, IsArrival, IsArrivalOfSome, IsLink, IsWithin, arrival_by, arrival_of}
use Rattle.path_time.specs.Table.{AreLinksFrom}
use Rattle.path_time.specs.Walks.{AreApart, Belongs, MayComeNext}
use Rattle.path_time.specs.declared.links.Link.{Link}

-- ---- links that were added

-- nothing, if none of the rows may come next
pub added_none : (rom : List ℕ) (cert : CertificateView) (from : ℕ) (Among : ℕ → Type 0) (links : List Link) →
    ((to : ℕ) → Among to → MayComeNext rom cert from to → ⊥) → Added rom cert from Among links links
added_none rom cert from Among links none = record {
  kept = λ link listed. listed;
  only = λ link listed. inl listed;
  all = λ to among next. absurd (none to among next);
}

-- those to fewer rows
pub added_fewer : (rom : List ℕ) (cert : CertificateView) (from : ℕ) (Among Fewer : ℕ → Type 0) (old new : List Link) →
    ((to : ℕ) → Fewer to → MayComeNext rom cert from to → Among to) → Added rom cert from Among old new → Added rom cert from Fewer old new
added_fewer rom cert from Among Fewer old new among added = record {
  kept = added.kept;
  only = added.only;
  all = λ to few next. added.all to (among to few next) next;
}

-- some links, and then others
pub added_both : (rom : List ℕ) (cert : CertificateView) (from : ℕ) (One Other Both : ℕ → Type 0) (a b c : List Link) →
    ((to : ℕ) → Both to → One to ⊎ Other to) → Added rom cert from One a b → Added rom cert from Other b c → Added rom cert from Both a c
added_both rom cert from One Other Both a b c which first then = record {
  kept = λ link listed. then.kept link (first.kept link listed);
  only = λ link listed. elim (then.only link listed) [ inl before ↦ first.only link before | inr is ↦ inr is ];
  all = λ to both next.
      elim (which to both) [
        | inl one ↦
            let has = first.all to one next in
            (has.0, then.kept (record { from = from; to = to; cost = has.0 }) has.1)
        | inr other ↦ then.all to other next
      ];
}

-- one link
pub added_one : (rom : List ℕ) (cert : CertificateView) (from to cost : ℕ) (old new : List Link) → AreApart rom cert from to cost →
    new ≡ old ++ record { from = from; to = to; cost = cost } ∷ [] → Added rom cert from (λ t. t ≡ to) old new
added_one rom cert from to cost old new apart is =
    let one : Link = record { from = from; to = to; cost = cost } in
    let at_end = old ++ one ∷ [] in
    subst (λ (ls : List Link). Added rom cert from (λ t. t ≡ to) old ls) (sym is)
    record {
      kept = λ link listed. Contains-append_left old (one ∷ []) link listed;
      only = λ link listed.
          elim (Contains-push_cases old one link listed) [
            | inl before ↦ inl before
            | inr same ↦ inr (subst (λ (l : Link). (l.from ≡ from) × IsLink rom cert l) same (refl, apart))
          ];
      all = λ t same next.
          (cost, subst (λ (n : ℕ). Contains at_end (record { from = from; to = n; cost = cost })) (sym same) (Contains-push old one));
    }

-- one more row
pub added_next : (rom : List ℕ) (cert : CertificateView) (from start to : ℕ) (a b c : List Link) → Added rom cert from (IsWithin start to) a b →
    Added rom cert from (λ t. t ≡ to) b c → Added rom cert from (IsWithin start (to + 1)) a c
added_next rom cert from start to a b c first then =
    added_both rom cert from (IsWithin start to) (λ t. t ≡ to) (IsWithin start (to + 1)) a b c
    (λ t within.
    elim (cases_lt t to) [
      | inl less ↦ inl (within.0, less)
      | inr not ↦ let same : t ≡ to = omega (arith, within.1, not) in inr same
    ])
    first then

-- if two rows have no cost between them, none comes next
pub not_next : (rom : List ℕ) (cert : CertificateView) (from to : ℕ) (found : Option ℕ) → IsGreatest (LieBetween rom cert from to) found →
    ((cost : ℕ) → found ≡ Some cost → ⊥) → (t : ℕ) → t ≡ to → MayComeNext rom cert from t → ⊥
not_next rom cert from to None greatest none t same next =
    greatest next.cost (subst (λ (n : ℕ). LieBetween rom cert from n next.cost) same next.lie)
not_next rom cert from to (Some cost) greatest none t same next = none cost refl

-- ---- where a row leads

-- the rows at the address to which a successor leads
pub within_if_arrival : (s : SubjectView) (next : Next) (address start end : ℕ) → Some address ≡ arrival_of s next →
    ((k : ℕ) (row : Row) → slice_get s.cert.rows k ≡ Some row → ((start ≤ k) × (k < end)) ↔ ((row.proc ≡ s.row.proc) × (row.address ≡ address))) →
    (to : ℕ) → IsArrival s next to → IsWithin start end to
within_if_arrival s next address start end leads rows to arrival =
    (rows to arrival.row arrival.is).1 (arrival.of, same_Some arrival.row.address address (sym arrival.at ∙ sym leads))

-- by a jump; a row on a walk is no restart
arrives_by_jump : (s : SubjectView) (to : ℕ) (target : Row) (way : WayView) (jump : IsJump s way) → IsWalked s → slice_get s.cert.rows to ≡ Some target →
    Lands s.cert way target → IsArrival s jump.next to
arrives_by_jump s to target way jump walked at lands =
    let own = own_jump s jump.next (timed_stays s walked.timed) in
    let landed = subst (λ (w : WayView). Lands s.cert w target) (jump.is ∙ sym own) lands in
    record {
      row = target;
      is = at;
      of = landed.at.of;
      at = subst (λ (k : NextKind). arrival_by s jump.next k ≡ Some target.address) (sym jump.kind) (ap Some (sym landed.at.at));
    }

-- back from a call
arrives_by_return : (s : SubjectView) (to : ℕ) (target : Row) (way : WayView) (back : IsReturn s way) → slice_get s.cert.rows to ≡ Some target → Lands s.cert way target →
    IsArrival s back.next to
arrives_by_return s to target way back at lands =
    let landed = subst (λ (w : WayView). Lands s.cert w target) back.is lands in
    record {
      row = target;
      is = at;
      of = landed.at.of;
      at = subst (λ (k : NextKind). arrival_by s back.next k ≡ Some target.address) (sym back.calls.kind) (ap Some (sym landed.at.at));
    }

arrives_by_way : (s : SubjectView) (nexts : List Next) (to : ℕ) (target : Row) (way : WayView) → nexts_from s ≡ nexts → IsWalked s →
    slice_get s.cert.rows to ≡ Some target → IsWay s way → Lands s.cert way target → IsArrivalOfSome s nexts to
arrives_by_way s nexts to target way same walked at (inl jump) lands = record {
  next = jump.next;
  among = subst (λ (ns : List Next). Contains ns jump.next) same jump.leads;
  is = arrives_by_jump s to target way jump walked at lands;
}
arrives_by_way s nexts to target way same walked at (inr back) lands = record {
  next = back.next;
  among = subst (λ (ns : List Next). Contains ns back.next) same back.calls.leads;
  is = arrives_by_return s to target way back at lands;
}

-- a row that may come next is where one of the successors leads
pub arrives : (rom : List ℕ) (cert : CertificateView) (from : ℕ) (s : SubjectView) (nexts : List Next) → IsNumbered rom cert from s → nexts_from s ≡ nexts →
    (to : ℕ) → MayComeNext rom cert from to → IsArrivalOfSome s nexts to
arrives rom cert from s nexts is same to next =
    let lie = next.lie in
    let lies = subst (λ (x : SubjectView). LiesBetween x lie.target next.cost) (subject_once rom cert from lie.subject s lie.is_from is) lie.lies in
    let at = subst (λ (c : CertificateView). slice_get c.rows to ≡ Some lie.target) (sym is.same.1) lie.is_to in
    arrives_by_way s nexts to lie.target lies.way same lies.walked at lies.leads.is_way lies.leads.lands

-- if a row has no successors, none may come next
pub none_arrives : (rom : List ℕ) (cert : CertificateView) (from : ℕ) (s : SubjectView) → IsNumbered rom cert from s → nexts_from s ≡ [] → (to : ℕ) →
    MayComeNext rom cert from to → ⊥
none_arrives rom cert from s is none to next =
    let arrival = arrives rom cert from s [] is none to next in
    absurd (omega (arith, arrival.among.1))

-- one more successor
pub arrival_more : (s : SubjectView) (nexts : List Next) (k : ℕ) (item : Next) → item ≡ get_or nexts k item → k < length nexts → (to : ℕ) →
    IsArrivalOfSome s (take (k + 1) nexts) to → IsArrivalOfSome s (take k nexts) to ⊎ IsArrival s item to
arrival_more s nexts k item is within to arrival =
    let longer = take_more nexts k item within ∙ ap (λ (n : Next). take k nexts ++ n ∷ []) (sym is) in
    let among = subst (λ (ns : List Next). Contains ns arrival.next) longer arrival.among in
    elim (Contains-push_cases (take k nexts) item arrival.next among) [
      | inl before ↦ inl record { next = arrival.next; among = before; is = arrival.is }
      | inr same ↦ inr (subst (λ (n : Next). IsArrival s n to) (sym same) arrival.is)
    ]

-- ---- the links from the rows of a procedure

-- from the rows from `start` to below `end`
pub record Gathered (rom : List ℕ) (cert : CertificateView) (proc start end : ℕ) (links : List Link) : Type 0 where
  pub only : (link : Link) → Contains links link → Belongs cert proc link.from × IsLink rom cert link
  pub all : (from to : ℕ) → start ≤ from → from < end → MayComeNext rom cert from to → HasLink links from to

-- a row with a number below their count exists
pub row_there : (cert : CertificateView) (proc start end number : ℕ) →
    ((k : ℕ) (row : Row) → slice_get cert.rows k ≡ Some row → ((start ≤ k) × (k < end)) ↔ (row.proc ≡ proc)) → end ≤ length cert.rows →
    start ≤ number → number < end → Belongs cert proc number
row_there cert proc start end number rows within from below =
    elim (slice_get_cases cert.rows number).1 [
      | inl there ↦ record { row = there.0; is = there.2; of = (rows number there.0 there.2).0 (from, below) }
      | inr past ↦ absurd (omega (arith, past.0, within, below))
    ]

pub gathered_more : (rom : List ℕ) (cert : CertificateView) (proc start from : ℕ) (old new : List Link) → Belongs cert proc from →
    Gathered rom cert proc start from old → Added rom cert from IsAny old new → Gathered rom cert proc start (from + 1) new
gathered_more rom cert proc start from old new belongs before added = record {
  only = λ link listed.
      elim (added.only link listed) [
        | inl was ↦ before.only link was
        | inr is ↦ (subst (λ (n : ℕ). Belongs cert proc n) (sym is.0) belongs, is.1)
      ];
  all = λ number to low high next.
      elim (cases_lt number from) [
        | inl less ↦
            let has = before.all number to low less next in
            (has.0, added.kept (record { from = number; to = to; cost = has.0 }) has.1)
        | inr not ↦
            let same : number ≡ from = omega (arith, high, not) in
            subst (λ (n : ℕ). HasLink new n to) (sym same)
            (added.all to tt (subst (λ (n : ℕ). MayComeNext rom cert n to) same next))
      ];
}

pub gathered_all : (rom : List ℕ) (cert : CertificateView) (proc start end number : ℕ) (links : List Link) →
    ((k : ℕ) (row : Row) → slice_get cert.rows k ≡ Some row → ((start ≤ k) × (k < end)) ↔ (row.proc ≡ proc)) → end ≤ number →
    Gathered rom cert proc start number links → AreLinks rom cert proc links
gathered_all rom cert proc start end number links rows behind gathered = record {
  only = gathered.only;
  all = λ from to belongs next.
      let place = (rows from belongs.row belongs.is).1 belongs.of in
      gathered.all from to place.0 (omega (arith, place.1, behind)) next;
}

-- the order of links does not matter
pub links_moved : (rom : List ℕ) (cert : CertificateView) (proc : ℕ) (old new : List Link) → IsPermutation old new → AreLinks rom cert proc old → AreLinks rom cert proc new
links_moved rom cert proc old new moved links = record {
  only = λ link listed. links.only link (Contains-permutation new old link (IsPermutation-sym old new moved) listed);
  all = λ from to belongs next.
      let has = links.all from to belongs next in
      (has.0, Contains-permutation old new (record { from = from; to = to; cost = has.0 }) moved has.1);
}

pub have_rows : (rom : List ℕ) (cert : CertificateView) (proc : ℕ) (links : List Link) → AreLinks rom cert proc links → HaveRows cert links
have_rows rom cert proc links are = record {
  each = λ link listed.
      let belongs = (are.only link listed).0 in
      slice_get_within cert.rows link.from belongs.row belongs.is;
}

-- ---- the links from one row, of sorted links

pub links_between : (links : List Link) (row start count : ℕ) →
    IsPartitionPoint (λ (l : Link). ltb l.from row ≡ true) (λ (l : Link). ltb l.from row ≡ false) links start →
    IsPartitionPoint (λ (l : Link). leb l.from row ≡ true) (λ (l : Link). leb l.from row ≡ false) (drop start links) count →
    AreLinksFrom links row (take count (drop start links))
links_between links row start count first last = record {
  only = λ link listed.
      let (k, within, is) = listed in
      let fits : k < min count (length links - start) =
      subst (λ (n : ℕ). k < min count n) (length-drop start links) (subst (λ (n : ℕ). k < n) (length-take count (drop start links)) within) in
      let near : k < count = omega (arith, fits) in
      let far : start + k < length links = omega (arith, fits) in
      let in_rest : get_or (drop start links) k link ≡ link = sym (get_or-take count (drop start links) k link near) ∙ is in
      let at : get_or links (start + k) link ≡ link = sym (get_or-drop start links k link) ∙ in_rest in
      let low : row ≤ link.from =
      subst (λ (l : Link). row ≤ l.from) at (ltb-false _ _ (first.1 (start + k) link (omega arith) far)) in
      let high : link.from ≤ row =
      subst (λ (l : Link). l.from ≤ row) in_rest (leb-true _ _ (last.0 k link (omega arith) near)) in
      ((start + k, far, at), omega (arith, low, high));
  all = λ link listed same.
      let (k, within, is) = listed in
      elim (cases_lt k start) [
        | inl before ↦
            let less : link.from < row =
            subst (λ (l : Link). l.from < row) is (ltb-true _ _ (first.0 k link (omega arith) before)) in
            absurd (omega (arith, less, same))
        | inr from ↦
            let j = k - start in
            let whole : start + j ≡ k = omega (arith, from) in
            let inside : j < length (drop start links) = rw length-drop (omega (arith, within, from)) in
            let in_rest : get_or (drop start links) j link ≡ link =
            get_or-drop start links j link ∙ ap (λ (n : ℕ). get_or links n link) whole ∙ is in
            elim (cases_lt j count) [
              | inl near ↦
                  let fits : j < length (take count (drop start links)) = rw length-take (omega (arith, near, inside)) in
                  (j, fits, get_or-take count (drop start links) j link near ∙ in_rest)
              | inr beyond ↦
                  let above : row < link.from =
                  subst (λ (l : Link). row < l.from) in_rest (leb-false _ _ (last.1 j link beyond inside)) in
                  absurd (omega (arith, above, same))
            ]
      ];
}
