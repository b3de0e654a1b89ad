-- The greatest of the costs of successors, and the T-states between rows of a walk.
use Rattle.std.proofs.Common.{◌≡◌, ◌<◌, ◌≤◌, ◌+◌, ◌++◌, ◌↔◌, ◌⊎◌, ℕ, max, IsSome, List, [], ◌∷◌, length, get_or, take, slice_get, Option, Some, None, Ok, inl, inr, refl, sym, subst, ap, ◌∙◌, arith}
use Rattle.std.specs.List.{All, Contains}
use Rattle.std.proofs.lemmas.Bool.{cases_lt}
use Rattle.std.proofs.lemmas.List.{take_all, take_more}
use Rattle.std.proofs.lemmas.List.Elements.{All-contains, Contains-append_left, Contains-get_or, Contains-push, Contains-push_cases}
use Rattle.std.proofs.lemmas.Option.{get_or_from_slice_get, same_Some, slice_get_within}
use Rattle.abs_step.specs.declared.next.Next.{Next}
use Rattle.abs_step.specs.declared.next.NextKind.{NextKind}
use Rattle.abs_step.specs.declared.next.NextKind.TheVariants.{Jump, Call, Exit}
use Rattle.check_cover.specs.Program.{callee_at}
use Rattle.check_cover.specs.declared.program.Callee.{Callee}
use Rattle.cert_lines.specs.declared.row.Row.{Row}
use Rattle.cert_form.specs.Contents.{CertificateView}
use Rattle.check_ways.specs.Parts.{CostsExit, HasNoExit, IsAmong, IsTimedCall, LiesBy, LiesByCall, LiesByKind, OnCall, greater}
use Rattle.check_ways.specs.Pays.{IsExitCost, IsGreatest, IsWalked, Lands, LeavesAt, LieBetween, LiesBetween}
use Rattle.check_ways.specs.Ways.{SubjectView, IsJump, IsNumbered, IsReturn, IsWay, WayView, jump_way, nexts_from, nexts_in, return_way, step_of}
use Rattle.check_ways.proofs.ExitLemmas.{subject_once}

-- ---- the greatest of some numbers

pub greatest_same : (P Q : ℕ → Type 0) (a : Option ℕ) → IsGreatest P a → ((n : ℕ) → P n → Q n) → ((n : ℕ) → Q n → P n) → IsGreatest Q a
greatest_same P Q None none there back = λ n q. none n (back n q)
greatest_same P Q (Some a) most there back = (there a most.0, λ n q. most.1 n (back n q))

greatest_of_two : (P Q R : ℕ → Type 0) (a b : Option ℕ) → IsGreatest P a → IsGreatest Q b → ((n : ℕ) → R n → P n ⊎ Q n) →
    ((n : ℕ) → P n → R n) → ((n : ℕ) → Q n → R n) → IsGreatest R (greater a b)
greatest_of_two P Q R None None one other only first last = λ n r. elim (only n r) [ inl p ↦ one n p | inr q ↦ other n q ]
greatest_of_two P Q R None (Some b) one other only first last = (
  last b other.0,
  λ n r. elim (only n r) [ inl p ↦ absurd (one n p) | inr q ↦ other.1 n q ],
)
greatest_of_two P Q R (Some a) None one other only first last = (
  first a one.0,
  λ n r. elim (only n r) [ inl p ↦ one.1 n p | inr q ↦ absurd (other n q) ],
)
greatest_of_two P Q R (Some a) (Some b) one other only first last = (
  elim (cases_lt a b) [
    | inl less ↦ let same : b ≡ max a b = omega (arith, less) in subst R same (last b other.0)
    | inr upto ↦ let same : a ≡ max a b = omega (arith, upto) in subst R same (first a one.0)
  ],
  λ n r. elim (only n r) [
    | inl p ↦ let most = one.1 n p in omega (arith, most)
    | inr q ↦ let most = other.1 n q in omega (arith, most)
  ],
)

-- one more successor
pub greatest_more : (T : Next → ℕ → Type 0) (nexts : List Next) (k : ℕ) (item : Next) (a b : Option ℕ) → item ≡ get_or nexts k item → k < length nexts →
    IsGreatest (IsAmong (take k nexts) T) a → IsGreatest (T item) b → IsGreatest (IsAmong (take (k + 1) nexts) T) (greater a b)
greatest_more T nexts k item a b is within one other =
    subst (λ (ns : List Next). IsGreatest (IsAmong ns T) (greater a b)) (sym (take_more nexts k item within ∙ ap (λ (n : Next). take k nexts ++ n ∷ []) (sym is)))
    (greatest_of_two (IsAmong (take k nexts) T) (T item) (IsAmong (take k nexts ++ item ∷ []) T) a b one other only first last)
  where
    only : (n : ℕ) → IsAmong (take k nexts ++ item ∷ []) T n → IsAmong (take k nexts) T n ⊎ T item n
    only n among =
        elim (Contains-push_cases (take k nexts) item among.next among.leads) [
          | inl before ↦ inl record { next = among.next; leads = before; tells = among.tells }
          | inr same ↦ inr (subst (λ (x : Next). T x n) (sym same) among.tells)
        ]

    first : (n : ℕ) → IsAmong (take k nexts) T n → IsAmong (take k nexts ++ item ∷ []) T n
    first n among = record { next = among.next; leads = Contains-append_left (take k nexts) (item ∷ []) among.next among.leads; tells = among.tells }

    last : (n : ℕ) → T item n → IsAmong (take k nexts ++ item ∷ []) T n
    last n tells = record { next = item; leads = Contains-push (take k nexts) item; tells = tells }

-- all successors
pub greatest_all : (T : Next → ℕ → Type 0) (nexts : List Next) (k : ℕ) (a : Option ℕ) → length nexts ≤ k → IsGreatest (IsAmong (take k nexts) T) a →
    IsGreatest (IsAmong nexts T) a
greatest_all T nexts k a behind most = subst (λ (ns : List Next). IsGreatest (IsAmong ns T) a) (take_all k nexts behind) most

-- ---- walks

-- by a successor of one kind
pub by_kind : (s : SubjectView) (next : Next) (target : Row) (kind : NextKind) (a : Option ℕ) → next.kind ≡ kind → IsGreatest (LiesByKind s next target kind) a →
    IsGreatest (LiesBy s target next) a
by_kind s next target kind a is most = subst (λ (k : NextKind). IsGreatest (LiesByKind s next target k) a) (sym is) most

call_timed : (s : SubjectView) (next : Next) → IsWalked s → Contains (nexts_from s) next → next.kind ≡ Call → (called : Option Callee) →
    callee_at s.cert next.address ≡ called → IsTimedCall called
call_timed s next walked leads kind None none = tt
call_timed s next walked leads kind (Some callee) is = walked.calls next callee record { leads = leads; kind = kind; called = is }

pub walked : (s : SubjectView) (nexts : List Next) → step_of s ≡ Ok nexts → IsSome s.proc.time → All (OnCall s) nexts ↔ IsWalked s
walked s nexts step timed =
    let same : nexts_from s ≡ nexts = ap nexts_in step in (
      (λ all. record {
        timed = timed;
        calls = λ next callee calls.
            let listed = subst (λ (ns : List Next). Contains ns next) same calls.leads in
            subst (λ (o : Option Callee). IsTimedCall o) calls.called (All-contains (OnCall s) nexts next all listed calls.kind);
      }),
      (λ walks k d within kind.
          let next = get_or nexts k d in
          let leads = subst (λ (ns : List Next). Contains ns next) (sym same) (Contains-get_or nexts k d within) in
          call_timed s next walks leads kind (callee_at s.cert next.address) refl),
    )

-- the T-states between two rows by a call
between_call : (s : SubjectView) (target : Row) (cost : ℕ) (next : Next) → IsWalked s → Contains (nexts_from s) next → next.kind ≡ Call → (called : Option Callee) →
    callee_at s.cert next.address ≡ called → LiesByCall s next target called cost → LiesBetween s target cost
between_call s target cost next walks leads kind None none lies = absurd lies
between_call s target cost next walks leads kind (Some callee) is lies = record {
  walked = walks;
  way = return_way s next callee lies.0.exit;
  leads = record {
    is_way = inr record {
      next = next;
      callee = callee;
      calls = record { leads = leads; kind = kind; called = is };
      exit = lies.0.exit;
      exits = lies.0.of;
      is = refl;
    };
    lands = lies.0.holds;
  };
  is = lies.1;
}

between_kind : (s : SubjectView) (target : Row) (cost : ℕ) (next : Next) → IsWalked s → Contains (nexts_from s) next → (kind : NextKind) → next.kind ≡ kind →
    LiesByKind s next target kind cost → LiesBetween s target cost
between_kind s target cost next walks leads Jump is lies = record {
  walked = walks;
  way = jump_way s next;
  leads = record { is_way = inl record { next = next; leads = leads; kind = is; is = refl }; lands = lies.0 };
  is = lies.1;
}
between_kind s target cost next walks leads Call is lies = between_call s target cost next walks leads is (callee_at s.cert next.address) refl lies
between_kind s target cost next walks leads Exit is lies = absurd lies

-- the T-states between two rows by one of the successors
among_jump : (s : SubjectView) (target : Row) (cost : ℕ) (way : WayView) (is : IsJump s way) → Lands s.cert way target → cost ≡ way.cost → LiesBy s target is.next cost
among_jump s target cost way is lands same =
    subst (λ (k : NextKind). LiesByKind s is.next target k cost) (sym is.kind)
    (subst (λ (w : WayView). Lands s.cert w target) is.is lands, subst (λ (w : WayView). cost ≡ w.cost) is.is same)

among_return : (s : SubjectView) (target : Row) (cost : ℕ) (way : WayView) (is : IsReturn s way) → Lands s.cert way target → cost ≡ way.cost → LiesBy s target is.next cost
among_return s target cost way is lands same =
    let calls = is.calls in
    let lies : LiesByCall s is.next target (Some is.callee) cost = (
      record { exit = is.exit; of = is.exits; holds = subst (λ (w : WayView). Lands s.cert w target) is.is lands },
      subst (λ (w : WayView). cost ≡ w.cost) is.is same,
    ) in
    subst (λ (k : NextKind). LiesByKind s is.next target k cost) (sym calls.kind)
    (subst (λ (o : Option Callee). LiesByCall s is.next target o cost) (sym calls.called) lies)

among_way : (s : SubjectView) (nexts : List Next) (target : Row) (cost : ℕ) (way : WayView) → nexts_from s ≡ nexts → IsWay s way → Lands s.cert way target → cost ≡ way.cost →
    IsAmong nexts (LiesBy s target) cost
among_way s nexts target cost way same (inl is) lands cost_is = record {
  next = is.next;
  leads = subst (λ (ns : List Next). Contains ns is.next) same is.leads;
  tells = among_jump s target cost way is lands cost_is;
}
among_way s nexts target cost way same (inr is) lands cost_is = record {
  next = is.next;
  leads = subst (λ (ns : List Next). Contains ns is.next) same is.calls.leads;
  tells = among_return s target cost way is lands cost_is;
}

-- the most T-states between two rows are the most by one of the successors
pub greatest_between : (s : SubjectView) (nexts : List Next) (target : Row) (a : Option ℕ) → step_of s ≡ Ok nexts → IsWalked s →
    IsGreatest (IsAmong nexts (LiesBy s target)) a → IsGreatest (LiesBetween s target) a
greatest_between s nexts target a step walks most =
    let same : nexts_from s ≡ nexts = ap nexts_in step in
    greatest_same (IsAmong nexts (LiesBy s target)) (LiesBetween s target) a most
    (λ n among.
    between_kind s target n among.next walks (subst (λ (ns : List Next). Contains ns among.next) (sym same) among.leads) among.next.kind refl among.tells)
    (λ n lies. among_way s nexts target n lies.way same lies.leads.is_way lies.leads.lands lies.is)

-- the most that an exit costs
pub greatest_leaving : (s : SubjectView) (nexts : List Next) (a : Option ℕ) → step_of s ≡ Ok nexts → IsGreatest (IsAmong nexts CostsExit) a →
    IsGreatest (IsExitCost s) a
greatest_leaving s nexts a step most =
    let same : nexts_from s ≡ nexts = ap nexts_in step in
    greatest_same (IsAmong nexts CostsExit) (IsExitCost s) a most
    (λ n among. record {
      next = among.next;
      leads = subst (λ (ns : List Next). Contains ns among.next) (sym same) among.leads;
      kind = among.tells.kind;
      is = among.tells.is;
    })
    (λ n leaves. record {
      next = leaves.next;
      leads = subst (λ (ns : List Next). Contains ns leaves.next) same leaves.leads;
      tells = record { kind = leaves.kind; is = leaves.is };
    })

-- ---- numbers of rows

pub listed_at : (cert other : CertificateView) (k : ℕ) (row : Row) → other ≡ cert → slice_get cert.rows k ≡ Some row → Contains other.rows row
listed_at cert other k row same at =
    subst (λ (c : CertificateView). Contains c.rows row) (sym same) (k, slice_get_within cert.rows k row at, get_or_from_slice_get cert.rows k row row at)

pub between_numbers : (rom : List ℕ) (cert : CertificateView) (from to : ℕ) (s : SubjectView) (target : Row) (a : Option ℕ) → IsNumbered rom cert from s →
    slice_get cert.rows to ≡ Some target → IsGreatest (LiesBetween s target) a → IsGreatest (LieBetween rom cert from to) a
between_numbers rom cert from to s target a is at most =
    greatest_same (LiesBetween s target) (LieBetween rom cert from to) a most
    (λ n lies. record { subject = s; is_from = is; target = target; is_to = at; lies = lies })
    (λ n lie.
    subst (λ (t : Row). LiesBetween s t n) (same_Some lie.target target (sym lie.is_to ∙ at))
    (subst (λ (x : SubjectView). LiesBetween x lie.target n) (subject_once rom cert from lie.subject s lie.is_from is) lie.lies))

pub leaves_number : (rom : List ℕ) (cert : CertificateView) (number : ℕ) (s : SubjectView) (a : Option ℕ) → IsNumbered rom cert number s → IsGreatest (IsExitCost s) a →
    IsGreatest (LeavesAt rom cert number) a
leaves_number rom cert number s a is most =
    greatest_same (IsExitCost s) (LeavesAt rom cert number) a most
    (λ n leaves. record { subject = s; is_from = is; leaves = leaves })
    (λ n leaves. subst (λ (x : SubjectView). IsExitCost x n) (subject_once rom cert number leaves.subject s leaves.is_from is) leaves.leaves)

-- a row without an exit has no exit cost
pub none_leaves : (rom : List ℕ) (cert : CertificateView) (number : ℕ) → HasNoExit rom cert number → (cost : ℕ) → LeavesAt rom cert number cost → ⊥
none_leaves rom cert number none cost leaves =
    none leaves.leaves.next.state
    record {
      subject = leaves.subject;
      is = leaves.is_from;
      leaves = record { next = leaves.leaves.next; leads = leaves.leaves.leads; kind = leaves.leaves.kind; state = refl };
    }
