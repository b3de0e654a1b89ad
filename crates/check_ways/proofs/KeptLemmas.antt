-- What has to hold of each exit of a procedure may be tested on what the exits leave.
use Rattle.std.proofs.Common.{◌≡◌, ◌<◌, ◌≤◌, ◌+◌, ◌==◌, ◌↔◌, ℕ, Bool, true, false, IsTrue, List, [], ◌∷◌, length, slice_get, not, Some, None, refl, sym, subst, ap, ◌∙◌, inl, inr, arith}
use Rattle.std.specs.List.{Contains}
use Rattle.std.proofs.lemmas.Bool.{cases_Bool, cases_lt, eqb-true, false≢true}
use Rattle.std.proofs.lemmas.Option.{get_or_from_slice_get, same_Some, slice_get_read, slice_get_within}
use Rattle.abs_draft.specs.Outcomes.{settled}
use Rattle.abs_state.specs.Entries.{after_call}
use Rattle.abs_state.specs.declared.mode.Mode.{Mode}
use Rattle.abs_state.specs.declared.mode.Mode.TheVariants as modes
use Rattle.abs_state.specs.declared.state.AbsState.{AbsState}
use Rattle.abs_step.specs.declared.next.Next.{Next}
use Rattle.check_cover.specs.declared.program.Callee.{Callee}
use Rattle.cert_lines.specs.declared.row.Row.{Row}
use Rattle.cert_lines.specs.declared.version.Version.{Version}
use Rattle.cert_lines.specs.declared.version.Version.TheVariants.{One, Two, Three}
use Rattle.loop_bounds.specs.declared.effect.Effect.{Effect}
use Rattle.cert_form.specs.Contents.{CertificateView}
use Rattle.cert_form.specs.Form.{IsInForm}
use Rattle.check_ways.proofs.ReturnLemmas.{left_in_form, numbered_tells}
use Rattle.check_ways.specs.Parts.{AnyExit, IsExitAt, OnEachExit, OnEachLeft, OnSomeExit}
use Rattle.check_steps.specs.Returned.{effect_back}
use Rattle.check_steps.specs.Told.{refinement_by}
use Rattle.refined_step.specs.Told.{untold}
use Rattle.check_ways.specs.Ways.{SubjectView, IsExit, WayView, behind_of, call_cost, return_way}
use Rattle.check_tables.specs.Lefts.{AreLeft, IsLeft, left_of, mode_number, numbered_mode, state_of}
use Rattle.check_tables.specs.Tables.{AreExits, ProcExitsView}
use Rattle.check_tables.specs.declared.left.Left.{Left}
use Rattle.board_fetch.specs.Decoded.{StandsAt}

-- ---- what an exit leaves

same_mode : (m : Mode) → numbered_mode (mode_number m) ≡ m
same_mode modes.Unset = refl
same_mode modes.Set = refl
same_mode modes.Nmi = refl

-- a state without its flag fact and its stack
abbrev pub bare : AbsState → AbsState
bare e = record e { flag = None; shape = [] }

pub left_bare : (e : AbsState) → state_of (left_of e) ≡ bare e
left_bare e = ap (λ (m : Mode). record e { mode = m; flag = None; shape = [] }) (same_mode e.mode)

-- ---- exits, and what they leave

-- an exit of a procedure leaves something
pub is_left : (rom : List ℕ) (cert : CertificateView) (proc : ℕ) (exit : AbsState) → IsInForm cert → IsExit rom cert proc exit → IsLeft rom cert proc (left_of exit)
is_left rom cert proc exit form leaves =
    let s = leaves.subject in
    let (k, within, is) = leaves.is_subject.listed in
    let own : slice_get s.cert.rows k ≡ Some s.row = slice_get_read s.cert.rows _ k s.row refl within (sym is) in
    let at : slice_get cert.rows k ≡ Some s.row = subst (λ (c : CertificateView). slice_get c.rows k ≡ Some s.row) leaves.same.1 own in
    record {
      number = k;
      here = record {
        row = s.row;
        at = at;
        decoded = s.decoded;
        stands = subst (λ (x : List ℕ). StandsAt x s.row.address s.decoded) leaves.same.0 leaves.is_subject.stands;
        exit = exit;
        leaves = (numbered_tells s cert k form leaves.same.1 at exit).0
            record { next = leaves.next; leads = leaves.leads; kind = leaves.kind; state = leaves.state };
        is = refl;
      };
      of = leaves.of;
    }

-- some exit leaves this
pub record LeftBy (rom : List ℕ) (cert : CertificateView) (proc : ℕ) (left : Left) : Type 0 where
  pub exit : AbsState
  pub leaves : IsExit rom cert proc exit
  pub is : left ≡ left_of exit

pub left_by : (rom : List ℕ) (cert : CertificateView) (proc : ℕ) (left : Left) → IsInForm cert → IsLeft rom cert proc left → LeftBy rom cert proc left
left_by rom cert proc left form is =
    let here = is.here in
    let at : IsExitAt rom cert is.number here.exit = left_in_form rom cert is.number here.row here.decoded here.exit form here.at here.stands here.leaves in
    let same : here.row ≡ at.subject.row = same_Some here.row at.subject.row (sym here.at ∙ at.is.at) in
    record {
      exit = here.exit;
      leaves = record {
        subject = at.subject;
        is_subject = at.is.is_subject;
        same = at.is.same;
        of = subst (λ (r : Row). r.proc ≡ proc) same is.of;
        next = at.leaves.next;
        leads = at.leaves.leads;
        kind = at.leaves.kind;
        state = at.leaves.state;
      };
      is = here.is;
    }

-- ---- properties of each

-- a property of exits that does not depend on their flag fact and their stack
abbrev pub Respects : (AbsState → Type 0) → Type 0
Respects P = (e : AbsState) → P (bare e) ↔ P e

-- the effect of a call with the callee's run asks for the exit's origins alone
back_bare : (version : Version) (effect : Effect) (e : AbsState) → effect_back version effect (bare e) ≡ effect_back version effect e
back_bare One effect e = refl
back_bare Two effect e = refl
back_bare Three effect e = refl

abbrev way_with : SubjectView → Next → Callee → AbsState → Effect → Effect → WayView
way_with s next callee exit effect moved = record {
  arrival = record {
    proc = s.row.proc;
    address = behind_of s.decoded s.row.address;
    facts = s.row.facts;
    before = s.row.state;
    effect = settled (after_call next.state exit) effect;
    refined = refinement_by s.cert.version untold moved;
  };
  state = after_call next.state exit;
  cost = call_cost next callee;
}

way_bare : (s : SubjectView) (next : Next) (callee : Callee) (e : AbsState) → return_way s next callee (bare e) ≡ return_way s next callee e
way_bare s next callee e =
    ap (λ (x : Effect). way_with s next callee e x (effect_back s.cert.version next.moved (bare e))) (back_bare s.cert.version next.effect e)
    ∙ ap (λ (x : Effect). way_with s next callee e (effect_back s.cert.version next.effect e) x) (back_bare s.cert.version next.moved e)

-- what holds of the way back does not depend on them either
pub respects_way : (s : SubjectView) (next : Next) (callee : Callee) (P : WayView → Type 0) → Respects (λ (exit : AbsState). P (return_way s next callee exit))
respects_way s next callee P e = (
  (λ h. subst (λ (w : WayView). P w) (way_bare s next callee e) h),
  (λ h. subst (λ (w : WayView). P w) (sym (way_bare s next callee e)) h),
)

pub each_left : (s : SubjectView) (proc : ℕ) (lefts : List Left) (P : AbsState → Type 0) (answer : Bool) → IsInForm s.cert → AreLeft s.rom s.cert proc lefts →
    Respects P → (IsTrue answer ↔ OnEachLeft lefts P) → IsTrue answer ↔ OnEachExit s proc P
each_left s proc lefts P answer form left respects exact = (
  (λ yes. record {
    each = λ exit leaves.
        let listed = left.each (left_of exit) (is_left s.rom s.cert proc exit form leaves) in
        (respects exit).0 (subst P (left_bare exit) ((exact.0 yes).each (left_of exit) listed));
  }),
  (λ all. exact.1 record {
    each = λ l listed.
        let by = left_by s.rom s.cert proc l form (left.only l listed) in
        subst P (sym (ap state_of by.is ∙ left_bare by.exit)) ((respects by.exit).1 (all.each by.exit by.leaves));
  }),
)

-- ---- one after another

-- the property holds of the first `count` of those that are left
abbrev pub OnFirst : List Left → ℕ → (AbsState → Type 0) → Type 0
OnFirst lefts count P = (k : ℕ) (left : Left) → k < count → slice_get lefts k ≡ Some left → P (state_of left)

pub left_more : (lefts : List Left) (count : ℕ) (left : Left) (P : AbsState → Type 0) → slice_get lefts count ≡ Some left → OnFirst lefts count P →
    P (state_of left) → OnFirst lefts (count + 1) P
left_more lefts count left P at first here k other below there =
    elim (cases_lt k count) [
      | inl before ↦ first k other before there
      | inr behind ↦
          let same : count ≡ k = omega (arith, below, behind) in
          let is : left ≡ other = same_Some left other (sym at ∙ ap (λ (n : ℕ). slice_get lefts n) same ∙ there) in
          subst (λ (l : Left). P (state_of l)) is here
    ]

pub left_all : (lefts : List Left) (count : ℕ) (P : AbsState → Type 0) → length lefts ≤ count → OnFirst lefts count P → IsTrue true ↔ OnEachLeft lefts P
left_all lefts count P all first = (
  (λ yes. record {
    each = λ left listed.
        let (k, within, is) = listed in
        first k left (omega (arith, all, within)) (slice_get_read lefts _ k left refl within (sym is));
  }),
  (λ each. refl),
)

pub left_not : (lefts : List Left) (k : ℕ) (left : Left) (P : AbsState → Type 0) (answer : Bool) → slice_get lefts k ≡ Some left → answer ≡ false →
    (IsTrue answer ↔ P (state_of left)) → IsTrue false ↔ OnEachLeft lefts P
left_not lefts k left P answer at refused exact = (
  (λ yes. absurd (false≢true yes)),
  (λ each.
      sym refused ∙ exact.1 (each.each left (k, slice_get_within lefts k left at, get_or_from_slice_get lefts k left left at))),
)

-- ---- whether there is one

pub some_left : (s : SubjectView) (proc : ℕ) (lefts : List Left) (empty : Bool) → IsInForm s.cert → AreLeft s.rom s.cert proc lefts →
    empty ≡ (length lefts == 0) → IsTrue (not empty) ↔ OnSomeExit s proc AnyExit
some_left s proc [] empty form left is =
    subst (λ (b : Bool). IsTrue (not b) ↔ OnSomeExit s proc AnyExit) (sym is) (
      (λ yes. absurd (false≢true yes)),
      (λ some. absurd (nothing (left_of some.exit) (left.each (left_of some.exit) (is_left s.rom s.cert proc some.exit form some.of)))),
    )
  where
    nothing : (l : Left) → Contains [] l → ⊥
    nothing l listed = absurd (omega (arith, listed.1))
some_left s proc (first ∷ others) empty form left is =
    let by = left_by s.rom s.cert proc first form (left.only first (0, omega arith, refl)) in
    let some : empty ≡ false = is ∙ not_empty in
    subst (λ (b : Bool). IsTrue (not b) ↔ OnSomeExit s proc AnyExit) (sym some) (
      (λ yes. record { exit = by.exit; of = by.leaves; holds = tt }),
      (λ there. refl),
    )
  where
    not_empty : (length (first ∷ others) == 0) ≡ false
    not_empty =
        elim (cases_Bool (length (first ∷ others) == 0)) [
          | inl none ↦ let wrong = eqb-true (length (first ∷ others)) 0 none in absurd (omega (arith, wrong))
          | inr there ↦ there
        ]

-- ---- what tables keep

pub kept_each : (s : SubjectView) (proc : ℕ) (g : ProcExitsView) (lefts : List Left) (P : AbsState → Type 0) (answer : Bool) → IsInForm s.cert → g.proc ≡ proc →
    AreExits s.rom s.cert g → lefts ≡ g.lefts → Respects P → (IsTrue answer ↔ OnEachLeft lefts P) → IsTrue answer ↔ OnEachExit s proc P
kept_each s proc g lefts P answer form of are same respects exact =
    each_left s proc lefts P answer form
    (subst (λ (ls : List Left). AreLeft s.rom s.cert proc ls) (sym same) (subst (λ (n : ℕ). AreLeft s.rom s.cert n g.lefts) of are.left)) respects exact

pub kept_some : (s : SubjectView) (proc : ℕ) (g : ProcExitsView) (lefts : List Left) (empty : Bool) → IsInForm s.cert → g.proc ≡ proc →
    AreExits s.rom s.cert g → lefts ≡ g.lefts → empty ≡ (length lefts == 0) → IsTrue (not empty) ↔ OnSomeExit s proc AnyExit
kept_some s proc g lefts empty form of are same is =
    some_left s proc lefts empty form
    (subst (λ (ls : List Left). AreLeft s.rom s.cert proc ls) (sym same) (subst (λ (n : ℕ). AreLeft s.rom s.cert n g.lefts) of are.left)) is
