-- Invariants of the search for a shortest cycle.
use Rattle.std.specs.Prelude.{◌≡◌, ◌≢◌, ℕ, zero, suc, ◌+◌, ◌<◌, ◌≤◌, ◌⊎◌, Bool, true, false, List, [], ◌∷◌, ◌++◌, length, sum_by, slice_index, slice_index_or}
use Rattle.call_graph.specs.Calls.{Calls, IsCycle, IsLower, CallPath}
use Rattle.call_graph.specs.declared.cycle.SearchStep.{SearchStep}
use Rattle.call_graph.specs.declared.edge.Edge.{Edge}

-- n + 1 calls lead from p back to p
abbrev pub Returns : List Edge → ℕ → ℕ → Type 0
Returns edges p n = (q : ℕ) × CallPath edges p q n × Calls edges q p

-- the lowest of the shortest cycles through p
pub record IsShortestFrom (edges : List Edge) (p : ℕ) (list : List ℕ) : Type 0 where
  pub cycle : IsCycle edges list
  pub first : slice_index list 0 ≡ p
  pub shortest : (n : ℕ) → Returns edges p n → length list ≤ n + 1
  pub lowest : (other : List ℕ) → IsCycle edges other → slice_index other 0 ≡ p → length other ≡ length list → (list ≡ other) ⊎ IsLower list other

abbrev pub step_at : List SearchStep → ℕ → SearchStep
step_at steps i = slice_index_or steps i (record { proc = 0; from = 0; far = 0 })

abbrev pub step_proc : List SearchStep → ℕ → ℕ
step_proc steps i = (step_at steps i).proc

abbrev pub step_from : List SearchStep → ℕ → ℕ
step_from steps i = (step_at steps i).from

abbrev pub step_far : List SearchStep → ℕ → ℕ
step_far steps i = (step_at steps i).far

abbrev pub seen_at : List Bool → ℕ → Bool
seen_at seen p = slice_index_or seen p false

-- The first step is the start. Each other one is called by an earlier step, one call farther.
pub record Traced (edges : List Edge) (start : ℕ) (steps : List SearchStep) : Type 0 where
  pub some : 0 < length steps
  pub start_is : step_proc steps 0 ≡ start
  pub near : step_far steps 0 ≡ 0
  pub earlier : (i : ℕ) → 0 < i → i < length steps → step_from steps i < i
  pub called : (i : ℕ) → 0 < i → i < length steps → Calls edges (step_proc steps (step_from steps i)) (step_proc steps i)
  pub low : (i : ℕ) → i < length steps → step_far steps i ≤ i
  pub farther : (i : ℕ) → 0 < i → i < length steps → step_far steps i ≡ step_far steps (step_from steps i) + 1

-- the procedures on the way to a step, without the start
abbrev pub path_to : List SearchStep → ℕ → ℕ → List ℕ
path_to steps zero i = []
path_to steps (suc n) i = path_to steps n (step_from steps i) ++ step_proc steps i ∷ []

-- p has a step, at a distance of at most `most`, and the first step that calls it is at most `caller`
pub record PlaceInCycle (steps : List SearchStep) (p most caller : ℕ) : Type 0 where
  pub at : ℕ
  pub inside : at < length steps
  pub is : step_proc steps at ≡ p
  pub near : step_far steps at ≤ most
  pub from : step_from steps at ≤ caller

-- The steps rise by distance, up to one more than that of the next step. Each procedure that was seen has a step. A
-- procedure called from one of the `done` steps is not the start and has a step, at most one call farther. Steps are
-- sorted by the step that calls them, then by number.
pub record Searched (edges : List Edge) (start : ℕ) (seen : List Bool) (steps : List SearchStep) (done : ℕ) : Type 0 where
  pub room : length seen ≡ 65536
  pub traced : Traced edges start steps
  pub rising : (i j : ℕ) → i ≤ j → j < length steps → step_far steps i ≤ step_far steps j
  pub within : (j : ℕ) → j < length steps → done < length steps → step_far steps j ≤ step_far steps done + 1
  pub placed : (p : ℕ) → seen_at seen p ≡ true → (i : ℕ) × (i < length steps) × (step_proc steps i ≡ p)
  pub spread : (i p : ℕ) → i < done → Calls edges (step_proc steps i) p → (p ≢ start) × PlaceInCycle steps p (step_far steps i + 1) i
  pub marked : (i : ℕ) → i < length steps → seen_at seen (step_proc steps i) ≡ true
  pub behind : (i : ℕ) → i < length steps → step_from steps i ≤ done
  pub in_turn : (i j : ℕ) → 0 < i → i ≤ j → j < length steps → step_from steps i ≤ step_from steps j
  pub by_number : (i j : ℕ) → 0 < i → i < j → j < length steps → step_from steps i ≡ step_from steps j → step_proc steps i < step_proc steps j

-- no step was called from the one at this place yet
abbrev pub NoneFrom : List SearchStep → ℕ → Type 0
NoneFrom steps at = (i : ℕ) → 0 < i → i < length steps → step_from steps i < at

-- the unseen procedures plus the steps, a number that stays the same
abbrev pub unseen_one : Bool → ℕ
unseen_one true = 0
unseen_one false = 1

abbrev pub left : List Bool → List SearchStep → ℕ
left seen steps = sum_by unseen_one seen + length steps

-- the lowest procedure on any cycle
pub record IsLowestStart (edges : List Edge) (p : ℕ) : Type 0 where
  pub returns : (n : ℕ) × Returns edges p n
  pub lowest : (list : List ℕ) → IsCycle edges list → (i : ℕ) → i < length list → p ≤ slice_index list i
