-- Orders of procedures, and cycles of calls.
use Rattle.std.specs.Prelude.{◌≡◌, ◌≢◌, ℕ, ◌+◌, ◌-◌, ◌<◌, ◌≤◌, ◌⊎◌, List, [], ◌∷◌, length, Contains, slice_index}
use Prim.Native.Nat.{zero, suc}
use Rattle.call_graph.specs.declared.edge.Edge.{Edge}
use Rattle.call_graph.specs.declared.fault.GraphFault.{GraphFault}
use Rattle.call_graph.specs.declared.fault.GraphFault.TheVariants.{Cycle, NoMemory}

-- p calls q
abbrev pub Calls : List Edge → ℕ → ℕ → Type 0
Calls edges p q = Contains edges (record { caller = p; callee = q })

-- p is a procedure of the calls: a caller or a callee
abbrev pub Occurs : List Edge → ℕ → Type 0
Occurs edges p = (q : ℕ) × (Calls edges p q ⊎ Calls edges q p)

-- n calls lead from p to q
abbrev pub CallPath : List Edge → ℕ → ℕ → ℕ → Type 0
CallPath edges p q zero = p ≡ q
CallPath edges p q (suc n) = (r : ℕ) × CallPath edges p r n × Calls edges r q

abbrev pub Reaches : List Edge → ℕ → ℕ → Type 0
Reaches edges p q = (n : ℕ) × CallPath edges p q n

-- the procedures of the calls, each once, and each callee before its callers
pub record IsCallOrder (edges : List Edge) (list : List ℕ) : Type 0 where
  pub listed : (p : ℕ) → Occurs edges p → Contains list p
  pub only : (p : ℕ) → Contains list p → Occurs edges p
  pub once : (i j : ℕ) → i < j → j < length list → slice_index list i ≢ slice_index list j
  pub callees_first : (i j : ℕ) → i < length list → j < length list → Calls edges (slice_index list i) (slice_index list j) → j < i

-- a cycle: each procedure calls the next, and the last calls the first
pub record IsCycle (edges : List Edge) (list : List ℕ) : Type 0 where
  pub some : 0 < length list
  pub next : (i : ℕ) → i + 1 < length list → Calls edges (slice_index list i) (slice_index list (i + 1))
  pub back : Calls edges (slice_index list (length list - 1)) (slice_index list 0)

-- the first list is lower, read in order: where the two first differ, it has the lower number
abbrev pub IsLower : List ℕ → List ℕ → Type 0
IsLower [] ys = ⊥
IsLower (x ∷ xs) [] = ⊥
IsLower (x ∷ xs) (y ∷ ys) = (x < y) ⊎ ((x ≡ y) × IsLower xs ys)

-- The cycle begins with the lowest procedure that lies on any, is a shortest one through it, and is the lowest of
-- those, read in order. A cycle can begin at any of its procedures, so it is compared only with those that begin with
-- that procedure.
pub record IsLowestCycle (edges : List Edge) (list : List ℕ) : Type 0 where
  pub cycle : IsCycle edges list
  pub lowest : (other : List ℕ) → IsCycle edges other → (i : ℕ) → i < length other → slice_index list 0 ≤ slice_index other i
  pub shortest : (other : List ℕ) → IsCycle edges other → slice_index other 0 ≡ slice_index list 0 → length list ≤ length other
  pub lowest_read : (other : List ℕ) → IsCycle edges other → slice_index other 0 ≡ slice_index list 0 → length other ≡ length list → (list ≡ other) ⊎ IsLower list other

-- the reported cycle is the lowest shortest cycle of the calls
abbrev pub IsFaultOf : List Edge → GraphFault → Type 0
IsFaultOf edges (Cycle list) = IsLowestCycle edges list.items
IsFaultOf edges NoMemory = Unit {0}
