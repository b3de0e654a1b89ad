-- The depth of the stack under each procedure.
use Rattle.std.specs.Prelude.{◌≡◌, ◌≢◌, ℕ, ◌+◌, ◌<◌, ◌≤◌, List, length, Contains, slice_index, slice_index_or}
use Rattle.std.specs.List.Sorted.{IsNonDecreasingBy}
use Rattle.call_graph.specs.declared.depth.Held.{Held}
use Rattle.call_graph.specs.declared.edge.Edge.{Edge}

-- a call without its held bytes
abbrev pub edge_of_call : Held → Edge
edge_of_call call = record { caller = call.caller; callee = call.callee }

-- each procedure of the calls has its own bytes
abbrev pub HaveBytes : List ℕ → List Held → Type 0
HaveBytes own calls = (call : Held) → Contains calls call → (call.caller < length own) × (call.callee < length own)

-- depths suffice for the own bytes of each procedure, and at each call for the held bytes and the callee's depth
pub record Suffices (own : List ℕ) (calls : List Held) (depth : ℕ → ℕ) : Type 0 where
  pub own_bytes : (p : ℕ) → p < length own → slice_index own p ≤ depth p
  pub held_bytes : (call : Held) → Contains calls call → call.held + depth call.callee ≤ depth call.caller

-- the least depths that suffice
pub record AreDepths (own : List ℕ) (calls : List Held) (list : List ℕ) : Type 0 where
  pub each : length list ≡ length own
  pub suffice : Suffices own calls (slice_index list)
  pub least : (depth : ℕ → ℕ) → Suffices own calls depth → (p : ℕ) → p < length own → slice_index list p ≤ depth p

abbrev pub call_at : List Held → ℕ → Held
call_at calls i = slice_index_or calls i (record { caller = 0; callee = 0; held = 0 })

-- the calls are sorted by caller
abbrev pub ByCaller : List Held → Type 0
ByCaller calls = IsNonDecreasingBy (λ call. call.caller) calls

-- an order of numbered procedures with each callee before its callers
pub record Orders (own : List ℕ) (calls : List Held) (list : List ℕ) : Type 0 where
  pub once : (i j : ℕ) → i < j → j < length list → slice_index list i ≢ slice_index list j
  pub numbered : (k : ℕ) → k < length list → slice_index list k < length own
  pub callees : (i : ℕ) → i < length calls → (call_at calls i).callee < length own
  pub callees_first : (i : ℕ) → i < length calls →
      (j : ℕ) × ((k : ℕ) × ((j < k) × (k < length list) × (slice_index list j ≡ (call_at calls i).callee) × (slice_index list k ≡ (call_at calls i).caller)))
