-- States at entries and after a call (docs/CHECKER.md, "What a row knows").
use Rattle.std.specs.Prelude.{ℕ, [], Some, None}
use Rattle.intervals.specs.declared.pair.Pair.{Pair}
use Rattle.abs_state.specs.Pairs.{pair_of, full_pairs, own_pairs}
use Rattle.abs_state.specs.declared.mode.Mode.TheVariants.{Unset, Nmi}
use Rattle.abs_state.specs.declared.pairs.Pairs.{Pairs}
use Rattle.abs_state.specs.declared.state.AbsState.{AbsState}

-- the entry of main code
abbrev pub main_entry : AbsState
main_entry = record { mode = Unset; armed = 0; pairs = full_pairs; flag = None; shape = [] }

-- the entry of the NMI routine, with this many kept cells
abbrev pub nmi_entry : ℕ → AbsState
nmi_entry cells = record { mode = Nmi; armed = cells; pairs = own_pairs full_pairs; flag = None; shape = [] }

-- the entry of a callee, from its caller's state at the call
abbrev pub callee_entry : AbsState → AbsState
callee_entry s = record s { pairs = own_pairs s.pairs; flag = None; shape = [] }

-- a pair after a call, from the exit's pair: the caller's pair that is its origin, or the exit's ranges
abbrev pub returned_pair : Pairs → Pair → Pair
returned_pair caller exit = elim exit.origin as (λ _. Pair) [ Some r ↦ pair_of r caller | None ↦ exit ]

abbrev pub returned_pairs : Pairs → Pairs → Pairs
returned_pairs caller exit = record {
  af = returned_pair caller exit.af;
  bc = returned_pair caller exit.bc;
  de = returned_pair caller exit.de;
  hl = returned_pair caller exit.hl;
  ix = returned_pair caller exit.ix;
  iy = returned_pair caller exit.iy;
  alternate_af = returned_pair caller exit.alternate_af;
  alternate_bc = returned_pair caller exit.alternate_bc;
  alternate_de = returned_pair caller exit.alternate_de;
  alternate_hl = returned_pair caller exit.alternate_hl;
}

-- the state after a call, from the caller's state at the call and an exit of the callee
abbrev pub after_call : AbsState → AbsState → AbsState
after_call caller exit = record {
  mode = exit.mode;
  armed = exit.armed;
  pairs = returned_pairs caller.pairs exit.pairs;
  flag = None;
  shape = caller.shape;
}
