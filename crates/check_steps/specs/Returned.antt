-- The effect of a call together with the run of its callee (docs/CHECKER.md, "Successors, calls and exits").
use Rattle.std.specs.Prelude.{Option, Some}
use Rattle.abs_state.specs.declared.state.AbsState.{AbsState}
use Rattle.cert_lines.specs.declared.version.Version.{Version}
use Rattle.cert_lines.specs.declared.version.Version.TheVariants.{One, Two, Three}
use Rattle.intervals.specs.declared.reg_pair.RegPair.{RegPair}
use Rattle.intervals.specs.declared.reg_pair.RegPair.TheVariants.{Af, Bc, De, Hl, Ix, Iy}
use Rattle.loop_bounds.specs.declared.effect.Change.{Change}
use Rattle.loop_bounds.specs.declared.effect.Change.TheVariants.{Unknown}
use Rattle.loop_bounds.specs.declared.effect.Effect.{Effect}

-- the change of a pair over the callee's run: that of the call if the pair is its own origin at the exit, else unknown
abbrev pub returned_change : RegPair → Option RegPair → Change → Change
returned_change Af (Some Af) change = change
returned_change Bc (Some Bc) change = change
returned_change De (Some De) change = change
returned_change Hl (Some Hl) change = change
returned_change Ix (Some Ix) change = change
returned_change Iy (Some Iy) change = change
returned_change _ _ change = Unknown

-- the effect of a call with the callee's run, from the effect of the call alone; slots stay as they are
abbrev pub effect_of_call : Effect → AbsState → Effect
effect_of_call e exit = record {
  a = returned_change Af exit.pairs.af.origin e.a;
  b = returned_change Bc exit.pairs.bc.origin e.b;
  c = returned_change Bc exit.pairs.bc.origin e.c;
  d = returned_change De exit.pairs.de.origin e.d;
  e = returned_change De exit.pairs.de.origin e.e;
  h = returned_change Hl exit.pairs.hl.origin e.h;
  l = returned_change Hl exit.pairs.hl.origin e.l;
  bc = returned_change Bc exit.pairs.bc.origin e.bc;
  de = returned_change De exit.pairs.de.origin e.de;
  hl = returned_change Hl exit.pairs.hl.origin e.hl;
  ix = returned_change Ix exit.pairs.ix.origin e.ix;
  iy = returned_change Iy exit.pairs.iy.origin e.iy;
  slot = e.slot;
}

-- in version 3 the change of a pair over the callee's run is that of its origin in the call, whichever pair that is
abbrev pub word_by_origin : Effect → Option RegPair → Change
word_by_origin e (Some Bc) = e.bc
word_by_origin e (Some De) = e.de
word_by_origin e (Some Hl) = e.hl
word_by_origin e (Some Ix) = e.ix
word_by_origin e (Some Iy) = e.iy
word_by_origin e _ = Unknown

abbrev pub high_by_origin : Effect → Option RegPair → Change
high_by_origin e (Some Af) = e.a
high_by_origin e (Some Bc) = e.b
high_by_origin e (Some De) = e.d
high_by_origin e (Some Hl) = e.h
high_by_origin e _ = Unknown

abbrev pub low_by_origin : Effect → Option RegPair → Change
low_by_origin e (Some Bc) = e.c
low_by_origin e (Some De) = e.e
low_by_origin e (Some Hl) = e.l
low_by_origin e _ = Unknown

abbrev pub effect_by_origins : Effect → AbsState → Effect
effect_by_origins e exit = record {
  a = high_by_origin e exit.pairs.af.origin;
  b = high_by_origin e exit.pairs.bc.origin;
  c = low_by_origin e exit.pairs.bc.origin;
  d = high_by_origin e exit.pairs.de.origin;
  e = low_by_origin e exit.pairs.de.origin;
  h = high_by_origin e exit.pairs.hl.origin;
  l = low_by_origin e exit.pairs.hl.origin;
  bc = word_by_origin e exit.pairs.bc.origin;
  de = word_by_origin e exit.pairs.de.origin;
  hl = word_by_origin e exit.pairs.hl.origin;
  ix = word_by_origin e exit.pairs.ix.origin;
  iy = word_by_origin e exit.pairs.iy.origin;
  slot = e.slot;
}

-- the effect of a call with the callee's run, by version
abbrev pub effect_back : Version → Effect → AbsState → Effect
effect_back One e exit = effect_of_call e exit
effect_back Two e exit = effect_of_call e exit
effect_back Three e exit = effect_by_origins e exit
