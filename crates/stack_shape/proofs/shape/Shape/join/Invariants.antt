use Rattle.std.proofs.Common.{◌≡◌, ◌+◌, ◌≤◌, ◌++◌, length}
use Rattle.std.specs.Iterator.Adapters.{zip_first, zip_second}
use Rattle.std.specs.Slice.Iter.{iter_rest}
use Rattle.stack_shape.specs.Shape.{hull_of_shapes}
use Rattle.stack_shape.proofs.shape.Shape.join.Given as goal

-- the slots so far, and the joins of those that are left, are the joins of all
abbrev pub invariant-loop-a : goal.invariant-loop-a
invariant-loop-a l =
    let left = iter_rest (zip_first l.a-iterator) in
    let left' = iter_rest (zip_second l.a-iterator) in
    (hull_of_shapes l.self l.other ≡ l.slots.items ++ hull_of_shapes left left') × (length left ≡ length left')
    × (length l.slots.items + length left ≤ 64)
