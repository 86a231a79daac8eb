-- Each number that is added up is one of the array's.
use native.Mathlib.Omega.{arith}
use Rattle.body_count.proofs.Capped.{list_inside}
use Rattle.body_count.proofs.chains.sum_of.Goals as goal

pub overflow_add-b : goal.overflow_add-b
overflow_add-b c = omega (arith, list_inside _ _ _ c.requires.by_index c.loop-x-test.true c.from.ensures)

pub offset_bounds-numbers-b : goal.offset_bounds-numbers-b
offset_bounds-numbers-b c = omega (arith, list_inside _ _ _ c.requires.by_index c.loop-x-test.true c.from.ensures)

pub bounds-numbers-b : goal.bounds-numbers-b
bounds-numbers-b c = list_inside _ _ _ c.requires.by_index c.loop-x-test.true c.from.ensures
