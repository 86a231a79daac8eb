-- `put_more`. There is room for a comma and the next number, as there is for all. Assumes nothing.
use native.Mathlib.Omega.{arith}
use lib.ListN.{length-set}
use Rattle.text_theory.specs.Text.{comma}
use Rattle.text_writing.proofs.Rows.{row_room, row_next}
use Rattle.text_writing.proofs.write.put_more.Goals as goal

pub bounds-text-p : goal.bounds-text-p
bounds-text-p c = omega (arith, row_room _ _ c.loop-x.invariant c.loop-x-test.true c.requires)

pub overflow_add-p : goal.overflow_add-p
overflow_add-p c = omega (arith, row_room _ _ c.loop-x.invariant c.loop-x-test.true c.requires)

pub put_number-p-requires : goal.put_number-p-requires
put_number-p-requires c =
    let room = row_room _ _ c.loop-x.invariant c.loop-x-test.true c.requires in
    omega (arith, room, length-set c.loop-x.text c.loop-x.p comma)

pub loop-x-preserved : goal.loop-x-preserved
loop-x-preserved c =
    let room = row_room _ _ c.loop-x.invariant c.loop-x-test.true c.requires in
    row_next _ _ c.loop-x.invariant c.loop-x-test.true (omega (arith, room)) _ _ c.put_number-p.ensures
