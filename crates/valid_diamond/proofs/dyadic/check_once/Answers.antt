-- A count of 1 is refused, and another is passed over.
use Rattle.valid_diamond.proofs.Walks.{lone_stop, lone_next}
use Rattle.valid_diamond.proofs.dyadic.check_once.Goals as goal

pub returns-then-tally-from-eq1 : goal.returns-then-tally-from-eq1
returns-then-tally-from-eq1 c =
    lone_stop _ _ _ _ _ _ c.loop-x.invariant c.loop-x-test.true _ c.from.ensures c.if-tally-from-eq1.true

pub loop-x-preserved : goal.loop-x-preserved
loop-x-preserved c =
    lone_next _ _ _ _ _ _ c.loop-x.invariant c.loop-x-test.true _ c.from.ensures c.if-tally-from-eq1.false
