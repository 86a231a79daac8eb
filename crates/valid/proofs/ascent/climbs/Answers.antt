use Rattle.valid.proofs.AscentExact.{climb_next}
use Rattle.valid.proofs.ascent.climbs.Goals as goal

pub loop-number-preserved : goal.loop-number-preserved
loop-number-preserved c =
    climb_next _ _ _ _ c.loop-number.invariant c.loop-number-test.true _ c.from-x.ensures c.if-x-from.false
