use Rattle.listing.proofs.ShapeExact.{fill_next}
use Rattle.listing_shape.proofs.fills.Goals as goal

pub loop-end-preserved : goal.loop-end-preserved
loop-end-preserved c = fill_next _ _ _ _ _ c.loop-end.invariant c.loop-end-test.true c.if-end-from.false
