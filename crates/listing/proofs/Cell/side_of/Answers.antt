use Rattle.listing.proofs.ShapeExact.{shaped_ends}
use Rattle.listing.proofs.Cell.side_of.Goals as goal

pub side_of-requires-clause-ends : goal.side_of-requires-clause-ends
side_of-requires-clause-ends c = shaped_ends _ c.args.self.shaped
