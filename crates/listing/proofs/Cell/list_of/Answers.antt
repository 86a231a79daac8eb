use Rattle.listing.proofs.ShapeExact.{shaped_ends}
use Rattle.listing.proofs.Cell.list_of.Goals as goal

pub list_of-requires-clause-ends : goal.list_of-requires-clause-ends
list_of-requires-clause-ends c = shaped_ends _ c.args.self.shaped
