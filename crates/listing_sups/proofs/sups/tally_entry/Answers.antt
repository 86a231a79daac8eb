-- `tally_entry`: the count of x is raised by one, or nothing is done.
-- Assumes nothing.
use Rattle.listing_sups.proofs.Raising.{raised_one, raised_past}
use Rattle.listing_sups.proofs.sups.tally_entry.Goals as goal

pub returns-then-x-n : goal.returns-then-x-n
returns-then-x-n c = raised_one _ _ _ _ c.if-x-n.true c.requires.n_in_bounds

pub returns-else-x-n : goal.returns-else-x-n
returns-else-x-n c = raised_past _ _ _ _ c.if-x-n.false
