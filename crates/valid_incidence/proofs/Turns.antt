-- The laws by which a loop over ranks answers the first refusal, where it also keeps where its rank begins.
-- Assumes nothing.
use Rattle.listing.proofs.Told.{among}
use Rattle.listing.proofs.Listing.{before_zero, before_next, before_step}

pub ruleset all = (among, before_zero, before_next, before_step)
