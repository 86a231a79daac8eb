-- What the library's halving answers is whether the number was found.
-- Assumes nothing.
use Rattle.listing_membership.proofs.Halving.{halved}
use Rattle.listing_membership.proofs.members.found_by_halving.Goals as goal

pub returns : goal.returns
returns c =
    rw c.is_ok.ensures.value
    (halved _ _ _ c.binary_search.ensures.bound c.binary_search.ensures.position)
