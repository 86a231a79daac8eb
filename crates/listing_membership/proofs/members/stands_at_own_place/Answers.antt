-- What stands at a place of the list is in it.
-- Assumes nothing.
use mathlib.Core.Path.{sym, ◌∙◌}
use borrow.Author.Tests.{eqb-true}
use Rattle.order.proofs.Positions.{has_at}
use Rattle.listing_membership.proofs.members.stands_at_own_place.Goals as goal

pub returns-in-Some : goal.returns-in-Some
returns-in-Some c t =
    let g = rw c.in-Some.is at c.get.ensures.lookup in
    has_at _ _ g.3.0 (sym (g.3.1 0) ∙ eqb-true _ _ t)
