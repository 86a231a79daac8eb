-- `contains`: the library's test is whether the list has x.
-- Assumes nothing.
use mathlib.Core.Path.{◌∙◌}
use Rattle.listing_membership.proofs.Scanning.{any_has}
use Rattle.listing_membership.proofs.members.contains.Goals as goal

pub returns-then-list-le-SHORT : goal.returns-then-list-le-SHORT
returns-then-list-le-SHORT c = c.contains.ensures.value ∙ any_has _ _

pub returns-else-found_by_halving : goal.returns-else-found_by_halving
returns-else-found_by_halving c = c.contains-else-found_by_halving.ensures.value ∙ any_has _ _
