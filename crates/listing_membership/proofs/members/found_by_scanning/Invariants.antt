-- Invariant: whether the list has x is whether what is left of it has it.
-- Assumes nothing.
use mathlib.Core.Path.{◌≡◌}
use lib.ListN.{drop}
use Rattle.order.specs.Lists.{has}
use Rattle.listing_membership.proofs.members.found_by_scanning.Given as goal

abbrev pub invariant-loop-y : goal.invariant-loop-y
invariant-loop-y l = has l.list l.x ≡ has (drop l.y-index l.list) l.x
