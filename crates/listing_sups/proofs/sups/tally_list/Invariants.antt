-- `tally_list`. Invariant: the entries before the place that the loop has come to are counted.
-- Assumes nothing.
use lib.ListN.{take}
use Rattle.order.specs.Lists.{occurs}
use Rattle.listing_sups.specs.Sups.{Raised}
use Rattle.listing_sups.proofs.sups.tally_list.Given as goal

abbrev pub invariant-loop-x : goal.invariant-loop-x
invariant-loop-x l = Raised l.from l.n (λ y. occurs y (take l.x-index l.list)) l.initial.up l.up
