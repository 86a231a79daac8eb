-- Invariant: the elements of the ranks below, and the first i of this rank, have their numbers.
use Rattle.listing.specs.Listing.{held}
use Rattle.body_count.specs.Capped.{CountedBelow}
use Rattle.body_count.proofs.chains.count_rank.Given as goal

abbrev pub invariant-loop-i : goal.invariant-loop-i
invariant-loop-i l = CountedBelow (held l.cell.slices) l.r l.i l.numbers
