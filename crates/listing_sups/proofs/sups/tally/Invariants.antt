-- `tally`. Invariant: the elements of the ranks below the one that is read next are counted, `from` is the number of
-- that rank's first element, and no count from there on is above 0.
-- Assumes nothing.
use mathlib.Core.Path.{◌≡◌}
use Rattle.listing.specs.Listing.{held, before}
use Rattle.listing_sups.proofs.Counting.{CountedTo}
use Rattle.listing_sups.proofs.Pairs.{PairsLeft, rank_of}
use Rattle.listing_sups.proofs.sups.tally.Given as goal

abbrev pub invariant-loop-pair : goal.invariant-loop-pair
invariant-loop-pair l =
    let rank = rank_of l.slices.counts.now l.pair-iterator in
    PairsLeft l.slices.counts.now l.pair-iterator × (l.from ≡ before l.slices.counts.now rank)
    × CountedTo l.base (held l.slices) rank l.up
