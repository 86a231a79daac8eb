-- `tally_rank`. Invariant: the lists of the first a elements are counted, and no count is above where the next list
-- begins.
-- Assumes nothing.
use Prim.Native.Nat.{ℕ, ◌+◌, ◌*◌, ◌≤◌}
use lib.ListN.{get_or}
use Rattle.order.specs.Sums.{sum}
use Rattle.order.specs.Lists.{occurs}
use Rattle.listing.specs.Listing.{start, subs_at}
use Rattle.listing_sups.specs.Sups.{Raised}
use Rattle.listing_sups.proofs.sups.tally_rank.Given as goal

abbrev pub invariant-loop-a : goal.invariant-loop-a
invariant-loop-a l =
    Raised l.from l.n (λ y. sum (λ b. occurs y (subs_at l.slices.ends.now l.slices.inc.now l.here b)) l.a) l.initial.up l.up
    × ((k : ℕ) → get_or l.up k 0 ≤ start l.slices.ends.now (2 * (l.here + l.a)))
