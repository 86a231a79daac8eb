-- `fill_ranks`. Invariant: the sups of the ranks below the one that is read next are filled in, `from` is the number of
-- that rank's first element, and the cursors from there on stand as at the start.
-- Assumes nothing.
use mathlib.Core.Path.{◌≡◌}
use Prim.Native.Nat.{ℕ, ◌*◌, ◌≤◌, ◌<◌}
use lib.ListN.{length, get_or}
use Rattle.listing.specs.Listing.{listing, before}
use Rattle.listing_sups.specs.Sups.{SupsFilled}
use Rattle.listing_sups.proofs.Pairs.{PairsLeft, rank_of}
use Rattle.listing_sups.proofs.sups.fill_ranks.Given as goal

abbrev pub invariant-loop-pair : goal.invariant-loop-pair
invariant-loop-pair l =
    let rank = rank_of l.counts l.pair-iterator in
    PairsLeft l.counts l.pair-iterator × (l.from ≡ before l.counts rank)
    × ((e : ℕ) → before l.counts rank ≤ e → e < before l.counts (length l.counts)
    → get_or l.next e 0 ≡ get_or l.ends (2 * e) 0)
    × SupsFilled (listing l.counts l.ends l.initial.inc) rank l.inc
