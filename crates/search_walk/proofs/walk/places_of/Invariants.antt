-- The invariant: here is the place where rank r begins and is small, and the places of the ranks below r are written.
-- Assumes nothing.
use mathlib.Core.Path.{◌≡◌}
use Prim.Native.Nat.{ℕ, ◌*◌, ◌≤◌, ◌<◌}
use lib.ListN.{length, get_or}
use Rattle.listing.specs.Listing.{width, limits, before}
use Rattle.search_walk.proofs.walk.places_of.Given as goal

abbrev pub invariant-loop-r : goal.invariant-loop-r
invariant-loop-r l =
    (l.here ≡ before l.counts l.r) × (l.here ≤ l.r * width) × (length l.places ≡ limits.ranks)
    × ((k : ℕ) → k < l.r → get_or l.places k 0 ≡ before l.counts k)
