-- The invariant: there are as many numbers as there can be ranks, and those below r are the weights.
-- Assumes nothing.
use mathlib.Core.Path.{◌≡◌}
use Prim.Native.Nat.{ℕ, ◌<◌}
use lib.ListN.{length, get_or}
use Rattle.listing.specs.Listing.{limits}
use Rattle.search_index.specs.Hash.{weight}
use Rattle.search_index.proofs.index.weights.Given as goal

abbrev pub invariant-loop-r : goal.invariant-loop-r
invariant-loop-r l = (length l.a ≡ limits.ranks) × ((k : ℕ) → k < l.r → get_or l.a k 0 ≡ weight k)
