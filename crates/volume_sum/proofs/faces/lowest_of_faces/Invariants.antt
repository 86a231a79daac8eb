-- `lowest_of_faces`. Invariant: the faces before i have their lowest vertices in the array.
-- Assumes nothing.
use mathlib.Core.Path.{◌≡◌}
use Prim.Native.Nat.{ℕ, ◌<◌}
use lib.ListN.{length, get_or}
use Rattle.listing.specs.Listing.{held, limits}
use Rattle.volume_theory.specs.Six.{lowest_of}
use Rattle.volume_sum.proofs.faces.lowest_of_faces.Given as goal

abbrev pub invariant-loop-i : goal.invariant-loop-i
invariant-loop-i l = (length l.lowest ≡ limits.elements)
    × ((k : ℕ) → k < l.i → get_or l.lowest k 0 ≡ lowest_of (held l.cell.slices) k)
