-- What the code relies on in a cell: a rank that has an element is there, and so are an element's lists.
-- Assumes nothing.
use mathlib.Core.Path.{◌≡◌}
use mathlib.Core.List.{List, []}
use Prim.Native.Nat.{ℕ, ◌+◌, ◌*◌, ◌≤◌, ◌<◌}
use lib.ListN.{length, get_or}
use Rattle.listing.specs.declared.Slices.{Slices}
use Rattle.listing.specs.Listing.{Ends, listing, held, limits, before}
use Rattle.listing.specs.Shape.{Shaped}
use Rattle.listing.proofs.Listing.{rank_there}
use Rattle.listing.proofs.ShapeExact.{shaped_ends}
use Rattle.listing.proofs.Places.{side_fits, few_before, few_in_rank}

pub rank_in : (counts : List ℕ) (r i : ℕ) → i < get_or counts r 0 → r < length counts
rank_in counts r i h = rank_there (listing counts [] []) r i h

module _ (s : Slices) (S : Shaped limits (held s)) where
  pub ends_are : Ends s.ends.now s.inc.now
  ends_are = shaped_ends (held s) S

  module _ (r : ℕ) where
    pub few_here : before s.counts.now r ≤ limits.elements
    few_here = few_before (held s) S r

    pub few_in : get_or s.counts.now r 0 ≤ limits.elements
    few_in = few_in_rank (held s) S r

    -- the list of element i at a side
    pub side_there : (here i k : ℕ) → here ≡ before s.counts.now r → i < get_or s.counts.now r 0 → k < 2
        → 2 * (here + i) + k < length s.ends.now
    side_there here i k e h l = rw e (side_fits (held s) S r i k h l)

pub ruleset places = (rank_in, ends_are, few_here, few_in, side_there)
