-- The elements of both ways from a rank of a shaped listing are there.
-- Assumes nothing.
use Prim.Native.Nat.{ℕ, ◌+◌}
use native.Mathlib.Omega.{arith}
use Rattle.listing.specs.Listing.{Listing, Limits}
use Rattle.listing.specs.Shape.{Shaped}
use Rattle.listing.proofs.Listing.{before_last, before_all}
use Rattle.listing.proofs.Places.{rank_fits}
use Rattle.valid_incidence.specs.Ways.{down, up, WayFits}

module _ {m : Limits} (L : Listing) (S : Shaped m L) (r : ℕ) where
  pub down_fits : WayFits L.ends (down L r)
  down_fits = omega (arith, before_last L.counts r, before_all L.counts r, S.two_ends_each)

  pub up_fits : WayFits L.ends (up L r)
  up_fits = rank_fits L S (r + 1)
