-- What a closed listing is: the book's rules, and ascending lists, over a good shape.
--
-- Closed   shaped, bounded, incident, every list strictly ascending, and the diamond up to the maximal element
use Rattle.listing.specs.Listing.{Listing, Limits, rank}
use Rattle.listing.specs.Shape.{Shaped}
use Rattle.valid_incidence.specs.Incidence.{Incident}
use Rattle.valid_diamond.specs.Dyadic.{DiamondUpTo}
use Rattle.valid.specs.Bounds.{Bounded}
use Rattle.valid.specs.Ascent.{Ascends}

pub record Closed (m : Limits) (L : Listing) : Type 0 where
  pub shaped : Shaped m L
  pub bounded : Bounded L
  pub incident : Incident L
  pub ascends : Ascends L
  pub diamond : DiamondUpTo L (rank L)
