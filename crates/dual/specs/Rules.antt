-- The refusals of a dual, in their order.
--
-- dual_rules   those of closed, and 36: the slices, of the lengths c, e and i, have room
use Rattle.std.specs.Prelude.{List, [], ◌∷◌, ◌++◌, ℕ}
use Rattle.listing.specs.Refusals.{output_short}
use Rattle.listing.specs.Listing.{Listing, Limits}
use Rattle.listing.specs.Rules.{Rule, rule}
use Rattle.listing_outputs.specs.Output.{Fits}
use Rattle.valid.specs.Rules.{closed_rules}
use Rattle.dual_theory.specs.Dual.{dual_of}

module _ (m : Limits) (L : Listing) (c e i : ℕ) where
  abbrev pub dual_rules : List Rule
  dual_rules = closed_rules m L ++ rule output_short (Fits (dual_of L) c e i) ∷ []
