-- The refusals of the four products, in their order, 30 to 36.
--
-- product_rules   a product, told by min and max, whose output slices have the lengths c, e and i
use Rattle.std.specs.Prelude.{◌≡◌, Bool, false, List, [], ◌∷◌, ◌++◌, ℕ, ◌≤◌, length}
use Rattle.listing.specs.Refusals.{comb_of_point, product_ranks, product_elements, product_incidences, output_short}
use Rattle.listing.specs.Listing.{Listing, Limits}
use Rattle.listing.specs.Shape.{elements}
use Rattle.listing_outputs.specs.Output.{Fits}
use Rattle.listing.specs.Rules.{Rule, rule}
use Rattle.product_factors.specs.Factors.{factor_rules}
use Rattle.product_closure.specs.Result.{comb_case, result_of}

module _ (m : Limits) (min max : Bool) (A B : Listing) (c e i : ℕ) where
  abbrev pub product_rules : List Rule
  product_rules =
      let R = result_of min max A B in
      factor_rules m A B ++
      rule comb_of_point (comb_case min max A B ≡ false) ∷
      rule product_ranks (length R.counts ≤ m.ranks) ∷
      rule product_elements (elements R ≤ m.elements) ∷
      rule product_incidences (length R.inc ≤ m.incidences) ∷
      rule output_short (Fits R c e i) ∷ []
