-- The dual of a product, and the product of the duals. A is the left factor, B the right one; a pair is of an element
-- of A and one of B.
--
-- in_order     a pair as the product by min takes it: A's element first where min is set, else B's
-- place_in     where a pair stands in the product
-- TurnedOver   a renumbering of D, the dual of the product by min and max of A and B, to Q, the product by max and min
--              of C and E, their duals: it takes each pair in use to the pair of the duals, and the added ends to the
--              added ends. It speaks of subs; the sups follow, since both sides are closed
use Rattle.std.specs.Prelude.{◌≡◌, Bool, true, false, T}
use Rattle.order.specs.Structure.{Renumbering}
use Rattle.order.specs.Pairs.{swap}
use Rattle.listing.specs.Listing.{Listing, rank}
use Rattle.listing.specs.Layers.{layers, order}
use Rattle.product_pairs.specs.Paired.{El}
use Rattle.product_closure.specs.Result.{first_factor, second_factor}
use Rattle.product_closure.specs.Pairs.{InnerPair, place_of}
use Rattle.dual_theory.specs.Dual.{dual_el}

abbrev pub in_order : Bool → El × El → El × El
in_order true x = x
in_order false x = swap x

abbrev pub place_in : Bool → Bool → Listing → Listing → El × El → El
place_in min max A B x = place_of min max (first_factor min A B) (second_factor min A B) (in_order min x)

pub record TurnedOver (min max : Bool) (A B C E D Q : Listing) : Type 0 where
  pub renumbering : Renumbering (order (layers D)) (order (layers Q))
  pub pairs : (x : El × El) → InnerPair min max A B x
      → renumbering.to (dual_el (rank D) (place_in min max A B x))
      ≡ place_in max min C E (dual_el (rank A) x.0, dual_el (rank B) x.1)
  pub lowest : T max → renumbering.to (0, 0) ≡ (0, 0)
  pub highest : T min → renumbering.to (rank D, 0) ≡ (rank Q, 0)
