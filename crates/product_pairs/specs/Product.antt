-- The product of two listings, once over the two flags: min, that the minimal elements are left out of the pairs and
-- one is added again; max, the same for the maximal ones. Pairs are of the first and the second factor, in this order.
--
-- used_pairs      the layers of the pairs in use
-- layer_product   the layers of the product: the pairs in use, with the ends added again
-- UsedPair        a pair of elements in use
-- at              where a pair of elements in use stands in the product
-- used_subs       the subs of an element, where they are in use: those of an element of the lowest rank in use are not
-- product_of      the product of two listings, written out with its derived sups
use Rattle.std.specs.Prelude.{Bool, List, [], ℕ, ◌+◌, ◌-◌}
use Rattle.std.proofs.Math.Decide.{dec_lt}
use Rattle.order.specs.Sums.{choose}
use Rattle.listing.specs.Listing.{Listing}
use Rattle.listing.specs.Layers.{Layers, layers, derived}
use Rattle.listing.specs.Written.{written}
use Rattle.product_pairs.specs.Trimmed.{bit, trimmed, Used}
use Rattle.product_pairs.specs.Paired.{El, position, paired}
use Rattle.product_pairs.specs.Grown.{grown}

abbrev pub used_pairs : Bool → Bool → Layers → Layers → Layers
used_pairs min max A B = paired (trimmed min max A) (trimmed min max B)

unfoldable pub layer_product : Bool → Bool → Layers → Layers → Layers
layer_product min max A B = grown min max (used_pairs min max A B)

abbrev pub UsedPair : Bool → Bool → Layers → Layers → El × El → Type 0
UsedPair min max A B x = Used min max A x.0 × Used min max B x.1

unfoldable pub at : Bool → Bool → Layers → Layers → El × El → El
at min max A B x =
    let a : El = (x.0.0 - bit min, x.0.1) in
    let b : El = (x.1.0 - bit min, x.1.1) in
    let p = position (trimmed min max A) (trimmed min max B) (a, b) in
    (p.0 + bit min, p.1)

unfoldable pub used_subs : Bool → Layers → El → List ℕ
used_subs min M x = choose (dec_lt (bit min) x.0) (M.under x.0 x.1) []

unfoldable pub product_of : Bool → Bool → Listing → Listing → Listing
product_of min max A B =
    let P = layer_product min max (layers A) (layers B) in
    written P (derived P)
