-- The product of two factors, written out.
--
-- counts_of         how many elements the product has of each rank
-- product_listing   the product of two factors as the builder is given them, written out
use Rattle.std.specs.Prelude.{Bool, cond, List, [], ◌∷◌, ◌++◌, ℕ, suc, ◌+◌, ◌-◌, length}
use Rattle.listing.specs.Listing.{Listing}
use Rattle.listing.specs.Layers.{derived}
use Rattle.listing.specs.Written.{tabulated, written}
use Rattle.product_places.specs.declared.Poles.{Poles}
use Rattle.product_places.specs.Places.{pairs_in}
use Rattle.product_element.specs.Pairs.{target}

unfoldable pub counts_of : Bool → Bool → List ℕ → List ℕ → List ℕ
counts_of min max p q =
    cond min (1 ∷ []) [] ++ (tabulated (λ r. pairs_in p q r (suc r)) (length p + length q - 1) ++ cond max (1 ∷ []) [])

abbrev pub product_listing : Poles → Listing → Listing → Listing
product_listing poles P Q =
    let T = target poles.min poles.max P Q in
    written T (derived T)
