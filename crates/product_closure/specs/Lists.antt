-- The lists of a product as they are written. A and B are the first and the second factor, R the product of the two.
--
-- Arranged   places    pairs of one rank stand in the order of the first member's rank, its index, the second's index
--            pairs     the subs of a pair are the first member's subs in use in their order, each with the second
--            member, and then the second's with the first
--            lowest    but over an added minimal element the lowest pairs have that one alone
--            minimal   the sups of an added minimal element are all lowest pairs, 0 to n - 1
--            maximal   the subs of an added maximal element are all facets, 0 to n - 1
--            sups      the sups of each element are those derived from the subs
use Rattle.std.specs.Prelude.{◌≡◌, ◌≢◌, Bool, [], ◌∷◌, ◌++◌, map, ◌+◌, ◌-◌, ◌<◌, T}
use Rattle.listing.specs.Listing.{Listing, rank, count, subs, sups}
use Rattle.listing.specs.Layers.{layers}
use Rattle.valid.specs.Derived.{Derived}
use Rattle.product_pairs.specs.Paired.{El, Sooner}
use Rattle.product_pairs.specs.Grown.{up_to}
use Rattle.product_pairs.specs.Product.{used_subs}
use Rattle.product_closure.specs.Pairs.{InnerPair, place_of}

pub record Arranged (min max : Bool) (A B R : Listing) : Type 0 where
  pub places : (x y : El × El) → InnerPair min max A B x → InnerPair min max A B y
      → x.0.0 + x.1.0 ≡ y.0.0 + y.1.0 → Sooner x y → (place_of min max A B x).1 < (place_of min max A B y).1
  pub pairs : (x : El × El) → InnerPair min max A B x → (T min → (place_of min max A B x).0 ≢ 1)
      → subs R (place_of min max A B x).0 (place_of min max A B x).1
      ≡ map (λ a. (place_of min max A B ((x.0.0 - 1, a), x.1)).1) (used_subs min (layers A) x.0)
      ++ map (λ b. (place_of min max A B (x.0, (x.1.0 - 1, b))).1) (used_subs min (layers B) x.1)
  pub lowest : (x : El × El) → InnerPair min max A B x → T min → (place_of min max A B x).0 ≡ 1
      → subs R (place_of min max A B x).0 (place_of min max A B x).1 ≡ 0 ∷ []
  pub minimal : T min → sups R 0 0 ≡ up_to (count R 1)
  pub maximal : T max → subs R (rank R) 0 ≡ up_to (count R (rank R - 1))
  pub sups : Derived R
