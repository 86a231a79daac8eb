-- The pairs of a product. A and B are the first and the second factor, R the product of the two.
--
-- UnderIn     an element of a listing is directly under another: it stands in the subs of the other, one rank higher
-- Inner       an element that is there, not of the lowest rank where min is set, and not of the highest where max is
-- InnerPair   a pair of such elements, the first of A and the second of B
-- place_of    where a pair stands in the product
-- Matched     what is no added end matches the pairs in use, one to one; ranks add up, less one where a minimal element
--             was left out; and one pair is directly under another exactly if one member is equal and the other directly
--             under
-- LowEnd      the added minimal element: there is one, directly under the pairs of two elements of rank 1 and no others
-- HighEnd     the added maximal element: there is one, directly over the pairs of two facets and no others
-- Swapped     a renumbering of the product R of A and B to the product Q of B and A that only swaps the pairs
use Rattle.std.specs.Prelude.{◌≡◌, ◌↔◌, ◌⊎◌, Bool, true, suc, ◌+◌, ◌≤◌, ◌<◌, T}
use Rattle.order.specs.Lists.{In}
use Rattle.order.specs.Structure.{Renumbering}
use Rattle.order.specs.Pairs.{Step, swap}
use Rattle.listing.specs.Listing.{Listing, rank, count, subs}
use Rattle.listing.specs.Layers.{layers, order}
use Rattle.product_pairs.specs.Trimmed.{bit}
use Rattle.product_pairs.specs.Paired.{El}
use Rattle.product_pairs.specs.Product.{at}

abbrev pub UnderIn : Listing → El → El → Type 0
UnderIn L x y = (y.0 ≡ suc x.0) × In x.1 (subs L y.0 y.1)

abbrev pub Inner : Bool → Bool → Listing → El → Type 0
Inner min max L x = (x.1 < count L x.0) × (bit min ≤ x.0) × (x.0 + bit max ≤ rank L)

abbrev pub InnerPair : Bool → Bool → Listing → Listing → El × El → Type 0
InnerPair min max A B x = Inner min max A x.0 × Inner min max B x.1

abbrev pub place_of : Bool → Bool → Listing → Listing → El × El → El
place_of min max A B x = at min max (layers A) (layers B) x

pub record Matched (min max : Bool) (A B R : Listing) : Type 0 where
  pub there : (x : El × El) → InnerPair min max A B x → Inner min max R (place_of min max A B x)
  pub once : (x y : El × El) → InnerPair min max A B x → InnerPair min max A B y
      → place_of min max A B x ≡ place_of min max A B y → x ≡ y
  pub all : (y : El) → Inner min max R y → (x : El × El) × InnerPair min max A B x × (place_of min max A B x ≡ y)
  pub ranks : (x : El × El) → InnerPair min max A B x → (place_of min max A B x).0 + bit min ≡ x.0.0 + x.1.0
  pub others : (y : El) → y.1 < count R y.0
      → Inner min max R y ⊎ ((T min × (y ≡ (0, 0))) ⊎ (T max × (y ≡ (rank R, 0))))
  pub under : (x y : El × El) → InnerPair min max A B x → InnerPair min max A B y
      → UnderIn R (place_of min max A B x) (place_of min max A B y) ↔ Step (UnderIn A) (UnderIn B) x y

pub record LowEnd (max : Bool) (A B R : Listing) : Type 0 where
  pub one : count R 0 ≡ 1
  pub pairs : (x : El × El) → InnerPair true max A B x
      → UnderIn R (0, 0) (place_of true max A B x) ↔ ((x.0.0 ≡ 1) × (x.1.0 ≡ 1))
  pub no_other : (y : El) → y.1 < count R y.0 → UnderIn R (0, 0) y → Inner true max R y

pub record HighEnd (min : Bool) (A B R : Listing) : Type 0 where
  pub one : count R (rank R) ≡ 1
  pub pairs : (x : El × El) → InnerPair min true A B x
      → UnderIn R (place_of min true A B x) (rank R, 0) ↔ ((suc x.0.0 ≡ rank A) × (suc x.1.0 ≡ rank B))
  pub no_other : (y : El) → y.1 < count R y.0 → UnderIn R y (rank R, 0) → Inner min true R y

pub record Swapped (min max : Bool) (A B R Q : Listing) : Type 0 where
  pub renumbering : Renumbering (order (layers R)) (order (layers Q))
  pub pairs : (x : El × El) → InnerPair min max A B x
      → renumbering.to (place_of min max A B x) ≡ place_of min max B A (swap x)
  pub minimal : T min → renumbering.to (0, 0) ≡ (0, 0)
  pub maximal : T max → renumbering.to (rank R, 0) ≡ (rank Q, 0)
