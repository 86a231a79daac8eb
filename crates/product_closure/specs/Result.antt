-- Which product of two listings each of the four is. min and max tell them apart: duopyramid neither, duoprism min,
-- duotegum max, duocomb both. A is the left factor, B the right one.
--
-- first_factor, second_factor   the factor that gives the first, the second members of the pairs: the left one gives the
--              first where min is set, else the right one does
-- null_case    a factor of rank 0, for all but the duopyramid
-- comb_case    the duocomb with a factor of rank 1, and none of rank 0
-- result_of    the product: the nullitope in the null case, else that of the pairs
-- HighEnough   the ranks of two closed factors at which the product is closed: all for the duopyramid, from 1 for
--              duoprism and duotegum, from 2 and not both 2 for the duocomb
use Rattle.std.specs.Prelude.{Bool, true, false, not, ◌&&◌, ◌||◌, ℕ, ◌+◌, ◌≤◌, eqb}
use Rattle.listing.specs.Listing.{Listing, rank}
use Rattle.listing.specs.Cells.{nullitope}
use Rattle.product_pairs.specs.Product.{product_of}

abbrev pub first_factor : Bool → Listing → Listing → Listing
first_factor true A B = A
first_factor false A B = B

abbrev pub second_factor : Bool → Listing → Listing → Listing
second_factor true A B = B
second_factor false A B = A

unfoldable pub null_case : Bool → Bool → Listing → Listing → Bool
null_case min max A B = (min || max) && (eqb (rank A) 0 || eqb (rank B) 0)

unfoldable pub comb_case : Bool → Bool → Listing → Listing → Bool
comb_case min max A B = (min && max) && (not (null_case min max A B) && (eqb (rank A) 1 || eqb (rank B) 1))

unfoldable pub result_of : Bool → Bool → Listing → Listing → Listing
result_of min max A B =
    elim (null_case min max A B) [
      | true ↦ nullitope
      | false ↦ product_of min max (first_factor min A B) (second_factor min A B)
    ]

unfoldable pub HighEnough : Bool → Bool → ℕ → ℕ → Type 0
HighEnough false false p q = Unit {0}
HighEnough true false p q = (1 ≤ p) × (1 ≤ q)
HighEnough false true p q = (1 ≤ p) × (1 ≤ q)
HighEnough true true p q = (2 ≤ p) × (2 ≤ q) × (5 ≤ p + q)
