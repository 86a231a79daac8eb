-- Which product a result is: the nullitope where a factor of rank 0 makes it one, and else that of the pairs.
-- Assumes nothing.
use mathlib.Core.Path.{◌≡◌, refl, ap}
use mathlib.Core.Logic.{◌≢◌, ◌↔◌}
use mathlib.Core.Bool.{Bool, true, false, ◌&&◌, ◌||◌, or_comm}
use Prim.Native.Nat.{ℕ, ◌+◌, ◌-◌, ◌≤◌}
use native.Mathlib.Omega.{arith}
use borrow.Author.Tests.{eqb-false, ne_eqb}
use lib.Dec.{eqb}
use Rattle.order.specs.Sums.{sum}
use Rattle.order.specs.Ends.{need}
use Rattle.listing.specs.Answers.{◌or_else◌, first_in, first_for, first_of}
use Rattle.listing.specs.Listing.{Listing, limits, rank, before, entries}
use Rattle.listing.specs.Shape.{fills, shape_test}
use Rattle.listing.specs.Cells.{nullitope}
use Rattle.valid_incidence.specs.Ways.{along_test, list_test}
use Rattle.valid_incidence.specs.Incidence.{element_test, incidences_test}
use Rattle.order.proofs.Tests.{or_none}
use Rattle.valid_diamond.specs.Dyadic.{dyadic_test}
use Rattle.valid.specs.Bounds.{bounded_test}
use Rattle.valid.specs.Ascent.{climbs, element_ascent, ascent_test}
use Rattle.valid.specs.Tests.{closed}
use Rattle.valid.specs.Closed.{Closed}
use Rattle.valid.proofs.ClosedExact.{closed_exact}
use Rattle.product_pairs.specs.Trimmed.{bit}
use Rattle.product_pairs.specs.Product.{product_of}
use Rattle.product_pairs.proofs.Listings.{product_of_rank}
use Rattle.product_closure.specs.Result.{first_factor, second_factor, null_case, comb_case, result_of}

module _ (min max : Bool) (A B : Listing) where
  pub result_product : null_case min max A B ≡ false
      → result_of min max A B ≡ product_of min max (first_factor min A B) (second_factor min A B)
  unfolding result_of
  result_product e = rw (e, result_of)

  pub result_null : null_case min max A B ≡ true → result_of min max A B ≡ nullitope
  unfolding result_of
  result_null e = rw (e, result_of)

-- the nullitope is closed, by computing
pub nullitope_closed : Closed limits nullitope
unfolding sum before entries fills shape_test ◌or_else◌ first_in first_for first_of bounded_test along_test list_test
    element_test incidences_test climbs element_ascent ascent_test dyadic_test closed
nullitope_closed = (closed_exact limits nullitope).0 refl

-- ---- ranks

-- neither factor has rank n
neither : (n : ℕ) (A B : Listing) → (eqb (rank A) n || eqb (rank B) n ≡ false) ↔ ((rank A ≢ n) × (rank B ≢ n))
neither n A B = (
  λ e. let p = or_none _ _ e in (eqb-false (rank A) n p.0, eqb-false (rank B) n p.1),
  λ p. rw (ne_eqb (rank A) n p.0, ne_eqb (rank B) n p.1),
)

-- factors that are high enough make no null case, and no case of the duocomb that is refused; and back
pub not_null : (min max : Bool) (A B : Listing) → need min max ≤ rank A → need min max ≤ rank B
    → null_case min max A B ≡ false
unfolding null_case
not_null true true A B p q = (neither 0 A B).1 (omega arith, omega arith)
not_null true false A B p q = (neither 0 A B).1 (omega arith, omega arith)
not_null false true A B p q = (neither 0 A B).1 (omega arith, omega arith)
not_null false false A B p q = refl

pub needed : (min max : Bool) (A B : Listing) → null_case min max A B ≡ false → comb_case min max A B ≡ false
    → (need min max ≤ rank A) × (need min max ≤ rank B)
unfolding null_case comb_case
needed true true A B n c =
    let p = (neither 0 A B).0 n in
    let q = (neither 1 A B).0 (rw n at c) in
    (omega arith, omega arith)
needed true false A B n c = let p = (neither 0 A B).0 n in (omega arith, omega arith)
needed false true A B n c = let p = (neither 0 A B).0 n in (omega arith, omega arith)
needed false false A B n c = (omega arith, omega arith)

-- ---- the first and the second factor

-- exchanging the factors does not change whether it is the null case
pub null_exchanged : (min max : Bool) (A B : Listing) → null_case min max A B ≡ null_case min max B A
unfolding null_case
null_exchanged min max A B = ap (λ t. (min || max) && t) (or_comm (eqb (rank A) 0) (eqb (rank B) 0))

-- what both factors have, the first and the second have
pub both : (P : Listing → Type 0) (min : Bool) (A B : Listing) → P A → P B
    → P (first_factor min A B) × P (second_factor min A B)
both P true A B a b = (a, b)
both P false A B a b = (b, a)

-- what holds of the second and the first factor holds of the first and the second of the exchanged ones
pub exchanged : (P : Listing → Listing → Type 0) (min : Bool) (A B : Listing)
    → P (second_factor min A B) (first_factor min A B) → P (first_factor min B A) (second_factor min B A)
exchanged P true A B p = p
exchanged P false A B p = p

pub both_ranks : (min : Bool) (A B : Listing)
    → rank (first_factor min A B) + rank (second_factor min A B) ≡ rank A + rank B
both_ranks true A B = refl
both_ranks false A B = omega arith

-- The rank of a product: the ranks add up, less one for each end that was left out of the pairs.
pub result_rank : (min max : Bool) (A B : Listing) → need min max ≤ rank A → need min max ≤ rank B
    → rank (result_of min max A B) ≡ rank A + rank B - bit min - bit max
result_rank min max A B p q =
    let r = both (λ L. need min max ≤ rank L) min A B p q in
    rw (result_product min max A B (not_null min max A B p q), ← both_ranks min A B)
    (product_of_rank min max (first_factor min A B) (second_factor min A B) r.0 r.1)
