-- The whole chain: what decides it, and what the product of two valid factors is in each case.
-- Assumes nothing.
use mathlib.Core.Path.{◌≡◌, refl, sym, ◌∙◌}
use mathlib.Core.Bool.{Bool, true, false}
use mathlib.Core.List.{List}
use Prim.Native.Nat.{ℕ, ◌<◌}
use native.Mathlib.Omega.{arith}
use lib.ListN.{length}
use Rattle.std.proofs.Common.{Result, Err}
use Rattle.std.specs.Result.{IsErrAnd}
use Rattle.listing.specs.declared.Built.{Built}
use Rattle.listing.specs.declared.Lengths.{Lengths}
use Rattle.listing.specs.declared.Refusal.{Refusal}
use Rattle.listing.specs.declared.Slices.{Slices}
use Rattle.listing.specs.declared.Refusal.TheVariants.{CombOfPoint}
use Rattle.listing.specs.Refusals.{comb_of_point}
use Rattle.listing.specs.Answers.{plain, fine, ◌or_else◌}
use Rattle.listing.specs.Listing.{Listing, Limits, limits, listing, held}
use Rattle.listing.specs.Told.{answer_of, told_built}
use Rattle.listing.specs.Cells.{nullitope}
use Rattle.listing.proofs.Answers.{or_fine, or_no, on_or_no, no_of}
use Rattle.listing.proofs.Told.{then_halt}
use Rattle.listing_outputs.specs.Output.{Made}
use Rattle.listing_outputs.proofs.Output.{made_halt, made_err}
use Rattle.valid.specs.Tests.{is_valid}
use Rattle.valid.proofs.ClosedExact.{valid_exact}
use Rattle.product_pairs.specs.Product.{product_of}
use Rattle.product_closure.specs.Result.{first_factor, second_factor, null_case, comb_case, result_of}
use Rattle.product_closure.proofs.Results.{result_product, result_null, needed, both}
use Rattle.product_sizes.specs.Sizing.{size_test, Usable}
use Rattle.product_sizes.proofs.Tested.{Passed, sizes_passed}
use Rattle.product_factors.specs.Factors.{factors_test}
use Rattle.product_factors.proofs.FactorTests.{factors_valid}
use Rattle.product.specs.Outcome.{rest_test, product_test, Outcome}

-- ---- which test decides

module _ (m : Limits) (min max : Bool) (A B : Listing) (c e i : ℕ) where
  pub rest_decides : (factors_test m A B).no ≡ 0 → rest_test m min max A B c e i ≡ product_test m min max A B c e i
  unfolding product_test
  rest_decides z = sym (or_fine _ _ z)

  comb_decides : comb_case min max A B ≡ true → plain comb_of_point ≡ rest_test m min max A B c e i
  unfolding rest_test ◌or_else◌
  comb_decides h = rw h

  sizes_decide : comb_case min max A B ≡ false
      → size_test m (result_of min max A B) c e i ≡ rest_test m min max A B c e i
  unfolding rest_test ◌or_else◌
  sizes_decide h = rw h

  -- no test refuses
  pub chain_passed : (product_test m min max A B c e i).no ≡ 0 → ((is_valid m A).no ≡ 0) × ((is_valid m B).no ≡ 0)
      × (comb_case min max A B ≡ false) × Passed m (result_of min max A B) c e i
  unfolding rest_test product_test
  chain_passed z =
      let p = or_no (factors_test m A B) (rest_test m min max A B c e i) z in
      let v = factors_valid m A B p.0 in
      let q = on_or_no _ (plain comb_of_point) _ (λ w. omega arith) p.1 in
      (v.0, v.1, q.0, sizes_passed m (result_of min max A B) c e i q.1)

-- where a factor of rank 0 makes it the nullitope, it is no refused duocomb
null_no_comb : (min max : Bool) (A B : Listing) → null_case min max A B ≡ true → comb_case min max A B ≡ false
unfolding comb_case
null_no_comb true true A B n = rw n
null_no_comb true false A B n = refl
null_no_comb false max A B n = refl

-- ---- two valid factors

-- a listing that is_valid accepts has a rank
pub valid_rank : (s : Slices) → (is_valid limits (held s)).no ≡ 0 → 0 < length s.counts.now
valid_rank s v = ((valid_exact limits (held s)).0 v).0.some_rank

-- they can be used, in either order, where it is not the null case nor the duocomb of a point
module _ (min max : Bool) (A B : Listing) (v_a : (is_valid limits A).no ≡ 0) (v_b : (is_valid limits B).no ≡ 0)
    (n : null_case min max A B ≡ false) (h : comb_case min max A B ≡ false) where
  usable : Usable min max (first_factor min A B) × Usable min max (second_factor min A B)
  usable =
      let k = needed min max A B n h in
      both (Usable min max) min A B (record { valid = v_a; high = k.0 }) (record { valid = v_b; high = k.1 })

  pub usable_first : {L : Listing} → L ≡ first_factor min A B → Usable min max L
  usable_first e = rw e usable.0

  pub usable_second : {L : Listing} → L ≡ second_factor min A B → Usable min max L
  usable_second e = rw e usable.1

module _ (min max : Bool) (A B : Listing) (c e i : List ℕ) (new : Listing) (r : Built) where
  -- of a listing R within the limits and the room
  abbrev Sizes : Listing → Type 0
  Sizes R = Made (size_test limits R (length c) (length e) (length i)) R (listing c e i) new r

  abbrev Rest : Type 0
  Rest =
      Made (rest_test limits min max A B (length c) (length e) (length i)) (result_of min max A B) (listing c e i) new r

  result_made : (R : Listing) → comb_case min max A B ≡ false → result_of min max A B ≡ R → Sizes R → Rest
  result_made R h e d = rw (← sizes_decide limits min max A B _ _ _ h, e) d

  pub null_made : (b : Bool) → b ≡ null_case min max A B → b ≡ true → Sizes nullitope → Rest
  null_made b k t = let n = sym k ∙ t in result_made nullitope (null_no_comb min max A B n) (result_null min max A B n)

  pub pairs_made : (P Q : Listing) → Sizes (product_of min max P Q) → P ≡ first_factor min A B
      → Q ≡ second_factor min A B → null_case min max A B ≡ false → comb_case min max A B ≡ false → Rest
  pairs_made P Q d p q n h =
      result_made _ h (result_product min max A B n) (rw (p, q) at d)

-- a refused duocomb
pub comb_made : (min max : Bool) (A B : Listing) (c e i : List ℕ) (b : Bool) → b ≡ comb_case min max A B → b ≡ true
    → Rest min max A B c e i (listing c e i) (told_built (Err CombOfPoint))
comb_made min max A B c e i b k h =
    made_halt CombOfPoint (comb_decides limits min max A B _ _ _ (sym k ∙ h)) (listing c e i)

-- ---- all of it

module _ (min max : Bool) (A B : Listing) (c e i : List ℕ) where
  -- a factor is refused
  pub factors_halt : (r : Result Lengths Refusal) (d : Refusal) → answer_of d ≡ factors_test limits A B
      → IsErrAnd r (λ x. x ≡ d)
      → Outcome limits min max A B (listing c e i) (listing c e i) (told_built r)
  unfolding product_test
  factors_halt r d f k = record { made = made_err r d k (then_halt _ d f) (listing c e i) }

  -- both are valid
  pub factors_done : (new : Listing) (r : Built) → Rest min max A B c e i new r → fine ≡ factors_test limits A B
      → Outcome limits min max A B (listing c e i) new r
  factors_done new r d f = record { made = rw (rest_decides limits min max A B _ _ _ (no_of f refl)) at d }

module _ (A B : Listing) (e : fine ≡ factors_test limits A B) where
  pub left_valid : (is_valid limits A).no ≡ 0
  left_valid = (factors_valid limits A B (no_of e refl)).0

  pub right_valid : (is_valid limits B).no ≡ 0
  right_valid = (factors_valid limits A B (no_of e refl)).1

-- for `using`: what is asked of two valid factors, and that two are valid
pub ruleset usable_ones = (valid_rank, usable_first, usable_second)

pub ruleset valid_ones = (left_valid, right_valid)
