-- Two products with the factors exchanged and as much room answer the same, where the factors are valid: the refusals
-- past 31 go by sizes, and exchanging the factors changes none.
-- Assumes nothing.
use mathlib.Core.Path.{◌≡◌, sym, ap, ◌∙◌}
use mathlib.Core.Bool.{Bool}
use Prim.Native.Nat.{ℕ}
use lib.ListN.{length}
use Rattle.listing.specs.declared.Answer.{Answer}
use Rattle.listing.specs.declared.Built.{Built}
use Rattle.listing.specs.Answers.{plain, on, ◌or_else◌}
use Rattle.listing.specs.Refusals.{comb_of_point}
use Rattle.listing.specs.Listing.{Listing, Limits, limits}
use Rattle.listing_outputs.specs.Output.{short_test, built_of}
use Rattle.valid.specs.Tests.{is_valid}
use Rattle.product_closure.specs.Result.{result_of}
use Rattle.product_closure.proofs.Valid.{valid_sound}
use Rattle.product_closure.proofs.Exchanged.{SameSizes, comb_exchanged, result_exchanged}
use Rattle.product_sizes.specs.Sizing.{size_test}
use Rattle.product.specs.Outcome.{rest_test, product_test, Outcome}
use Rattle.product_factors.proofs.FactorTests.{factors_fine}
use Rattle.product.proofs.Chain.{rest_decides}

-- ---- listings of the same sizes

module _ {R Q : Listing} (s : SameSizes R Q) where
  sizes_same : (m : Limits) (c e i : ℕ) → size_test m R c e i ≡ size_test m Q c e i
  unfolding size_test short_test
  sizes_same m c e i = rw (s.elements, s.counts, s.ends, s.inc)

  built_same : (t : Answer) → built_of t R ≡ built_of t Q
  unfolding built_of
  built_same t = rw (s.counts, s.ends, s.inc)

-- ---- the product either way round

module _ (min max : Bool) (A B : Listing) (v_a : (is_valid limits A).no ≡ 0) (v_b : (is_valid limits B).no ≡ 0) where
  same_sizes : SameSizes (result_of min max A B) (result_of min max B A)
  same_sizes = result_exchanged min max A B (valid_sound limits A v_a) (valid_sound limits B v_b)

  rest_same : (c e i : ℕ) → rest_test limits min max A B c e i ≡ rest_test limits min max B A c e i
  unfolding rest_test
  rest_same c e i = λ t.
      on (comb_exchanged min max A B t) (plain comb_of_point) or_else sizes_same same_sizes limits c e i t

  test_same : (c e i : ℕ) → product_test limits min max A B c e i ≡ product_test limits min max B A c e i
  test_same c e i =
      let f = ap (λ (a : Answer). a.no) (factors_fine limits A B v_a v_b) in
      let g = ap (λ (a : Answer). a.no) (factors_fine limits B A v_b v_a) in
      sym (rest_decides limits min max A B c e i f) ∙ rest_same c e i ∙ rest_decides limits min max B A c e i g

  pub answers_same : {old new old' new' : Listing} {r s : Built} → Outcome limits min max A B old new r
      → Outcome limits min max B A old' new' s → length old.counts ≡ length old'.counts
      → length old.ends ≡ length old'.ends → length old.inc ≡ length old'.inc → r ≡ s
  answers_same {old' = old'} o p c e i =
      let t = test_same (length old'.counts) (length old'.ends) (length old'.inc) in
      o.made.answer ∙ rw (c, e, i, t) (built_same same_sizes _ ∙ sym p.made.answer)
