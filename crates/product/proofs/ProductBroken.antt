-- A product answers the number of the first rule that is broken.
-- Assumes nothing.
use mathlib.Core.Bool.{Bool}
use Prim.Native.Nat.{ℕ}
use native.Mathlib.Omega.{arith}
use lib.ListN.{length}
use Rattle.listing.specs.Listing.{Listing, Limits}
use Rattle.listing.specs.Shape.{elements}
use Rattle.listing.specs.Rules.{FirstBroken}
use Rattle.listing.proofs.Broken.{broken_last, broken_step, tests_on, tests_over}
use Rattle.listing_outputs.proofs.Output.{room_tested}
use Rattle.product_factors.proofs.FactorTests.{factors_broken}
use Rattle.product_closure.specs.Result.{comb_case, result_of}
use Rattle.product_sizes.specs.Sizing.{size_test}
use Rattle.product.specs.Outcome.{rest_test, product_test}
use Rattle.product.specs.Rules.{product_rules}

module _ (m : Limits) (min max : Bool) (A B : Listing) (c e i : ℕ) where
  pub product_broken : FirstBroken (product_rules m min max A B c e i) (product_test m min max A B c e i).no
  unfolding product_test rest_test size_test
  product_broken =
      let R = result_of min max A B in
      factors_broken m A B _ _ (λ v_a v_b.
      broken_step _ (tests_on (comb_case min max A B) 32 (omega arith) (λ z. z) (λ z. z)) _ (λ k.
      broken_step _ (tests_over 33 (omega arith) m.ranks (length R.counts)) _ (λ p.
      broken_step _ (tests_over 34 (omega arith) m.elements (elements R)) _ (λ q.
      broken_step _ (tests_over 35 (omega arith) m.incidences (length R.inc)) _ (λ r.
      broken_last (room_tested R c e i))))))
