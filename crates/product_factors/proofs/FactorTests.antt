-- The tests of the factors in their order: the first that fails decides, one law for each; and so does what comes after
-- them.
-- Assumes nothing.
use mathlib.Core.Path.{◌≡◌}
use mathlib.Core.List.{List, ◌++◌}
use native.Mathlib.Omega.{arith}
use borrow.Author.Tests.{eq-eqb, eqb-true, not-false}
use lib.Dec.{eqb}
use Rattle.listing.specs.declared.Answer.{Answer}
use Rattle.listing.specs.Refusals.{left_invalid, right_invalid}
use Rattle.listing.specs.Answers.{plain, fine, ◌or_else◌}
use Rattle.listing.specs.Listing.{Listing, Limits}
use Rattle.listing.specs.Rules.{Rule, FirstBroken}
use Rattle.listing.proofs.Answers.{on_no, on_or_no}
use Rattle.listing.proofs.Broken.{broken_step, broken_inner, tests_not}
use Rattle.valid.specs.Tests.{is_valid}
use Rattle.product_factors.specs.Factors.{factors_test, factor_rules}

module _ (m : Limits) (A B : Listing) where
  pub factors_fine : (is_valid m A).no ≡ 0 → (is_valid m B).no ≡ 0 → factors_test m A B ≡ fine
  unfolding factors_test ◌or_else◌
  factors_fine a b = rw (eq-eqb _ _ a, eq-eqb _ _ b)

  -- where neither is refused both are valid
  pub factors_valid : (factors_test m A B).no ≡ 0 → ((is_valid m A).no ≡ 0) × ((is_valid m B).no ≡ 0)
  unfolding factors_test
  factors_valid e =
      let p = on_or_no _ (plain left_invalid) _ (λ z. omega arith) e in
      let q = on_no _ (plain right_invalid) (λ z. omega arith) p.1 in
      (eqb-true _ _ (not-false _ p.0), eqb-true _ _ (not-false _ q))

  -- The tests of the factors, and others after them.
  pub factors_broken : (l : List Rule) (y : Answer)
      → ((is_valid m A).no ≡ 0 → (is_valid m B).no ≡ 0 → FirstBroken l y.no)
      → FirstBroken (factor_rules m A B ++ l) (factors_test m A B or_else y).no
  unfolding factors_test
  factors_broken l y r =
      broken_inner _ (tests_not (eqb (is_valid m A).no 0) 30 (omega arith) (eqb-true _ _) (eq-eqb _ _)) _ y (λ a.
      broken_step l (tests_not (eqb (is_valid m B).no 0) 31 (omega arith) (eqb-true _ _) (eq-eqb _ _)) y (λ b. r a b))
