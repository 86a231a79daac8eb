-- Test 1 is exact: it answers 0 exactly if the listing is Bounded.
-- Assumes nothing.
use mathlib.Core.Path.{◌≡◌, ap}
use mathlib.Core.Logic.{◌↔◌}
use native.Mathlib.Omega.{arith}
use borrow.Author.Tests.{eqb-true, eq-eqb, not-false}
use Rattle.listing.specs.Answers.{fine, refusal}
use Rattle.listing.specs.Listing.{Listing, rank, count}
use Rattle.listing.specs.Refusals.{not_bounded}
use Rattle.listing.specs.declared.Answer.{Answer}
use Rattle.listing.proofs.Answers.{on_no}
use Rattle.order.proofs.Tests.{and_true}
use Rattle.valid.specs.Bounds.{bounded_test, Bounded}

module _ (L : Listing) where
  abbrev unbounded : Answer
  unbounded = refusal not_bounded (count L 0) (count L (rank L)) 0 0

  bounded_yes : count L 0 ≡ 1 → count L (rank L) ≡ 1 → bounded_test L ≡ fine
  unfolding bounded_test
  bounded_yes h k = rw (eq-eqb _ _ h, eq-eqb _ _ k)

  -- Test 1 answers 0 exactly if the listing is Bounded.
  pub bounded_exact : (bounded_test L).no ≡ 0 ↔ Bounded L
  unfolding bounded_test
  bounded_exact = (there, back)
    where
      there : (bounded_test L).no ≡ 0 → Bounded L
      there e =
          let p = and_true _ _ (not-false _ (on_no _ unbounded (λ z. omega arith) e)) in
          record { one_minimal = eqb-true _ _ p.0; one_maximal = eqb-true _ _ p.1 }

      back : Bounded L → (bounded_test L).no ≡ 0
      back b = ap (λ (a : Answer). a.no) (bounded_yes b.one_minimal b.one_maximal)
