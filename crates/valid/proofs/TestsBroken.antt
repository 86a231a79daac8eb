-- Each test answers the number of the first rule that is broken; and so does what comes after the closed test.
-- Assumes nothing.
use mathlib.Core.Path.{refl}
use mathlib.Core.List.{List, [], ◌++◌}
use Prim.Native.Nat.{◌-◌}
use Rattle.listing.specs.declared.Answer.{Answer}
use Rattle.listing.specs.Answers.{fine, ◌or_else◌}
use Rattle.listing.specs.Listing.{Listing, Limits, rank}
use Rattle.listing.specs.Shape.{shape_test}
use Rattle.listing.specs.Rules.{Rule, FirstBroken}
use Rattle.listing.proofs.Answers.{or_assoc}
use Rattle.listing.proofs.Broken.{Tests, broken_last, broken_step, broken_inner}
use Rattle.listing.proofs.ShapeBroken.{or_nothing, shape_broken}
use Rattle.valid_incidence.specs.Incidence.{Incident, incidences_test}
use Rattle.valid_incidence.proofs.IncidenceExact.{incidences_exact}
use Rattle.valid_diamond.specs.Dyadic.{MetTwice, DiamondUpTo, dyadic_test}
use Rattle.valid_diamond.proofs.DyadicExact.{dyadic_counts, dyadic_exact}
use Rattle.valid.specs.Bounds.{Bounded, bounded_test}
use Rattle.valid.specs.Ascent.{Ascends, ascent_test}
use Rattle.valid.specs.Closed.{Closed}
use Rattle.valid.specs.Tests.{bounded, check_incidences, is_dyadic, is_valid, closed}
use Rattle.valid.specs.Rules.{bounded_rules, incident_rules, dyadic_rules, valid_rules, closed_rules}
use Rattle.valid.proofs.BoundsExact.{bounded_exact}
use Rattle.valid.proofs.AscentExact.{ascent_exact, ascends_distinct}
use Rattle.valid.proofs.TestNumbers.{bounded_numbers, incidence_numbers, ascent_numbers, dyadic_numbers}

module _ (L : Listing) where
  bounded_tested : Tests 10 10 (Bounded L) (bounded_test L)
  bounded_tested = record { exact = bounded_exact L; numbers = (bounded_numbers L).numbers }

  incident_tested : Tests 11 16 (Incident L) (incidences_test L)
  incident_tested = record { exact = incidences_exact L; numbers = (incidence_numbers L).numbers }

  ascent_tested : Tests 19 19 (Ascends L) (ascent_test L)
  ascent_tested = record { exact = ascent_exact L; numbers = (ascent_numbers L).numbers }

  twice_tested : Incident L → Tests 17 18 (MetTwice L (rank L - 1)) (dyadic_test L (rank L - 1))
  twice_tested I = record {
    exact = dyadic_counts L I (rank L - 1);
    numbers = (dyadic_numbers L (rank L - 1)).numbers;
  }

  diamond_tested : Incident L → Ascends L → Tests 17 18 (DiamondUpTo L (rank L)) (dyadic_test L (rank L))
  diamond_tested I A = record {
    exact = dyadic_exact L I (ascends_distinct L A) (rank L);
    numbers = (dyadic_numbers L (rank L)).numbers;
  }

module _ (m : Limits) (L : Listing) where
  pub bounded_broken : FirstBroken (bounded_rules m L) (bounded m L).no
  unfolding bounded
  bounded_broken = shape_broken m L _ _ (λ S. broken_last (bounded_tested L))

  pub incident_broken : FirstBroken (incident_rules m L) (check_incidences m L).no
  unfolding check_incidences
  incident_broken = shape_broken m L _ _ (λ S. broken_last (incident_tested L))

  pub dyadic_broken : FirstBroken (dyadic_rules m L) (is_dyadic m L).no
  unfolding is_dyadic
  dyadic_broken =
      shape_broken m L _ _ (λ S. broken_step _ (incident_tested L) _ (λ I. broken_last (twice_tested L I)))

  pub valid_broken : FirstBroken (valid_rules m L) (is_valid m L).no
  unfolding is_valid
  valid_broken =
      shape_broken m L _ _ (λ S. broken_step _ (bounded_tested L) _ (λ B.
      broken_step _ (incident_tested L) _ (λ I. broken_last (twice_tested L I))))

  -- the closed test, and others after it
  pub closed_then : (l : List Rule) (y : Answer) → (Closed m L → FirstBroken l y.no)
      → FirstBroken (closed_rules m L ++ l) (closed m L or_else y).no
  unfolding closed
  closed_then l y r =
      rw (← or_assoc (shape_test m L) _ y)
      (shape_broken m L _ _ (λ S. broken_inner _ (bounded_tested L) _ y (λ B.
      broken_inner _ (incident_tested L) _ y (λ I.
      broken_inner _ (ascent_tested L) _ y (λ A. broken_step l (diamond_tested L I A) y (λ D. r (record {
        shaped = S;
        bounded = B;
        incident = I;
        ascends = A;
        diamond = D;
      })))))))

  pub closed_broken : FirstBroken (closed_rules m L) (closed m L).no
  unfolding FirstBroken
  closed_broken = rw (or_nothing (closed m L)) at (closed_then [] fine (λ c. refl))
