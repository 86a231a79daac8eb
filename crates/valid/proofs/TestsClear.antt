-- Each test that answers 0 answers nothing but 0s.
-- Assumes nothing.
use mathlib.Core.Bool.{not, ◌&&◌}
use Prim.Native.Nat.{ℕ, ◌-◌}
use native.Mathlib.Omega.{arith}
use lib.Dec.{eqb}
use lib.ListN.{length}
use Rattle.listing.specs.Answers.{refusal}
use Rattle.listing.specs.Listing.{Listing, Limits, rank, count}
use Rattle.listing.specs.Shape.{fills, shape_test}
use Rattle.listing.proofs.Clear.{Clear, clear_or, clear_plain, clear_on, clear_of}
use Rattle.valid_incidence.specs.Incidence.{incidences_test}
use Rattle.valid_diamond.specs.Dyadic.{dyadic_test}
use Rattle.valid.specs.Bounds.{bounded_test}
use Rattle.valid.specs.Tests.{bounded, check_incidences, is_dyadic, is_valid, closed}

module _ (m : Limits) (L : Listing) where
  pub shape_clear : Clear (shape_test m L)
  unfolding shape_test
  shape_clear =
      clear_or _ (clear_or _ (clear_or _ (clear_or _ (clear_or _
      (clear_plain (not (fills 0 L.ends (length L.inc))) 6)))))

  pub bounded_clear : Clear (bounded m L)
  unfolding bounded bounded_test
  bounded_clear =
      clear_or (shape_test m L) (clear_on (not (eqb (count L 0) 1 && eqb (count L (rank L)) 1))
      (refusal 10 (count L 0) (count L (rank L)) 0 0) (λ e. omega arith))

  pub incidences_clear : Clear (check_incidences m L)
  unfolding check_incidences incidences_test
  incidences_clear = clear_or (shape_test m L) (clear_of _ _ _)

  dyadic_clear : (h : ℕ) → Clear (dyadic_test L h)
  unfolding dyadic_test
  dyadic_clear h = clear_of _ _ _

  pub is_dyadic_clear : Clear (is_dyadic m L)
  unfolding is_dyadic
  is_dyadic_clear = clear_or _ (clear_or _ (dyadic_clear (rank L - 1)))

  pub is_valid_clear : Clear (is_valid m L)
  unfolding is_valid
  is_valid_clear = clear_or _ (clear_or _ (clear_or _ (dyadic_clear (rank L - 1))))

  pub closed_clear : Clear (closed m L)
  unfolding closed
  closed_clear = clear_or _ (clear_or _ (clear_or _ (clear_or _ (dyadic_clear (rank L)))))
