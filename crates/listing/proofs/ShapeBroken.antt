-- The shape test answers the number of the first rule that is broken; and so does what comes after it.
-- Assumes nothing.
use mathlib.Core.Path.{◌≡◌, refl, sym}
use mathlib.Core.Bool.{not}
use mathlib.Core.List.{List, [], ◌++◌}
use Prim.Native.Nat.{ℕ, zero, suc, ◌*◌, ◌<◌}
use native.Mathlib.Omega.{arith}
use borrow.Author.Tests.{eq-eqb, ne_eqb, eqb-true, eqb-false}
use lib.Dec.{eqb}
use lib.ListN.{length}
use Rattle.listing.specs.declared.Answer.{Answer}
use Rattle.listing.specs.Answers.{plain, fine, on, if_zero, ◌or_else◌}
use Rattle.listing.specs.Listing.{Listing, Limits}
use Rattle.listing.specs.Shape.{fills, elements, shape_test, Shaped}
use Rattle.listing.specs.Rules.{Rule, FirstBroken, Filled, shape_rules}
use Rattle.listing.proofs.ShapeExact.{fills_exact}
use Rattle.listing.proofs.Broken.{Tests, broken_step, broken_inner, tests_on, tests_not, tests_over}

-- nothing after a test
pub or_nothing : (x : Answer) → (x or_else fine).no ≡ x.no
unfolding ◌or_else◌
or_nothing x = go x.no refl
  where
    go : (n : ℕ) → x.no ≡ n → (if_zero n fine x).no ≡ x.no
    go zero e = sym e
    go (suc n) e = refl

module _ (m : Limits) (L : Listing) where
  ranks_tested : Tests 1 1 (0 < length L.counts) (on (eqb (length L.counts) 0) (plain 1))
  ranks_tested =
      tests_on (eqb (length L.counts) 0) 1 (omega arith) (λ e. some_rank (eqb-false _ _ e))
      (λ h. ne_eqb _ _ (λ (e : length L.counts ≡ 0). omega arith))
    where
      some_rank : (length L.counts ≡ 0 → ⊥) → 0 < length L.counts
      some_rank h = omega arith

  ends_tested : Tests 4 4 (length L.ends ≡ 2 * elements L)
      (on (not (eqb (length L.ends) (2 * elements L))) (plain 4))
  ends_tested = tests_not (eqb (length L.ends) (2 * elements L)) 4 (omega arith) (eqb-true _ _) (eq-eqb _ _)

  fill_tested : Tests 6 6 (Filled L) (on (not (fills 0 L.ends (length L.inc))) (plain 6))
  fill_tested =
      tests_not (fills 0 L.ends (length L.inc)) 6 (omega arith)
      (λ e. let p = (fills_exact L.ends (length L.inc)).0 e in record { rising = p.0; full = p.1 })
      (λ f. (fills_exact L.ends (length L.inc)).1 (f.rising, f.full))

  -- The shape tests, and others after them.
  pub shape_broken : (l : List Rule) (y : Answer) → (Shaped m L → FirstBroken l y.no)
      → FirstBroken (shape_rules m L ++ l) (shape_test m L or_else y).no
  unfolding shape_test
  shape_broken l y r =
      broken_inner _ ranks_tested _ y (λ h1.
      broken_inner _ (tests_over 2 (omega arith) m.ranks (length L.counts)) _ y (λ h2.
      broken_inner _ (tests_over 3 (omega arith) m.elements (elements L)) _ y (λ h3.
      broken_inner _ ends_tested _ y (λ h4.
      broken_inner _ (tests_over 5 (omega arith) m.incidences (length L.inc)) _ y (λ h5.
      broken_step l fill_tested y (λ f. r (record {
        some_rank = h1;
        few_ranks = h2;
        few_elements = h3;
        two_ends_each = h4;
        few_incidences = h5;
        rising = f.rising;
        full = f.full;
      })))))))

  pub shape_alone : FirstBroken (shape_rules m L) (shape_test m L).no
  unfolding FirstBroken
  shape_alone =
      rw (or_nothing (shape_test m L)) at (shape_broken [] fine (λ s. refl))
