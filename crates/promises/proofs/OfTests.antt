-- What is promised of the counts, the classes, the shape test and the five tests, of whatever their contracts admit.
--
-- The book counts elements, the Rust occurrences: where a list holds an index twice the two differ, and is_dyadic and
-- is_valid go with the Rust. Closed refuses such lists.
-- Assumes nothing.
use mathlib.Core.Path.{◌≡◌, refl, ap, ◌∙◌}
use mathlib.Core.Logic.{◌≢◌, ◌↔◌, inl, inr}
use mathlib.Core.List.{List, [], ◌∷◌}
use Prim.Native.Nat.{ℕ, ◌-◌, ◌≤◌}
use native.Mathlib.Omega.{arith}
use borrow.Author.Tests.{ne_eqb, le-leb, lt-leb}
use lib.ListN.{length, get_or}
use Rattle.listing.specs.Refusals.{band, band_no}
use Rattle.listing.specs.Listing.{Listing, limits, rank}
use Rattle.listing_shape.specs.Counts.{counted, facets, rank_of, el_count_of, vertex_count_of, facet_count_of}
use Rattle.listing.specs.Shape.{Shaped}
use Rattle.listing.proofs.Answers.{or_no, no_or}
use Rattle.listing_shape.proofs.Bands.{band_shape, band_structure, band_flags, band_products, band_over, band_none}
use Rattle.listing.proofs.ShapeExact.{shape_exact}
use Rattle.listing.proofs.ShapeBroken.{shape_alone}
use Rattle.listing_shape.proofs.Counts.{counted_broken}
use Rattle.listing.proofs.Clear.{clear_exact}
use Rattle.valid_incidence.specs.Incidence.{Incident}
use Rattle.valid_incidence.proofs.IncidenceExact.{incidences_exact}
use Rattle.valid_diamond.specs.Dyadic.{DiamondUpTo, Distinct}
use Rattle.valid_diamond.proofs.DyadicExact.{dyadic_exact, twice_diamond}
use Rattle.valid.specs.Bounds.{Bounded}
use Rattle.valid.specs.Tests as tests
use Rattle.valid.proofs.BoundsExact.{bounded_exact}
use Rattle.valid.proofs.ClosedExact.{valid_exact, closed_exact}
use Rattle.valid.proofs.TestsBroken.{bounded_broken, incident_broken, dyadic_broken, valid_broken, closed_broken}
use Rattle.valid.proofs.TestsClear.{shape_clear, bounded_clear, incidences_clear, is_dyadic_clear, is_valid_clear}
use Rattle.valid.proofs.TestsClear.{closed_clear}
use Rattle.promises.specs.Entries.{lent}
use Rattle.promises.specs.Named.{Named, of_shape}
use Rattle.promises.specs.OfTests.{ClassOf, TestsTaken, TestsRefuse, TestsNamed, TestsAnswer, TestsOnce}
use Rattle.promises.proofs.Alike.{alike, any}
use Rattle.promises.proofs.NamedTests.{shape_tells, bounded_named, incidences_named, dyadic_named, valid_named}
use Rattle.promises.proofs.NamedTests.{closed_named}
use Rattle.promises.proofs.NamedBetween.{between_named, between_tells, closed_tells}

pub tests_taken : TestsTaken
tests_taken = record { counts = (any, any, any, any, any, any); tests = (any, any, any, any, any, any) }

-- ---- which refusal comes when

class_of : (n : ℕ) → ClassOf n (band_no (band n))
unfolding band_no
class_of n = record {
  shape = λ l h. ap band_no (band_shape n l h);
  structure = λ l h. ap band_no (band_structure n l h);
  flags = λ l h. ap band_no (band_flags n l h);
  products = λ l h. ap band_no (band_products n l h);
  none = elim [ inl e ↦ ap band_no (band_none n (omega arith)) | inr h ↦ ap band_no (band_over n h) ];
}

pub tests_refuse : TestsRefuse
unfolding rank_of el_count_of vertex_count_of facet_count_of
tests_refuse = record {
  rank_refuses = λ k a r x p. rw p (counted_broken a.0.now _);
  el_count_refuses = λ k a r x p. rw p (counted_broken a.0.now _);
  vertex_count_refuses = λ k a r x p. rw p (counted_broken a.0.now _);
  facet_count_refuses = λ k a r x p. rw p (counted_broken a.0.now _);
  class_by_bands = λ k a r x p. rw p (class_of a.0);
  class_by_number = λ k a r x p. p;
  shape_refuses = λ k a r x p. rw (p.2 ∙ p.1.0) (shape_alone limits (lent a));
  bounded_refuses = λ k a r x p. rw p (bounded_broken limits (lent a));
  incidences_refuse = λ k a r x p. rw p (incident_broken limits (lent a));
  dyadic_refuses = λ k a r x p. rw p (dyadic_broken limits (lent a));
  valid_refuses = λ k a r x p. rw p (valid_broken limits (lent a));
  closed_refuses = λ k a r x p. rw p (closed_broken limits (lent a));
  accepted_fine = (
    λ k a r x p. rw (p.2 ∙ p.1.0) (clear_exact (shape_clear limits (lent a))),
    λ k a r x p. rw p (clear_exact (bounded_clear limits (lent a))),
    λ k a r x p. rw p (clear_exact (incidences_clear limits (lent a))),
    λ k a r x p. rw p (clear_exact (is_dyadic_clear limits (lent a))),
    λ k a r x p. rw p (clear_exact (is_valid_clear limits (lent a))),
    λ k a r x p. rw p (clear_exact (closed_clear limits (lent a))),
  );
}

pub tests_named : TestsNamed
tests_named = record {
  shape_names = λ k a r x p. rw (p.2 ∙ p.1.0)
      (shape_tells (Named 0 (lent a)) (λ n p q. of_shape n p q) limits (lent a));
  bounded_names = λ k a r x p. rw p (bounded_named limits (lent a));
  incidences_name = λ k a r x p. rw p (incidences_named limits (lent a));
  dyadic_names = λ k a r x p. rw p (dyadic_named limits (lent a));
  valid_names = λ k a r x p. rw p (valid_named limits (lent a));
  closed_names = λ k a r x p. rw p (closed_named limits (lent a));
  dyadic_between = λ k a r x p D. rw p
      (between_tells (λ s. between_named _ (lent a) D (dyadic_named limits (lent a) s)));
  valid_between = λ k a r x p D. rw p
      (between_tells (λ s. between_named _ (lent a) D (valid_named limits (lent a) s)));
  closed_between = λ k a r x p. rw p (between_tells (closed_tells limits (lent a)));
}

-- ---- what the counts answer

-- a count that is answered is the number asked for, and one that is refused is 0
counted_value : (counts : List ℕ) (n : ℕ) → ((counted counts n).no ≡ 0 → (counted counts n).value ≡ n)
    × ((counted counts n).no ≢ 0 → (counted counts n).value ≡ 0)
unfolding counted
counted_value [] n = (λ e. absurd (omega arith), λ h. refl)
counted_value (c ∷ counts) n =
    rw (ne_eqb (length (c ∷ counts)) 0 (λ e. omega arith)) (λ e. refl, λ h. absurd (h refl))

-- the facets are the elements of the rank below the top; where there are fewer than two ranks there are none
facets_counted : (counts : List ℕ)
    → ((facet_count_of counts).no ≡ 0 → 2 ≤ length counts
    → (facet_count_of counts).value ≡ get_or counts (length counts - 2) 0)
    × (length counts ≤ 1 → (facet_count_of counts).value ≡ 0)
unfolding facet_count_of facets counted
facets_counted counts = (
  λ e h. (counted_value counts (facets counts)).0 e ∙ rw (le-leb 2 (length counts) h),
  λ h. rw (lt-leb 2 (length counts) (omega arith)) (none counts),
)
  where
    none : (l : List ℕ) → (counted l 0).value ≡ 0
    none [] = refl
    none (c ∷ l) = rw (ne_eqb (length (c ∷ l)) 0 (λ e. omega arith))

-- ---- what the tests accept

bounded_is : (L : Listing) → (tests.bounded limits L).no ≡ 0 ↔ (Shaped limits L × Bounded L)
unfolding tests.bounded
bounded_is L = (
  λ e. let p = or_no _ _ e in ((shape_exact limits L).0 p.0, (bounded_exact L).0 p.1),
  λ h. no_or _ _ ((shape_exact limits L).1 h.0) ((bounded_exact L).1 h.1),
)

incident_is : (L : Listing) → (tests.check_incidences limits L).no ≡ 0 ↔ (Shaped limits L × Incident L)
unfolding tests.check_incidences
incident_is L = (
  λ e. let p = or_no _ _ e in ((shape_exact limits L).0 p.0, (incidences_exact L).0 p.1),
  λ h. no_or _ _ ((shape_exact limits L).1 h.0) ((incidences_exact L).1 h.1),
)

dyadic_is : (L : Listing) → Distinct L
    → (tests.is_dyadic limits L).no ≡ 0 ↔ (Shaped limits L × Incident L × DiamondUpTo L (rank L - 1))
unfolding tests.is_dyadic
dyadic_is L D = (
  λ e. let p = or_no _ _ e in let q = or_no _ _ p.1 in let I = (incidences_exact L).0 q.0 in
      ((shape_exact limits L).0 p.0, I, (dyadic_exact L I D (rank L - 1)).0 q.1),
  λ h. no_or _ _ ((shape_exact limits L).1 h.0) (no_or _ _ ((incidences_exact L).1 h.1)
      ((dyadic_exact L h.1 D (rank L - 1)).1 h.2)),
)

valid_is : (L : Listing) → Distinct L
    → (tests.is_valid limits L).no ≡ 0 ↔ (Shaped limits L × Bounded L × Incident L × DiamondUpTo L (rank L - 1))
valid_is L D = (
  λ e. let p = (valid_exact limits L).0 e in (p.0, p.1, p.2, (twice_diamond L p.2 D (rank L - 1)).0 p.3),
  λ h. (valid_exact limits L).1 (h.0, h.1, h.2, (twice_diamond L h.2 D (rank L - 1)).1 h.3),
)

pub tests_answer : TestsAnswer
unfolding rank_of el_count_of vertex_count_of facet_count_of
tests_answer = record {
  rank_counts = λ k a r x p. rw p (counted_value a.0.now _);
  el_count_counts = λ k a r x p. rw p (counted_value a.0.now _);
  vertex_count_counts = λ k a r x p. rw p (counted_value a.0.now _);
  facet_count_counts = λ k a r x p. rw p (facets_counted a.0.now).0;
  nullitope_has_no_facets = λ k a r x p. rw p (facets_counted a.0.now).1;
  bounded_by_the_book = λ k a r x p. rw p (bounded_is (lent a));
  incident_by_the_book = λ k a r x p. rw p (incident_is (lent a));
  dyadic_by_the_book = λ k a r x p D. rw p (dyadic_is (lent a) D);
  valid_by_the_book = λ k a r x p D. rw p (valid_is (lent a) D);
  closed_by_the_book = λ k a r x p. rw p (closed_exact limits (lent a));
}

pub tests_once : TestsOnce
tests_once = record {
  one_class = λ k a b c x y. alike;
  one_band_number = λ k a b c x y. alike;
  one_rank = λ k a b c x y. alike;
  one_el_count = λ k a b c x y. alike;
  one_vertex_count = λ k a b c x y. alike;
  one_facet_count = λ k a b c x y. alike;
  one_shape = λ k a b c x y p q. alike (p.2 ∙ p.1.0) (q.2 ∙ q.1.0);
  one_bounded = λ k a b c x y. alike;
  one_check_incidences = λ k a b c x y. alike;
  one_is_dyadic = λ k a b c x y. alike;
  one_is_valid = λ k a b c x y. alike;
  one_closed = λ k a b c x y. alike;
}
