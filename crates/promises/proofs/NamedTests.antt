-- A refusal of a test is true of what its fields name, and names the first thing that is wrong: shape, bounds, ascent
-- and the diamond, then the five tests as a whole.
-- Assumes nothing.
use mathlib.Core.Path.{◌≡◌, refl, sym, ◌∙◌}
use mathlib.Core.Logic.{inl}
use mathlib.Core.Bool.{Bool, not, ◌&&◌}
use mathlib.Core.List.{List, [], ◌∷◌}
use Prim.Native.Nat.{ℕ, zero, suc, ◌+◌, ◌-◌, ◌*◌, ◌≤◌, ◌<◌}
use native.Mathlib.Omega.{arith}
use borrow.Author.Tests.{eqb-true, eqb-false}
use lib.Dec.{ltb, eqb}
use lib.ListN.{length}
use Rattle.order.specs.Lists.{In, Ascending, occurs}
use Rattle.order.proofs.Lists.{in_right, occurs_nil}
use Rattle.listing.specs.declared.Answer.{Answer}
use Rattle.listing.specs.Answers.{plain, on, ◌or_else◌}
use Rattle.listing.specs.Listing.{Listing, Limits, rank, count, side}
use Rattle.listing.specs.Shape.{elements, fills, shape_test}
use Rattle.listing.proofs.Answers.{on_no}
use Rattle.valid_incidence.specs.Incidence.{incidences_test, Incident}
use Rattle.valid_incidence.proofs.IncidenceExact.{incidences_exact}
use Rattle.valid_diamond.specs.Dyadic.{walk, seen_after, lone_test, third, lone, sections_test, dyadic_test, MetTwiceAt}
use Rattle.valid_diamond.proofs.Counting.{third_each, all_seen, sections_exact}
use Rattle.valid_diamond.proofs.DyadicExact.{there}
use Rattle.valid.specs.Bounds.{bounded_test}
use Rattle.valid.specs.Ascent.{climbs, side_ascent, element_ascent, ascent_test, AscendsAt}
use Rattle.valid.specs.Tests as tests
use Rattle.valid.proofs.BoundsExact.{bounded_exact}
use Rattle.valid.proofs.AscentExact.{side_exact, element_exact}
use Rattle.promises.specs.Named.{FirstAt, FirstThird, Named, of_shape, named_not_bounded}
use Rattle.promises.specs.Named.{named_third_between, named_lone_between, named_not_ascending}
use Rattle.promises.proofs.Firsts.{Tells, tells_or, tells_on, tells_of, tells_third, tells_elements}
use Rattle.promises.proofs.NamedIncidences.{incidences_tells}

-- ---- shape

module _ (Q : Answer → Type 0) (g : (n : ℕ) → 1 ≤ n → n ≤ 6 → Q (plain n)) where
  -- a test of the row, and what comes after it
  shape_or : (t : Bool) (n : ℕ) (y : Answer) → 1 ≤ n → n ≤ 6 → Tells Q y → Tells Q (on t (plain n) or_else y)
  shape_or t n y p q r = tells_or Q (on t (plain n)) y (tells_on Q t (plain n) (λ e. g n p q)) (λ _. r)

  -- what holds of each plain refusal holds of the shape test's
  pub shape_tells : (m : Limits) (L : Listing) → Tells Q (shape_test m L)
  unfolding shape_test
  shape_tells m L =
      shape_or (eqb (length L.counts) 0) 1 _ (omega arith) (omega arith)
      (shape_or (ltb m.ranks (length L.counts)) 2 _ (omega arith) (omega arith)
      (shape_or (ltb m.elements (elements L)) 3 _ (omega arith) (omega arith)
      (shape_or (not (eqb (length L.ends) (2 * elements L))) 4 _ (omega arith) (omega arith)
      (shape_or (ltb m.incidences (length L.inc)) 5 _ (omega arith) (omega arith)
      (tells_on Q (not (fills 0 L.ends (length L.inc))) (plain 6) (λ e. g 6 (omega arith) (omega arith)))))))

third_in : {x : ℕ} {l : List ℕ} → FirstThird x l → In x l
unfolding In
third_in {x} t = rw t.stands (in_right x t.done (x ∷ t.rest) (inl refl))

module _ (h : ℕ) (L : Listing) where
  abbrev N : Answer → Type 0
  N = Named h L

  abbrev Tell : Answer → Type 0
  Tell = Tells N

  -- ---- test 1

  bounded_tells : Tell (bounded_test L)
  unfolding bounded_test
  bounded_tells s =
      tells_on N (not (eqb (count L 0) 1 && eqb (count L (rank L)) 1)) _
      (λ e. named_not_bounded (λ B. s ((bounded_exact L).1 B))) s

  -- ---- ascent

  side_tells : (r i s : ℕ) → s < 2 → FirstAt L 0 (AscendsAt L) r i → ((t : ℕ) → t < s → Ascending (side L t r i))
      → Tell (side_ascent L r i s)
  side_tells r i s l F low z =
      tells_on N (not (climbs 0 (side L s r i))) _
      (λ e. named_not_ascending r i s F l low (λ a. z ((side_exact L r i s).1 a))) z

  ascent_tells : Tell (ascent_test L)
  unfolding ascent_test element_ascent
  ascent_tells =
      tells_elements N L (element_ascent L) 0 (length L.counts) (λ r i _ _ k early.
      let F : FirstAt L 0 (AscendsAt L) r i = record {
        exists = k;
        from = omega arith;
        earlier = λ q j l m e. (element_exact L q j).0 (early q j l m e);
      } in
      tells_or N (side_ascent L r i 0) (side_ascent L r i 1)
      (side_tells r i 0 (omega arith) F (λ t l. absurd (omega arith)))
      (λ z. side_tells r i 1 (omega arith) F (subs_climb r i z)))
    where
      subs_climb : (r i : ℕ) → (side_ascent L r i 0).no ≡ 0 → (t : ℕ) → t < 1 → Ascending (side L t r i)
      subs_climb r i z zero l = (side_exact L r i 0).0 z
      subs_climb r i z (suc t) l = absurd (omega arith)

  -- ---- test 3, where test 2 passes

  section_tells : Incident L → (r i : ℕ) → FirstAt L 2 (MetTwiceAt L) r i → r ≤ h → Tell (sections_test L r i)
  unfolding sections_test lone_test
  section_tells I r i F hr =
      tells_or N _ _
      (tells_third N (third r i) (λ x e. omega arith) (walk L r i) (λ x t. named_third_between r i x I F hr
      (there L I r i x F.exists (third_in t)) t))
      (λ z. tells_of N (λ x. on (eqb (occurs x seen) 1) (lone r i x)) 0 (count L (r - 2)) (λ x _ l early.
      tells_on N (eqb (occurs x seen) 1) (lone r i x) (λ e. named_lone_between r i x I F hr l
      (λ y. omega (
        arith,
        third_each (third r i) (λ x e. omega arith) [] (walk L r i) z y
            (omega (arith, occurs_nil y)),
        occurs_nil y,
      ))
      (sym (all_seen x (walk L r i)) ∙ eqb-true _ _ e)
      (λ y m q. eqb-false (occurs y seen) 1
      (on_no (eqb (occurs y seen) 1) (lone r i y) (λ e. omega arith) (early y (omega arith) m))
      (all_seen y (walk L r i) ∙ q)))))
    where
      seen : List ℕ
      seen = seen_after [] (walk L r i)

  dyadic_tells : Incident L → Tell (dyadic_test L h)
  unfolding dyadic_test
  dyadic_tells I =
      tells_elements N L (sections_test L) 2 (h + 1) (λ r i l m k early. section_tells I r i (record {
        exists = k;
        from = l;
        earlier = λ q j a b e. (sections_exact L q j (λ y. there L I q j y b)).0 (early q j a b e);
      }) (omega arith))

-- ---- the five tests

module _ (m : Limits) (L : Listing) (h : ℕ) where
  after_shape : (y : Answer) → Tells (Named h L) y → Tells (Named h L) (shape_test m L or_else y)
  after_shape y t =
      tells_or (Named h L) (shape_test m L) y (shape_tells (Named h L) (λ n p q. of_shape n p q) m L) (λ _. t)

  after_bounded : (y : Answer) → Tells (Named h L) y → Tells (Named h L) (bounded_test L or_else y)
  after_bounded y t = tells_or (Named h L) (bounded_test L) y (bounded_tells h L) (λ _. t)

  after_incidences : (y : Answer) → (Incident L → Tells (Named h L) y) → Tells (Named h L) (incidences_test L or_else y)
  after_incidences y t =
      tells_or (Named h L) (incidences_test L) y (incidences_tells h L) (λ z. t ((incidences_exact L).0 z))

module _ (m : Limits) (L : Listing) where
  pub bounded_named : Tells (Named 0 L) (tests.bounded m L)
  unfolding tests.bounded
  bounded_named = after_shape m L 0 _ (bounded_tells 0 L)

  pub incidences_named : Tells (Named 0 L) (tests.check_incidences m L)
  unfolding tests.check_incidences
  incidences_named = after_shape m L 0 _ (incidences_tells 0 L)

  pub dyadic_named : Tells (Named (rank L - 1) L) (tests.is_dyadic m L)
  unfolding tests.is_dyadic
  dyadic_named =
      let h = rank L - 1 in
      after_shape m L h _ (after_incidences m L h _ (dyadic_tells h L))

  pub valid_named : Tells (Named (rank L - 1) L) (tests.is_valid m L)
  unfolding tests.is_valid
  valid_named =
      let h = rank L - 1 in
      after_shape m L h _ (after_bounded m L h _ (after_incidences m L h _ (dyadic_tells h L)))

  pub closed_named : Tells (Named (rank L) L) (tests.closed m L)
  unfolding tests.closed
  closed_named =
      let h = rank L in
      after_shape m L h _ (after_bounded m L h _ (after_incidences m L h _ (λ I.
      tells_or (Named h L) (ascent_test L) _ (ascent_tells h L) (λ _. dyadic_tells h L I))))
