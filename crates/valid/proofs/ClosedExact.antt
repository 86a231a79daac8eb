-- The composite tests: what is_valid accepts, what closed accepts, and what closed asks beyond is_valid.
-- Assumes nothing.
use mathlib.Core.Path.{◌≡◌}
use mathlib.Core.Logic.{◌↔◌, ◌⊎◌, inl, inr}
use Prim.Native.Nat.{ℕ, ◌-◌, ◌<◌}
use native.Mathlib.Nat.{eq-or-lt_of_le}
use native.Mathlib.Omega.{arith}
use Rattle.listing.specs.Listing.{Listing, Limits, rank}
use Rattle.listing.specs.Shape.{Shaped}
use Rattle.listing.proofs.Answers.{or_no, no_or}
use Rattle.listing.proofs.ShapeExact.{shape_exact}
use Rattle.valid_incidence.specs.Incidence.{Incident}
use Rattle.valid_incidence.proofs.IncidenceExact.{incidences_exact}
use Rattle.valid_diamond.specs.Dyadic.{DiamondAt, DiamondUpTo, MetTwice}
use Rattle.valid_diamond.proofs.DyadicExact.{dyadic_counts, twice_diamond, dyadic_exact}
use Rattle.valid.specs.Bounds.{Bounded}
use Rattle.valid.specs.Ascent.{Ascends}
use Rattle.valid.specs.Tests.{is_valid, closed}
use Rattle.valid.specs.Closed.{Closed}
use Rattle.valid.proofs.BoundsExact.{bounded_exact}
use Rattle.valid.proofs.AscentExact.{ascent_exact, ascends_distinct}

module _ (m : Limits) (L : Listing) where
  -- is_valid answers 0 exactly if the listing is shaped, bounded and incident, and below the top each index that a walk
  -- meets is met twice.
  pub valid_exact : (is_valid m L).no ≡ 0 ↔ (Shaped m L × Bounded L × Incident L × MetTwice L (rank L - 1))
  unfolding is_valid
  valid_exact = (there, back)
    where
      there : (is_valid m L).no ≡ 0 → Shaped m L × Bounded L × Incident L × MetTwice L (rank L - 1)
      there e =
          let s = or_no _ _ e in
          let b = or_no _ _ s.1 in
          let i = or_no _ _ b.1 in
          let I = (incidences_exact L).0 i.0 in
          ((shape_exact m L).0 s.0, (bounded_exact L).0 b.0, I, (dyadic_counts L I (rank L - 1)).0 i.1)

      back : Shaped m L × Bounded L × Incident L × MetTwice L (rank L - 1) → (is_valid m L).no ≡ 0
      back p =
          no_or _ _ ((shape_exact m L).1 p.0)
          (no_or _ _ ((bounded_exact L).1 p.1)
          (no_or _ _ ((incidences_exact L).1 p.2) ((dyadic_counts L p.2 (rank L - 1)).1 p.3)))

  tested_closed : (closed m L).no ≡ 0 → Closed m L
  unfolding closed
  tested_closed e =
      let s = or_no _ _ e in
      let b = or_no _ _ s.1 in
      let i = or_no _ _ b.1 in
      let t = or_no _ _ i.1 in
      let I = (incidences_exact L).0 i.0 in
      let A = (ascent_exact L).0 t.0 in
      record {
        shaped = (shape_exact m L).0 s.0;
        bounded = (bounded_exact L).0 b.0;
        incident = I;
        ascends = A;
        diamond = (dyadic_exact L I (ascends_distinct L A) (rank L)).0 t.1;
      }

  closed_tested : Closed m L → (closed m L).no ≡ 0
  unfolding closed
  closed_tested c =
      no_or _ _ ((shape_exact m L).1 c.shaped)
      (no_or _ _ ((bounded_exact L).1 c.bounded)
      (no_or _ _ ((incidences_exact L).1 c.incident)
      (no_or _ _ ((ascent_exact L).1 c.ascends)
      ((dyadic_exact L c.incident (ascends_distinct L c.ascends) (rank L)).1 c.diamond))))

  -- The closed test answers 0 exactly if the listing is closed.
  pub closed_exact : (closed m L).no ≡ 0 ↔ Closed m L
  closed_exact = (tested_closed, closed_tested)

-- one rank more; at the ranks 0 and 1 the diamond asks nothing, since nothing lies two ranks lower
diamond_more : (L : Listing) (h : ℕ) → Incident L → DiamondUpTo L h ↔ (DiamondUpTo L (h - 1) × DiamondAt L h)
unfolding DiamondUpTo DiamondAt Incident
diamond_more L h I = (there, back)
  where
    there : DiamondUpTo L h → DiamondUpTo L (h - 1) × DiamondAt L h
    there d = (
      λ r low high. d r low (omega arith),
      λ i x s k b.
          let p = (I h i k).lower.each s b.0 in
          let q = (I (h - 1) s p.1).lower.each x b.1 in
          d h (omega arith) (omega arith) i x s k b,
    )

    back : DiamondUpTo L (h - 1) × DiamondAt L h → DiamondUpTo L h
    back p r low high = go (eq-or-lt_of_le high)
      where
        go : (r ≡ h) ⊎ (r < h) → DiamondAt L r
        go (inl e) = rw e p.1
        go (inr l) = p.0 r low (omega arith)

-- What closed asks beyond is_valid: that the lists ascend, and the diamond at the top. This holds at every rank, with
-- no `2 ≤ rank L`: where is_valid accepts a listing of rank 0 or 1, nothing lies two ranks under its maximal element.
pub closed_is_valid_and : (m : Limits) (L : Listing)
    → (closed m L).no ≡ 0 ↔ (((is_valid m L).no ≡ 0) × Ascends L × DiamondAt L (rank L))
closed_is_valid_and m L = (there, back)
  where
    there : (closed m L).no ≡ 0 → ((is_valid m L).no ≡ 0) × Ascends L × DiamondAt L (rank L)
    there e =
        let c = (closed_exact m L).0 e in
        let d = (diamond_more L (rank L) c.incident).0 c.diamond in
        let t = (twice_diamond L c.incident (ascends_distinct L c.ascends) (rank L - 1)).1 d.0 in
        ((valid_exact m L).1 (c.shaped, c.bounded, c.incident, t), c.ascends, d.1)

    back : ((is_valid m L).no ≡ 0) × Ascends L × DiamondAt L (rank L) → (closed m L).no ≡ 0
    back p =
        let v = (valid_exact m L).0 p.0 in
        let d = (twice_diamond L v.2 (ascends_distinct L p.1) (rank L - 1)).0 v.3 in
        (closed_exact m L).1 (record {
          shaped = v.0;
          bounded = v.1;
          incident = v.2;
          ascends = p.1;
          diamond = (diamond_more L (rank L) v.2).1 (d, p.2);
        })
