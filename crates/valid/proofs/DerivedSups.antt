-- In a closed listing the sups are those that follow from the subs; so the listing is what its layers are written as.
-- Assumes nothing.
use mathlib.Core.Path.{◌≡◌, refl, sym, ◌∙◌}
use mathlib.Core.List.{List}
use Prim.Native.Nat.{ℕ, suc, ◌+◌, ◌-◌, ◌<◌}
use native.Mathlib.Omega.{arith}
use Rattle.order.specs.Lists.{In, Ascending}
use Rattle.order.proofs.Lists.{ascending_once, ascending_same}
use Rattle.listing.specs.Listing.{Listing, Limits, count, subs, sups}
use Rattle.listing.specs.Layers.{layers, derived}
use Rattle.listing.specs.Written.{written}
use Rattle.listing.proofs.Layers.{derived_in, derived_ascending}
use Rattle.listing.proofs.Written.{written_same}
use Rattle.listing.proofs.Own.{written_own}
use Rattle.valid_incidence.specs.Incidence.{Incident}
use Rattle.valid.specs.Ascent.{Ascends}
use Rattle.valid.specs.Closed.{Closed}
use Rattle.valid.specs.Derived.{Derived}

-- the numbers that lead from an element to those above it, and back
module _ (L : Listing) (I : Incident L) (r i : ℕ) (h : i < count L r) where
  sup_derived : (b : ℕ) → In b (sups L r i) → In b (derived (layers L) r i)
  unfolding Incident
  sup_derived b k =
      let e : r + 1 ≡ suc r = omega arith in
      (derived_in (layers L) r i b).1 (rw e at ((I r i h).upper.each b k))

  derived_sup : (b : ℕ) → In b (derived (layers L) r i) → In b (sups L r i)
  unfolding Incident
  derived_sup b k =
      let p = (derived_in (layers L) r i b).0 k in
      let e : suc r - 1 ≡ r = omega arith in
      rw e at ((I (suc r) b p.0).lower.each i p.1).2

module _ {m : Limits} (L : Listing) (C : Closed m L) where
  derived_ascends : (r i : ℕ) → Ascending (derived (layers L) r i)
  unfolding Ascends
  derived_ascends r i =
      derived_ascending (layers L) r i
      (λ b l. ascending_once i (subs L (suc r) b) (C.ascends (suc r) b l 0 (omega arith)))

  pub closed_derived : Derived L
  unfolding Ascends Derived
  closed_derived r i h =
      ascending_same _ _ (sup_derived L C.incident r i h) (derived_sup L C.incident r i h)
      (C.ascends r i h 1 (omega arith)) (derived_ascends r i)

  pub closed_written : written (layers L) (derived (layers L)) ≡ L
  unfolding Derived
  closed_written =
      let own : ℕ → ℕ → List ℕ = λ r i. sups L r i in
      written_same (layers L) (layers L) (derived (layers L)) own refl (λ r. refl) (λ r i h. refl)
      (λ r i h. sym (closed_derived r i h))
      ∙ written_own L C.shaped
