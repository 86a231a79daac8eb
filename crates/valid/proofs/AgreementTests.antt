-- A listing whose subs tell all is incident, and its lists ascend: so tests 2 and 19 pass it.
-- Assumes nothing.
use mathlib.Core.Path.{◌≡◌, refl, sym}
use mathlib.Core.Logic.{inl}
use mathlib.Core.List.{List, [], ◌∷◌}
use Prim.Native.Nat.{ℕ, zero, suc, ◌-◌, ◌<◌}
use native.Mathlib.Numerals.{add-one}
use native.Mathlib.Omega.{arith}
use lib.ListN.{length}
use Rattle.order.specs.Lists.{In, Ascending}
use Rattle.order.proofs.Lists.{ascending_once}
use Rattle.listing.specs.Answers.{fine, ◌or_else◌}
use Rattle.listing.specs.Listing.{Listing, count, side, subs, sups}
use Rattle.listing.specs.Layers.{layers}
use Rattle.listing.proofs.Answers.{no_or}
use Rattle.listing.proofs.Clear.{clear_exact, clear_or, clear_of}
use Rattle.listing.proofs.Layers.{derived_in, derived_ascending}
use Rattle.listing.proofs.Places.{at_sides}
use Rattle.valid_incidence.specs.Incidence.{LowerAt, UpperAt, Incident, incidences_test}
use Rattle.valid_incidence.proofs.IncidenceExact.{incidences_exact}
use Rattle.valid.specs.Ascent.{Ascends, ascent_test}
use Rattle.valid.specs.Agreement.{Agrees}
use Rattle.valid.proofs.AscentExact.{ascent_exact}

-- a list that is not empty has a first number
first_in : (l : List ℕ) → 0 < length l → (x : ℕ) × In x l
unfolding In
first_in [] h = absurd (omega arith)
first_in (x ∷ l) h = (x, inl refl)

module _ {L : Listing} (a : Agrees L) where
  -- ---- incidences

  agrees_lower : (r i : ℕ) → i < count L r → LowerAt L r i
  unfolding In
  agrees_lower zero i h = record {
    some = λ p. absurd (omega arith);
    each = λ x m. absurd (rw (a.lowest i h) at m);
  }
  agrees_lower (suc r) i h =
      let e : suc r - 1 ≡ r = omega arith in
      record {
        some = λ p. first_in (subs L (suc r) i) (a.some_subs r i h);
        each = λ x m.
            let k = a.there r i x h m in
            (omega arith, rw e k, rw e (rw (a.derived_sups r x k) ((derived_in (layers L) r x i).1 (h, m))));
      }

  agrees_upper : (r i : ℕ) → i < count L r → UpperAt L r i
  agrees_upper r i h = record {
    some = λ p. first_in (sups L r i) (a.some_sups r i p h);
    each = λ x m.
        let t = (derived_in (layers L) r i x).0 (rw (a.derived_sups r i h) at m) in
        (rw add-one t.0, rw add-one t.1);
  }

  pub agrees_incident : Incident L
  unfolding Incident
  agrees_incident r i h = record { lower = agrees_lower r i h; upper = agrees_upper r i h }

  -- ---- ascent

  subs_ascend : (r i : ℕ) → i < count L r → Ascending (subs L r i)
  unfolding Ascending
  subs_ascend zero i h = rw (a.lowest i h) tt
  subs_ascend (suc r) i h = a.ascending r i h

  sups_ascend : (r i : ℕ) → i < count L r → Ascending (sups L r i)
  sups_ascend r i h =
      rw (a.derived_sups r i h)
      (derived_ascending (layers L) r i (λ b l. ascending_once i (subs L (suc r) b) (a.ascending r b l)))

  pub agrees_ascends : Ascends L
  unfolding Ascends
  agrees_ascends r i h = at_sides (λ s. Ascending (side L s r i)) (subs_ascend r i h) (sups_ascend r i h)

  -- ---- both tests

  pub agrees_matched : (incidences_test L).no ≡ 0
  agrees_matched = (incidences_exact L).1 agrees_incident

  pub agrees_fine : fine ≡ incidences_test L or_else ascent_test L
  unfolding ascent_test
  agrees_fine =
      sym ((clear_exact (clear_or (incidences_test L) (clear_of _ _ _))).0
      (no_or _ _ agrees_matched ((ascent_exact L).1 agrees_ascends)))

  pub ruleset agreeing = (agrees_matched, agrees_fine)
