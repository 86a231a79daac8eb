-- In a closed listing first sups, from the minimal element upward, make a flag.
-- Assumes nothing.
use mathlib.Core.Path.{◌≡◌, refl}
use mathlib.Core.Logic.{inl}
use mathlib.Core.List.{List, [], ◌∷◌}
use Prim.Native.Nat.{ℕ, zero, suc, ◌+◌, ◌≤◌, ◌<◌}
use native.Mathlib.Numerals.{add-one}
use native.Mathlib.Omega.{arith}
use lib.ListN.{length, get_or}
use Rattle.order.specs.Lists.{In}
use Rattle.listing.specs.Listing.{Listing, Limits, rank, count, subs, sups}
use Rattle.listing.proofs.Written.{tabulated_length, tabulated_at}
use Rattle.valid_incidence.specs.Incidence.{Incident}
use Rattle.valid.specs.Bounds.{Bounded}
use Rattle.valid.specs.Closed.{Closed}
use Rattle.flag_change.specs.Flags.{IsFlag}
use Rattle.body_theory.specs.First.{sup_at, sups_flag}

-- the first number of a list that has one
first_in : (x : ℕ) (l : List ℕ) → In x l → (0 < length l) × In (get_or l 0 0) l
unfolding In
first_in x [] h = absurd h
first_in x (y ∷ l) h = (omega arith, inl refl)

pub sup_zero : (L : Listing) → sup_at L 0 ≡ 0
unfolding sup_at
sup_zero L = refl

pub sup_next : (L : Listing) (r : ℕ) → sup_at L (r + 1) ≡ get_or (sups L r (sup_at L r)) 0 0
unfolding sup_at
sup_next L r = rw add-one

module _ (L : Listing) (b : Bounded L) (I : Incident L) where
  -- an element below the maximal one has a first sup
  sup_first : (r i : ℕ) → i < count L r → r < rank L
      → (0 < length (sups L r i)) × In (get_or (sups L r i) 0 0) (sups L r i)
  unfolding Incident
  sup_first r i h l = let t = (I r i h).upper.some l in first_in t.0 (sups L r i) t.1

  -- The index at each rank exists.
  pub sup_exists : (r : ℕ) → r ≤ rank L → sup_at L r < count L r
  unfolding sup_at Incident
  sup_exists zero h = omega (arith, b.one_minimal)
  sup_exists (suc r) h =
      let e = sup_exists r (omega arith) in
      let n : r + 1 ≡ suc r = omega arith in
      rw n at ((I r (sup_at L r) e).upper.each _ (sup_first r (sup_at L r) e h).1).0

  -- Below the maximal element there is a first sup.
  pub sup_there : (r : ℕ) → r < rank L → 0 < length (sups L r (sup_at L r))
  sup_there r h = (sup_first r (sup_at L r) (sup_exists r (omega arith)) h).0

  sup_under : (r : ℕ) → r < rank L → In (sup_at L r) (subs L (r + 1) (sup_at L (r + 1)))
  unfolding Incident
  sup_under r h =
      let e = sup_exists r (omega arith) in
      rw (sup_next L r) ((I r (sup_at L r) e).upper.each _ (sup_first r (sup_at L r) e h).1).1

-- The flag of first sups is a flag.
pub sups_flag_lem : {m : Limits} {L : Listing} → Closed m L → IsFlag L (sups_flag L)
sups_flag_lem {L = L} C = record {
  one_each = tabulated_length (sup_at L) (length L.counts);
  exists = λ r h. rw (at r (shorter h)) (sup_exists L C.bounded C.incident r (omega (arith, shorter h)));
  under = λ r h.
      let l = shorter h in
      rw (at r (omega arith), at (r + 1) l) (sup_under L C.bounded C.incident r (omega arith));
}
  where
    shorter : {k : ℕ} → k < length (sups_flag L) → k < length L.counts
    shorter h = omega (arith, tabulated_length (sup_at L) (length L.counts))

    at : (r : ℕ) → r < length L.counts → get_or (sups_flag L) r 0 ≡ sup_at L r
    at r h = tabulated_at (sup_at L) (length L.counts) r h
