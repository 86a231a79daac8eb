-- The ascent test: its answers along a list and at a side, and its exactness: it answers 0 exactly if every list of the
-- listing strictly ascends.
-- Assumes nothing.
use mathlib.Core.Path.{◌≡◌, refl, sym, ap, ◌∙◌}
use mathlib.Core.Logic.{◌↔◌, ◌⊎◌, inl, inr}
use mathlib.Core.Bool.{Bool, true, false, not, ◌&&◌}
use mathlib.Core.List.{List, [], ◌∷◌}
use Prim.Native.Nat.{ℕ, ◌+◌, ◌*◌, ◌≤◌, ◌<◌}
use native.Mathlib.Numerals.{add-one}
use native.Mathlib.Omega.{arith}
use borrow.Author.Tests.{leb-true, le-leb, lt-leb, not-false}
use lib.Dec.{leb}
use lib.ListN.{length, get_or, drop, drop_of_length-le}
use lib.Seq.{drop-cons}
use Rattle.order.proofs.Lists.{ascending_once}
use Rattle.order.specs.Lists.{In, Ascending}
use Rattle.listing.specs.Answers.{fine, refusal}
use Rattle.listing.specs.Listing.{Listing, before, entries, side}
use Rattle.listing.specs.Refusals.{not_ascending}
use Rattle.listing.proofs.Answers.{or_no, no_or, on_no, on_off}
use Rattle.order.proofs.Tests.{and_true}
use Rattle.listing.proofs.InCell.{few_here}
use Rattle.listing.proofs.Places.{at_sides, side_at}
use Rattle.listing.proofs.Elements.{elements_exact}
use Rattle.valid_incidence.proofs.Turns.{all}
use Rattle.valid_diamond.specs.Dyadic.{Distinct}
use Rattle.valid.specs.Ascent.{climbs, side_ascent, element_ascent, ascent_test, AscendsAt, Ascends}

-- ---- a list, one place at a time

module _ (l : List ℕ) (k from : ℕ) where
  climbs_step : k < length l
      → climbs from (drop k l) ≡ leb from (get_or l k 0) && climbs (get_or l k 0 + 1) (drop (k + 1) l)
  unfolding climbs
  climbs_step h = rw (add-one k, drop-cons l k 0 h)

  climbs_end : length l ≤ k → climbs from (drop k l) ≡ true
  unfolding climbs
  climbs_end h = ap (climbs from) (drop_of_length-le l h)

-- the same as a loop over the list meets it, which keeps that the answer is that for what stands from place k on
module _ (W : Bool) (l : List ℕ) (k from : ℕ) (e : W ≡ climbs from (drop k l)) where
  module _ (h : k < length l) (x : ℕ) (z : x ≡ get_or l k 0) where
    pub climb_halt : x < from → false ≡ W
    climb_halt f = sym (e ∙ climbs_step l k from h ∙ rw (← z, lt-leb from x f))

    pub climb_next : from ≤ x → W ≡ climbs (x + 1) (drop (k + 1) l)
    climb_next f = e ∙ climbs_step l k from h ∙ rw (← z, le-leb from x f)

  pub climb_done : length l ≤ k → true ≡ W
  climb_done h = sym (e ∙ climbs_end l k from h)

pub ruleset climbing = (climb_halt, climb_next, climb_done)

-- ---- a list, as a whole

climbs_each : (from : ℕ) (l : List ℕ) → climbs from l ≡ true → ((y : ℕ) → In y l → from ≤ y) × Ascending l
unfolding climbs In Ascending
climbs_each from [] e = (λ y m. absurd m, tt)
climbs_each from (x ∷ l) e =
    let p = and_true (leb from x) (climbs (x + 1) l) e in
    let r = climbs_each (x + 1) l p.1 in
    (λ y m. go (leb-true from x p.0) r.0 y m, (λ y m. omega (arith, r.0 y m), r.1))
  where
    go : from ≤ x → ((y : ℕ) → In y l → x + 1 ≤ y) → (y : ℕ) → (y ≡ x) ⊎ In y l → from ≤ y
    go h a y (inl e) = omega arith
    go h a y (inr m) = omega (arith, a y m)

climbs_all : (from : ℕ) (l : List ℕ) → ((y : ℕ) → In y l → from ≤ y) → Ascending l → climbs from l ≡ true
unfolding climbs In Ascending
climbs_all from [] a h = refl
climbs_all from (x ∷ l) a h =
    rw (le-leb from x (a x (inl refl))) (climbs_all (x + 1) l (λ y m. omega (arith, h.0 y m)) h.1)

climbs_exact : (l : List ℕ) → climbs 0 l ≡ true ↔ Ascending l
climbs_exact l = (λ e. (climbs_each 0 l e).1, λ h. climbs_all 0 l (λ y m. omega arith) h)

-- ---- a listing

module _ (L : Listing) where
  pub side_exact : (r i s : ℕ) → (side_ascent L r i s).no ≡ 0 ↔ Ascending (side L s r i)
  side_exact r i s = (
    λ e. (climbs_exact (side L s r i)).0 (not-false _ (on_no _ (refusal not_ascending r i s 0) (λ z. omega arith) e)),
    λ h. on_off _ (refusal not_ascending r i s 0) (ap not ((climbs_exact (side L s r i)).1 h)),
  )

  -- the list at a side, read from where its rank begins
  module _ (here r i s : ℕ) {l : List ℕ} (e : here ≡ before L.counts r)
      (k : l ≡ entries L.ends L.inc (2 * (here + i) + s)) where
    pub side_climbs : true ≡ climbs 0 l → fine ≡ side_ascent L r i s
    side_climbs h = rw (← side_at L here r i s e, ← k, ← h)

    pub side_falls : false ≡ climbs 0 l → refusal not_ascending r i s 0 ≡ side_ascent L r i s
    side_falls h = rw (← side_at L here r i s e, ← k, ← h)

    pub ruleset sides = (side_climbs, side_falls)

  pub element_exact : (r i : ℕ) → (element_ascent L r i).no ≡ 0 ↔ AscendsAt L r i
  unfolding element_ascent
  element_exact r i = (
    λ e.
        let p = or_no _ _ e in
        at_sides (λ s. Ascending (side L s r i)) ((side_exact r i 0).0 p.0) ((side_exact r i 1).0 p.1),
    λ a. no_or _ _ ((side_exact r i 0).1 (a 0 (omega arith))) ((side_exact r i 1).1 (a 1 (omega arith))),
  )

  -- The ascent test answers 0 exactly if each list of each element strictly ascends.
  pub ascent_exact : (ascent_test L).no ≡ 0 ↔ Ascends L
  unfolding ascent_test Ascends
  ascent_exact = elements_exact L (element_ascent L) (AscendsAt L) (λ r i h. element_exact r i)

-- the laws by which a loop over ranks answers the first refusal, where it also keeps where its rank begins
pub ruleset ranks = (all, few_here)

-- In a listing whose lists ascend no list holds an index twice.
pub ascends_distinct : (L : Listing) → Ascends L → Distinct L
unfolding Ascends Distinct
ascends_distinct L a s r i x k h = ascending_once x (side L s r i) (a r i h s k)
