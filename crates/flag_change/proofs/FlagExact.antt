-- The flag test: its answer at each rank, and its exactness: it is true exactly for the flags.
-- Assumes nothing.
use mathlib.Core.Path.{◌≡◌, refl, sym, ◌∙◌}
use mathlib.Core.Bool.{true, false}
use mathlib.Core.List.{List}
use mathlib.Core.Logic.{◌↔◌}
use Prim.Native.Nat.{ℕ, zero, suc, ◌+◌, ◌-◌, ◌≤◌, ◌<◌}
use native.Mathlib.Numerals.{add-one}
use native.Mathlib.Omega.{arith}
use borrow.Author.Tests.{eq-eqb, ne_eqb, lt-ltb, le-ltb, eqb-true, ltb-true}
use lib.ListN.{length, get_or}
use Rattle.order.specs.Lists.{has}
use Rattle.order.proofs.Lists.{has_yes}
use Rattle.order.specs.Tests.{every}
use Rattle.order.proofs.Tests.{and_true, every_next, every_each, every_all, every_stop}
use Rattle.listing.specs.Listing.{Listing, count, subs}
use Rattle.listing.proofs.InCell.{places}
use Rattle.listing.proofs.Listing.{before_zero, before_next}
use Rattle.flag_change.specs.Flags.{flag_at, flag_test, IsFlag}

-- ---- the test at one rank, and as a whole

module _ (L : Listing) (f : List ℕ) where
  pub missing_at : (r : ℕ) → count L r ≤ get_or f r 0 → flag_at L f r ≡ false
  unfolding flag_at
  missing_at r h = rw (le-ltb _ _ h)

  pub lowest_at : (r : ℕ) → get_or f r 0 < count L r → r ≡ 0 → flag_at L f r ≡ true
  unfolding flag_at
  lowest_at r h z = rw (lt-ltb _ _ h, eq-eqb r 0 z)

  pub higher_at : (r : ℕ) → get_or f r 0 < count L r → (r ≡ 0 → ⊥)
      → flag_at L f r ≡ has (subs L r (get_or f r 0)) (get_or f (r - 1) 0)
  unfolding flag_at
  higher_at r h z = rw (lt-ltb _ _ h, ne_eqb r 0 z)

  pub other_length : (length f ≡ length L.counts → ⊥) → flag_test L f ≡ false
  unfolding flag_test
  other_length h = rw (ne_eqb _ _ h)

  pub same_length : length f ≡ length L.counts → flag_test L f ≡ every (flag_at L f) (length L.counts)
  unfolding flag_test
  same_length h = rw (eq-eqb _ _ h)

  -- a rank at which it fails
  pub stops_at : length f ≡ length L.counts → (r : ℕ) → r < length L.counts → flag_at L f r ≡ false
      → flag_test L f ≡ false
  stops_at e r h z = same_length e ∙ every_stop (flag_at L f) (length L.counts) r h z

  -- ---- exactness

  exists_at : (r : ℕ) → flag_at L f r ≡ true → get_or f r 0 < count L r
  unfolding flag_at
  exists_at r e = ltb-true _ _ (and_true _ _ e).0

  -- one rank up: what stands at r is a sub of what stands at r + 1
  sub_at : (r : ℕ) → get_or f (r + 1) 0 < count L (r + 1)
      → flag_at L f (r + 1) ≡ has (subs L (r + 1) (get_or f (r + 1) 0)) (get_or f r 0)
  sub_at r h =
      let z : r + 1 - 1 ≡ r = omega arith in
      rw z at (higher_at (r + 1) h (λ e. omega arith))

  is_flag_by : flag_test L f ≡ true → IsFlag L f
  unfolding flag_test
  is_flag_by e = record {
    one_each = one;
    exists = there;
    under = λ r h. (has_yes _ _).0 (sym (sub_at r (there (r + 1) h)) ∙ at (r + 1) h);
  }
    where
      one : length f ≡ length L.counts
      one = eqb-true _ _ (and_true _ _ e).0

      at : (r : ℕ) → r < length f → flag_at L f r ≡ true
      at r h = every_each (flag_at L f) (length L.counts) (sym (same_length one) ∙ e) r (omega (arith, one))

      there : (r : ℕ) → r < length f → get_or f r 0 < count L r
      there r h = exists_at r (at r h)

  flag_by : IsFlag L f → flag_test L f ≡ true
  flag_by F = same_length F.one_each ∙ every_all (flag_at L f) (length L.counts) at
    where
      at : (r : ℕ) → r < length L.counts → flag_at L f r ≡ true
      at zero h = lowest_at zero (F.exists zero (omega (arith, F.one_each))) refl
      at (suc r) h =
          let there = F.exists (r + 1) (omega (arith, F.one_each)) in
          let up = sub_at r there ∙ (has_yes _ _).1 (F.under r (omega (arith, F.one_each))) in
          rw add-one at up

  -- The flag test is true exactly for the flags of the listing.
  pub flag_exact : flag_test L f ≡ true ↔ IsFlag L f
  flag_exact = (is_flag_by, flag_by)

-- what the test answers at one rank
pub ruleset flag_answers = (missing_at, lowest_at, higher_at)

-- what it answers on the way along the ranks
pub ruleset flag_walk = (other_length, same_length, stops_at, every_next, before_zero, before_next, places)
