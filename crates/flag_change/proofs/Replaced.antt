-- What a change replaces; lists that differ at one place, and flags with another number at one rank.
-- Assumes nothing.
use mathlib.Core.Path.{◌≡◌, refl, sym, ap, ◌∙◌}
use mathlib.Core.List.{List, [], ◌∷◌}
use mathlib.Core.Logic.{◌≢◌}
use Prim.Native.Nat.{ℕ, zero, suc, ◌+◌, ◌-◌, ◌<◌}
use native.Mathlib.Nat.{not-suc-le-zero, le_of_suc-le-suc}
use native.Mathlib.Decide.{ℕ_discrete}
use native.Mathlib.Omega.{arith}
use lib.ListN.{length, get_or, set, length-set}
use lib.Seq.{get_or-set_same, get_or-set_other}
use Rattle.order.specs.Lists.{In}
use Rattle.order.specs.Steps.{ChangedAt, here, there}
use Rattle.listing.specs.Listing.{Listing, count, rank, subs}
use Rattle.flag_change.specs.Flags.{IsFlag}
use Rattle.flag_change.specs.Change.{between, replaced_at, change_at, Flanked}

-- ---- what is taken out stands in the flag, and what is put in stands in the changed flag

module _ (L : Listing) (f : List ℕ) (r : ℕ) where
  pub taken_is : (replaced_at L r f).taken ≡ get_or f r 0
  unfolding replaced_at
  taken_is = refl

  pub put_is : r < length f → (replaced_at L r f).put ≡ get_or (change_at L r f) r 0
  unfolding change_at
  put_is h = sym (get_or-set_same f r _ 0 h)

-- ---- lists that differ at one place are one list with another number there

pub changed_set : (f : List ℕ) (r x : ℕ) → r < length f → get_or f r 0 ≢ x → ChangedAt r f (set f r x)
changed_set [] r x h d = absurd (not-suc-le-zero h)
changed_set (y ∷ f) zero x h d = here d
changed_set (y ∷ f) (suc r) x h d = there (changed_set f r x (le_of_suc-le-suc h) d)

pub changed_is : {r : ℕ} {f g : List ℕ} → ChangedAt r f g → g ≡ set f r (get_or g r 0)
changed_is (here d) = refl
changed_is (there {x = x} c) = ap {B = List ℕ} (λ l. x ∷ l) (changed_is c)

pub changed_apart : {r : ℕ} {f g : List ℕ} → ChangedAt r f g → get_or g r 0 ≢ get_or f r 0
changed_apart (here d) = λ e. d (sym e)
changed_apart (there c) = changed_apart c

-- ---- another number at rank r of a flag

module _ (L : Listing) (f : List ℕ) (r : ℕ) (p : 0 < r) (q : r < rank L) where
  pub between_set : (x : ℕ) → between L r (set f r x) ≡ between L r f
  unfolding between
  between_set x =
      rw (get_or-set_other f r (r - 1) x 0 (λ e. omega arith), get_or-set_other f r (r + 1) x 0 (λ e. omega arith))

  module _ (F : IsFlag L f) where
    pub flag_flanked : Flanked L f r
    flag_flanked = record {
      over_lowest = p;
      under_highest = omega (arith, F.one_each);
      lower = F.exists (r - 1) (omega (arith, F.one_each));
      upper = F.exists (r + 1) (omega (arith, F.one_each));
    }

    pub set_flag : (x : ℕ) → x < count L r → In (get_or f (r - 1) 0) (subs L r x)
        → In x (subs L (r + 1) (get_or f (r + 1) 0)) → IsFlag L (set f r x)
    set_flag x e u o = record {
      one_each = length-set f r x ∙ F.one_each;
      exists = λ k h. there k (rw length-set at h) (ℕ_discrete k r);
      under = λ k h. below k (rw length-set at h) (ℕ_discrete k r) (ℕ_discrete (k + 1) r);
    }
      where
        n : r < length f
        n = omega (arith, F.one_each)

        there : (k : ℕ) → k < length f → Dec (k ≡ r) → get_or (set f r x) k 0 < count L k
        there k h (yes z) = rw (z, get_or-set_same f r x 0 n) e
        there k h (no z) = rw (get_or-set_other f r k x 0 z) (F.exists k h)

        below : (k : ℕ) → k + 1 < length f → Dec (k ≡ r) → Dec (k + 1 ≡ r)
            → In (get_or (set f r x) k 0) (subs L (k + 1) (get_or (set f r x) (k + 1) 0))
        below k h (yes z) d =
            rw (z, get_or-set_same f r x 0 n, get_or-set_other f r (r + 1) x 0 (λ w. omega arith)) o
        below k h (no z) (yes w) =
            let v : k ≡ r - 1 = omega arith in
            rw (w, v, get_or-set_same f r x 0 n, get_or-set_other f r (r - 1) x 0 (λ y. omega arith)) u
        below k h (no z) (no w) = rw (get_or-set_other f r k x 0 z, get_or-set_other f r (k + 1) x 0 w) (F.under k h)
