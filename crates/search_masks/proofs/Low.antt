-- A number above 0 is at least the power of two at its lowest set bit, and has a set bit.
-- Assumes nothing.
use mathlib.Core.Path.{◌≡◌, refl, sym, ap, ◌∙◌}
use mathlib.Core.Bool.{not}
use Prim.Native.Nat.{ℕ, zero, suc, ◌/◌, ◌%◌, ◌^◌, ◌≤◌, ◌<◌}
use native.Mathlib.Nat.{pow-suc}
use native.Mathlib.Omega.{arith}
use borrow.Author.Tests.{ne_eqb, lt-ltb}
use lib.Count.{count_trailing_zeros, under, ones, ones_step}
use lib.Dec.{eqb, ltb}
use Rattle.listing.specs.Listing.{width, limits}

pub low_fits : (k n : ℕ) → 0 < n → n < 2 ^ k → 2 ^ count_trailing_zeros k n ≤ n
unfolding count_trailing_zeros
low_fits zero n p h = absurd (omega arith)
low_fits (suc k) n p h = go (n % 2) refl (low_fits k (n / 2))
  where
    go : (d : ℕ) → n % 2 ≡ d → (0 < n / 2 → n / 2 < 2 ^ k → 2 ^ count_trailing_zeros k (n / 2) ≤ n / 2)
        → 2 ^ under d (count_trailing_zeros k (n / 2)) ≤ n
    go zero e ih =
        omega (arith, ih (omega arith) (omega (arith, pow-suc 2 k)), pow-suc 2 (count_trailing_zeros k (n / 2)))
    go (suc d) e ih = omega arith

-- ---- whether there is one

ones_some : (k n : ℕ) → 0 < n → n < 2 ^ k → 0 < ones n
ones_some zero n p h = absurd (omega arith)
ones_some (suc k) n p h = go (n % 2) refl (ones_some k (n / 2))
  where
    go : (d : ℕ) → n % 2 ≡ d → (0 < n / 2 → n / 2 < 2 ^ k → 0 < ones (n / 2)) → 0 < ones n
    go zero e ih = omega (arith, ones_step n, ih (omega arith) (omega (arith, pow-suc 2 k)))
    go (suc d) e ih = omega (arith, ones_step n)

pub any_ones : (n : ℕ) → n < width → not (eqb (ones n) 0) ≡ ltb 0 n
unfolding ones
any_ones zero h = refl
any_ones (suc n) h =
    ap not (ne_eqb (ones (suc n)) 0 (λ e. omega (arith, ones_some limits.ranks (suc n) (omega arith) h)))
    ∙ sym (lt-ltb 0 (suc n) (omega arith))
