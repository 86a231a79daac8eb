-- Small laws of tests, and of a test of all numbers below n.
-- Assumes nothing.
use mathlib.Core.Path.{◌≡◌, refl, sym, ap, ◌∙◌}
use mathlib.Core.Bool.{Bool, true, false, true≢false, ◌&&◌, ◌||◌}
use mathlib.Core.Logic.{⊎_elim}
use Prim.Native.Nat.{ℕ, zero, suc, ◌+◌, ◌<◌}
use native.Mathlib.Nat.{eq-or-lt_of_le, le_of_suc-le-suc}
use native.Mathlib.Numerals.{add-one}
use native.Mathlib.Omega.{arith}
use Rattle.order.specs.Tests.{every}

pub and_true : (a b : Bool) → a && b ≡ true → (a ≡ true) × (b ≡ true)
and_true true b e = (refl, e)
and_true false b e = absurd (true≢false (sym e))

pub or_none : (a b : Bool) → a || b ≡ false → (a ≡ false) × (b ≡ false)
or_none true b e = absurd (true≢false e)
or_none false b e = (refl, e)

pub and_off : (a : Bool) {b : Bool} → b ≡ false → a && b ≡ false
and_off true e = e
and_off false e = refl

module _ (t : ℕ → Bool) where
  pub every_next : (n : ℕ) → every t n ≡ true → t n ≡ true → every t (n + 1) ≡ true
  unfolding every
  every_next n e h = rw (add-one, e, h)

  pub every_each : (n : ℕ) → every t n ≡ true → (r : ℕ) → r < n → t r ≡ true
  unfolding every
  every_each zero e r h = absurd (omega arith)
  every_each (suc n) e r h =
      let p = and_true (every t n) (t n) e in
      ⊎_elim (λ q. ap t q ∙ p.1) (λ l. every_each n p.0 r l) (eq-or-lt_of_le (le_of_suc-le-suc h))

  pub every_all : (n : ℕ) → ((r : ℕ) → r < n → t r ≡ true) → every t n ≡ true
  unfolding every
  every_all zero a = refl
  every_all (suc n) a = rw (every_all n (λ r h. a r (omega arith)), a n (omega arith))

  pub every_stop : (n r : ℕ) → r < n → t r ≡ false → every t n ≡ false
  every_stop n r h e = go (every t n) refl
    where
      go : (b : Bool) → every t n ≡ b → every t n ≡ false
      go true q = absurd (true≢false (sym (every_each n q r h) ∙ e))
      go false q = q
