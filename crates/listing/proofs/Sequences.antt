-- Small laws of lists and sums: a number over and over, and sums taken apart.
-- Assumes nothing.
use mathlib.Core.Path.{◌≡◌, refl, sym, ap}
use mathlib.Core.Logic.{◌≢◌, inl, inr}
use Prim.Native.Nat.{ℕ, zero, suc, ◌+◌, ◌*◌, ◌≤◌}
use native.Mathlib.Omega.{arith}
use borrow.Author.Tests.{eq-eqb, ne_eqb}
use lib.ListN.{replicate}
use Rattle.order.specs.Lists.{In, Ascending, occurs}
use Rattle.order.specs.Sums.{sum}

-- ---- a number over and over

pub in_replicate : (n a k : ℕ) → In k (replicate n a) → k ≡ a
unfolding In
in_replicate zero a k h = absurd h
in_replicate (suc n) a k (inl e) = e
in_replicate (suc n) a k (inr h) = in_replicate n a k h

pub replicate_ascending : (n a : ℕ) → n ≤ 1 → Ascending (replicate n a)
unfolding Ascending In
replicate_ascending zero a h = tt
replicate_ascending (suc zero) a h = (λ y m. absurd m, tt)
replicate_ascending (suc (suc n)) a h = absurd (omega arith)

pub occurs_same : (n a : ℕ) → occurs a (replicate n a) ≡ n
unfolding occurs
occurs_same zero a = refl
occurs_same (suc n) a = rw (eq-eqb a a refl) (ap suc (occurs_same n a))

pub occurs_other : (n a k : ℕ) → k ≢ a → occurs k (replicate n a) ≡ 0
unfolding occurs
occurs_other zero a k h = refl
occurs_other (suc n) a k h = rw (ne_eqb a k (λ e. h (sym e))) (occurs_other n a k h)

-- ---- sums taken apart

module _ (f : ℕ → ℕ) where
  pub sum_add : (a b : ℕ) → sum f (a + b) ≡ sum f a + sum (λ i. f (a + i)) b
  unfolding sum
  sum_add a zero =
      let e : a + 0 ≡ a = omega arith in
      rw e (omega arith)
  sum_add a (suc b) =
      let e : a + suc b ≡ suc (a + b) = omega arith in
      rw e (omega (arith, sum_add a b))

  -- part by part
  pub sum_parts : (size : ℕ → ℕ) (n : ℕ) → sum f (sum size n) ≡ sum (λ r. sum (λ i. f (sum size r + i)) (size r)) n
  unfolding sum
  sum_parts size zero = refl
  sum_parts size (suc n) = omega (arith, sum_add (sum size n) (size n), sum_parts size n)

  -- two at a time, the two at the sides 0 and 1
  pub sum_twos : (n : ℕ) → sum f (2 * n) ≡ sum (λ k. f (2 * k + 0) + f (2 * k + 1)) n
  unfolding sum
  sum_twos zero = refl
  sum_twos (suc n) =
      let e : 2 * suc n ≡ suc (suc (2 * n)) = omega arith in
      let z : 2 * n + 0 ≡ 2 * n = omega arith in
      let o : 2 * n + 1 ≡ suc (2 * n) = omega arith in
      rw (e, z, o) (omega (arith, sum_twos n))
