-- How large sums, differences and products of integers can be.
-- Assumes nothing.
use Rattle.std.proofs.Common.{ℕ, ◌+◌, ◌*◌, ◌≤◌, ℤ, ◌+ℤ◌, ◌-ℤ◌, ◌*ℤ◌, neg_ℤ, nat_abs, mul-le-mul, arith}
use Rattle.order.proofs.Integers.{abs_neg, abs_mul, abs_add}

module _ (a b : ℤ) {j k : ℕ} (g : nat_abs a ≤ j) (h : nat_abs b ≤ k) where
  pub small_plus : nat_abs (a +ℤ b) ≤ j + k
  small_plus = omega (arith, abs_add a b)

  pub small_minus : nat_abs (a -ℤ b) ≤ j + k
  small_minus = omega (arith, abs_add a (neg_ℤ b), abs_neg b)

  pub small_times : nat_abs (a *ℤ b) ≤ j * k
  small_times = rw abs_mul (mul-le-mul g h)
