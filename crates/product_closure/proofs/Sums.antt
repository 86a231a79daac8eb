-- The sum over all pairs, taken by the sum of the two indices, is the product of the two sums.
-- Assumes nothing.
use mathlib.Core.Path.{◌≡◌, refl, ap, ◌∙◌}
use Prim.Native.Nat.{ℕ, zero, suc, ◌+◌, ◌-◌, ◌*◌, ◌≤◌, ◌<◌}
use native.Mathlib.Decide.{dec_lt}
use native.Mathlib.Omega.{arith}
use Rattle.order.specs.Sums.{sum}
use Rattle.order.proofs.Sums.{sum_zero, sum_same, sum_plus}
use Rattle.listing.proofs.Sequences.{sum_add}

-- by the sum of the indices, and by the first of them
sum_triangle : (h : ℕ → ℕ → ℕ) (n : ℕ)
    → sum (λ R. sum (λ i. h i (R - i)) (suc R)) n ≡ sum (λ i. sum (h i) (n - i)) n
unfolding sum
sum_triangle h zero = refl
sum_triangle h (suc n) =
    omega (
      arith,
      sum_triangle h n,
      sum_same (λ i. sum (h i) (suc n - i)) (λ i. sum (h i) (n - i) + h i (n - i)) (suc n) more,
      sum_plus (λ i. sum (h i) (n - i)) (λ i. h i (n - i)) (suc n),
      last,
    )
  where
    more : (i : ℕ) → i < suc n → sum (h i) (suc n - i) ≡ sum (h i) (n - i) + h i (n - i)
    more i l =
        let e : suc n - i ≡ suc (n - i) = omega arith in
        rw e

    last : sum (h n) (n - n) ≡ 0
    last =
        let e : n - n ≡ 0 = omega arith in
        rw e

-- each number times another
sum_times : (f : ℕ → ℕ) (c n : ℕ) → sum (λ i. f i * c) n ≡ sum f n * c
unfolding sum
sum_times f c zero = omega arith
sum_times f c (suc n) = omega (arith, sum_times f c n)

times_sum : (c : ℕ) (f : ℕ → ℕ) (n : ℕ) → sum (λ i. c * f i) n ≡ c * sum f n
unfolding sum
times_sum c f zero = omega arith
times_sum c f (suc n) = omega (arith, times_sum c f n)

-- numbers that are 0 above a add nothing there
sum_past : (f : ℕ → ℕ) (a n : ℕ) → ((i : ℕ) → a < i → f i ≡ 0) → suc a ≤ n → sum f n ≡ sum f (suc a)
sum_past f a n none h =
    let e : n ≡ suc a + (n - suc a) = omega arith in
    let z = sum_zero (λ i. f (suc a + i)) (n - suc a) (λ i l. none (suc a + i) (omega arith)) in
    ap (sum f) e ∙ omega (arith, sum_add f (suc a) (n - suc a))

-- Two rows of numbers, 0 above a and above b: the products of all pairs, by the sum of the indices, add up to the
-- product of the sums.
pub sum_product : (f g : ℕ → ℕ) (a b : ℕ) → ((i : ℕ) → a < i → f i ≡ 0) → ((j : ℕ) → b < j → g j ≡ 0)
    → sum (λ R. sum (λ i. f i * g (R - i)) (suc R)) (suc (a + b)) ≡ sum f (suc a) * sum g (suc b)
sum_product f g a b p q =
    sum_triangle (λ i j. f i * g j) n ∙ sum_same _ _ n (λ i l. row i (dec_lt a i)) ∙ sum_times f (sum g (suc b)) n
    ∙ ap (λ t. t * sum g (suc b)) (sum_past f a n p (omega arith))
  where
    n : ℕ
    n = suc (a + b)

    row : (i : ℕ) → Dec (a < i) → sum (λ j. f i * g j) (n - i) ≡ f i * sum g (suc b)
    row i (yes l) = times_sum (f i) g (n - i) ∙ rw (p i l) (omega arith)
    row i (no l) = times_sum (f i) g (n - i) ∙ ap (λ t. f i * t) (sum_past g b (n - i) q (omega arith))
