-- Sums, differences and products of floats that are whole numbers are exact where none of the numbers is larger than
-- 2 ^ 53.
-- Assumes nothing.
use Rattle.std.proofs.Common.{◌≡◌, ℕ, ◌+◌, ◌-◌, ◌*◌, ◌<◌, ◌≤◌, Bool, true, false, cond, ◌&&◌, ltb, ℤ, ◌+ℤ◌, ◌-ℤ◌, ◌*ℤ◌, neg_ℤ, nat_abs, sym, refl, ap, ◌∙◌, ap₂, mul_assoc, mul_comm, add-mul, lt_of_mul-lt-mul_right, mul-pos, mul-one, le_of_mul-le-mul_right, arith, ltb-false, ltb-true, le-ltb, lt-ltb}
use mathlib.Core.Bool.{beq}
use native.Mathlib.Nat.{mul-sub, mul-mul-mul_comm}
use lib.Ieee.{Float, nan, inf, fin, binary64, up, down, unlike, round, sum, add, sub, mul, neg}
use lib.Ieee.Fits.{down_pos}
use lib.Ieee.Exact.{HasValue}
use lib.Ieee.Back.{round_whole}
use lib.Ieee.Scale.{round_same}
use Rattle.volume_metres.specs.Whole.{signed, IsWhole}
use Rattle.volume_metres.specs.Formulas.{most_exact}
use Rattle.volume_metres.proofs.Signs.{abs_signed, signed_not, signed_mul, sign_of, amount_of, signed_add}

-- ---- rounding

-- a fraction that is a whole number
round_amount : (s : Bool) (n c : ℕ) → 0 < c → round binary64 s (n * c) c ≡ round binary64 s n 1
round_amount s n c h = round_same binary64 s (n * c) c n 1 h (omega arith) (mul-one (n * c))

-- a number that is small enough is not changed
pub round_keeps : (s : Bool) (n : ℕ) → n ≤ most_exact → IsWhole (round binary64 s n 1) (signed s n)
round_keeps s n h = go (round binary64 s n 1) (round_whole binary64 s n h)
  where
    go : (x : Float) → HasValue x s n 1 → IsWhole x (signed s n)
    go nan v = elim v [ ]
    go (inf t) v = elim v [ ]
    go (fin t m e) v = (n, sym (mul-one (m * up e)) ∙ v.1, ap (λ b. signed b n) v.0)

exact_at : (s : Bool) (n : ℕ) (z : ℤ) → signed s n ≡ z → nat_abs z ≤ most_exact → IsWhole (round binary64 s n 1) z
exact_at s n z e h =
    let small : n ≤ most_exact = omega (arith, abs_signed s n, ap nat_abs e) in rw e at (round_keeps s n small)

-- ---- products

pub whole_mul : (x y : Float) (a b : ℤ) → IsWhole x a → IsWhole y b → nat_abs (a *ℤ b) ≤ most_exact
    → IsWhole (mul binary64 x y) (a *ℤ b)
unfolding mul
whole_mul nan y a b v w h = elim v [ ]
whole_mul (inf s) y a b v w h = elim v [ ]
whole_mul (fin s m e) nan a b v w h = elim w [ ]
whole_mul (fin s m e) (inf t) a b v w h = elim w [ ]
whole_mul (fin s m e) (fin t k d) a b (i, p, u) (j, q, v) h =
    let c = down e * down d in
    let r = ap₂ ◌*◌ p q ∙ mul-mul-mul_comm i (down e) j (down d) in
    rw (r, round_amount (unlike s t) (i * j) c (mul-pos (down_pos e) (down_pos d)))
    (exact_at (unlike s t) (i * j) (a *ℤ b) (signed_mul s t i j ∙ ap₂ ◌*ℤ◌ u v) h)

-- ---- sums

sub_mul : (a b c : ℕ) → a * c - b * c ≡ (a - b) * c
sub_mul a b c = ap₂ ◌-◌ (mul_comm a c) (mul_comm b c) ∙ sym (mul-sub c a b) ∙ mul_comm c (a - b)

ltb_mul : (a b c : ℕ) → 0 < c → ltb (a * c) (b * c) ≡ ltb a b
ltb_mul a b c h = go (ltb (a * c) (b * c)) refl
  where
    go : (q : Bool) → ltb (a * c) (b * c) ≡ q → q ≡ ltb a b
    go true e = sym (lt-ltb a b (lt_of_mul-lt-mul_right c {m = a} {n = b} (ltb-true (a * c) (b * c) e)))
    go false e =
        sym (le-ltb a b (le_of_mul-le-mul_right {m = b} {n = a} {k = c} (ltb-false (a * c) (b * c) e) h))

-- a sum of whole numbers over one divisor
sum_amount : (s : Bool) (a : ℕ) (t : Bool) (b c : ℕ) → 0 < c
    → sum binary64 s (a * c) t (b * c) c ≡ round binary64 (sign_of s a t b) (amount_of s a t b) 1
unfolding sum
sum_amount s a t b c h =
    rw (← add-mul a b c, sub_mul a b c, sub_mul b a c, ltb_mul a b c h, ltb_mul b a c h)
    (go (beq s t) (ltb a b))
  where
    go : (p q : Bool) → cond p (round binary64 s ((a + b) * c) c)
        (cond q (round binary64 t ((b - a) * c) c) (round binary64 (s && ltb b a) ((a - b) * c) c))
        ≡ round binary64 (cond p s (cond q t (s && ltb b a))) (cond p (a + b) (cond q (b - a) (a - b))) 1
    go true q = round_amount s (a + b) c h
    go false true = round_amount t (b - a) c h
    go false false = round_amount (s && ltb b a) (a - b) c h

-- a sum of floats that are whole numbers
pub add_amount : (s : Bool) (m : ℕ) (e : ℤ) (t : Bool) (k : ℕ) (d : ℤ) (i j : ℕ)
    → m * up e ≡ i * down e → k * up d ≡ j * down d
    → add binary64 (fin s m e) (fin t k d) ≡ round binary64 (sign_of s i t j) (amount_of s i t j) 1
unfolding add
add_amount s m e t k d i j p q =
    let c = down e * down d in
    let f : m * up e * down d ≡ i * c = ap (λ n. n * down d) p ∙ mul_assoc i (down e) (down d) in
    let g : k * up d * down e ≡ j * c =
    ap (λ n. n * down e) q ∙ mul_assoc j (down d) (down e) ∙ ap (λ n. j * n) (mul_comm (down d) (down e)) in
    ap₂ (λ n l. sum binary64 s n t l c) f g ∙ sum_amount s i t j c (mul-pos (down_pos e) (down_pos d))

pub whole_add : (x y : Float) (a b : ℤ) → IsWhole x a → IsWhole y b → nat_abs (a +ℤ b) ≤ most_exact
    → IsWhole (add binary64 x y) (a +ℤ b)
whole_add nan y a b v w h = elim v [ ]
whole_add (inf s) y a b v w h = elim v [ ]
whole_add (fin s m e) nan a b v w h = elim w [ ]
whole_add (fin s m e) (inf t) a b v w h = elim w [ ]
whole_add (fin s m e) (fin t k d) a b (i, p, u) (j, q, v) h =
    rw (add_amount s m e t k d i j p q)
    (exact_at (sign_of s i t j) (amount_of s i t j) (a +ℤ b) (signed_add s i t j ∙ ap₂ ◌+ℤ◌ u v) h)

-- ---- differences

whole_neg : (x : Float) (a : ℤ) → IsWhole x a → IsWhole (neg x) (neg_ℤ a)
unfolding neg
whole_neg nan a v = elim v [ ]
whole_neg (inf s) a v = elim v [ ]
whole_neg (fin s m e) a (n, p, u) = (n, p, signed_not s n ∙ ap neg_ℤ u)

pub whole_sub : (x y : Float) (a b : ℤ) → IsWhole x a → IsWhole y b → nat_abs (a -ℤ b) ≤ most_exact
    → IsWhole (sub binary64 x y) (a -ℤ b)
unfolding sub
whole_sub x y a b u v h = whole_add x (neg y) a (neg_ℤ b) u (whole_neg y b v) h
