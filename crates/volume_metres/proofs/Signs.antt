-- Numbers with a sign, and IEEE 754's rule for the sign of a sum.
-- Assumes nothing.
use Rattle.std.proofs.Common.{◌≡◌, ℕ, zero, suc, ◌+◌, ◌-◌, ◌*◌, ◌<◌, ◌≤◌, Bool, true, false, cond, not, ◌&&◌, ltb, pos, ◌+ℤ◌, ◌-ℤ◌, ◌*ℤ◌, neg_ℤ, nat_abs, sym, refl, ap, ◌∙◌, arith, ltb-false, ltb-true}
use mathlib.Core.Bool.{false≢true, beq}
use lib.IntN.{neg_ℤ-+ℤ, neg_ℤ-neg_ℤ, +ℤ_comm, +ℤ-neg_ℤ_cancel}
use lib.Ieee.{unlike}
use Rattle.order.proofs.Integers.{neg_mul, mul_neg}
use Rattle.volume_metres.specs.Whole.{signed}

pub abs_signed : (s : Bool) (n : ℕ) → nat_abs (signed s n) ≡ n
abs_signed false n = refl
abs_signed true zero = refl
abs_signed true (suc n) = refl

pub signed_not : (s : Bool) (n : ℕ) → signed (not s) n ≡ neg_ℤ (signed s n)
signed_not false n = refl
signed_not true n = sym (neg_ℤ-neg_ℤ (pos n))

pub signed_mul : (s t : Bool) (m n : ℕ) → signed (unlike s t) (m * n) ≡ signed s m *ℤ signed t n
signed_mul false false m n = refl
signed_mul false true m n = sym (mul_neg (pos m) (pos n))
signed_mul true false m n = sym (neg_mul (pos m) (pos n))
signed_mul true true m n =
    sym (neg_mul (pos m) (neg_ℤ (pos n)) ∙ ap neg_ℤ (mul_neg (pos m) (pos n)) ∙ neg_ℤ-neg_ℤ (pos (m * n)))

-- ---- differences

pos_less : (a b : ℕ) → b ≤ a → pos (a - b) ≡ pos a -ℤ pos b
pos_less a b h =
    let e : a - b + b ≡ a = omega arith in
    sym (+ℤ-neg_ℤ_cancel (pos (a - b)) (pos b)) ∙ ap (λ n. pos n -ℤ pos b) e

neg_less : (a b : ℕ) → a ≤ b → neg_ℤ (pos (b - a)) ≡ pos a -ℤ pos b
neg_less a b h =
    ap neg_ℤ (pos_less b a h) ∙ neg_ℤ-+ℤ (pos b) (neg_ℤ (pos a)) ∙ ap (λ z. neg_ℤ (pos b) +ℤ z) (neg_ℤ-neg_ℤ (pos a))
    ∙ +ℤ_comm (neg_ℤ (pos b)) (pos a)

-- ---- sums: the sign and the size of a sum of a with the sign s and b with the sign t

abbrev pub sign_of : Bool → ℕ → Bool → ℕ → Bool
sign_of s a t b = cond (beq s t) s (cond (ltb a b) t (s && ltb b a))

abbrev pub amount_of : Bool → ℕ → Bool → ℕ → ℕ
amount_of s a t b = cond (beq s t) (a + b) (cond (ltb a b) (b - a) (a - b))

pub signed_add : (s : Bool) (a : ℕ) (t : Bool) (b : ℕ)
    → signed (sign_of s a t b) (amount_of s a t b) ≡ signed s a +ℤ signed t b
signed_add false a false b = refl
signed_add true a true b = neg_ℤ-+ℤ (pos a) (pos b)
signed_add false a true b = go (ltb a b) refl
  where
    go : (q : Bool) → ltb a b ≡ q → signed (cond q true false) (cond q (b - a) (a - b)) ≡ pos a -ℤ pos b
    go true e = neg_less a b (omega (arith, ltb-true a b e))
    go false e = pos_less a b (ltb-false a b e)
signed_add true a false b = go (ltb a b) (ltb b a) refl refl ∙ +ℤ_comm (pos b) (neg_ℤ (pos a))
  where
    go : (q r : Bool) → ltb a b ≡ q → ltb b a ≡ r
        → signed (cond q false r) (cond q (b - a) (a - b)) ≡ pos b -ℤ pos a
    go true r e f = pos_less b a (omega (arith, ltb-true a b e))
    go false true e f = neg_less b a (ltb-false a b e)
    go false false e f =
        let d : a - b ≡ b - a = omega (arith, ltb-false a b e, ltb-false b a f) in
        ap pos d ∙ pos_less b a (ltb-false b a f)

-- a sum is a negative zero only if the first number is one
pub sign_zero : (s : Bool) (a : ℕ) (t : Bool) (b : ℕ) → (s ≡ true → 0 < a)
    → sign_of s a t b ≡ true → 0 < amount_of s a t b
sign_zero false a false b h e = absurd (false≢true e)
sign_zero true a true b h e = omega (arith, h refl)
sign_zero false a true b h e = go (ltb a b) refl e
  where
    go : (q : Bool) → ltb a b ≡ q → cond q true false ≡ true → 0 < cond q (b - a) (a - b)
    go true f e = omega (arith, ltb-true a b f)
    go false f e = absurd (false≢true e)
sign_zero true a false b h e = go (ltb a b) refl e
  where
    go : (q : Bool) → ltb a b ≡ q → cond q false (ltb b a) ≡ true → 0 < cond q (b - a) (a - b)
    go true f e = absurd (false≢true e)
    go false f e = omega (arith, ltb-true b a e)
