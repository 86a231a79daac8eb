-- Integers: products of sums and of three, signs, and sizes.
-- Assumes nothing.
use mathlib.Core.Path.{◌≡◌, refl, sym, ap, ap₂, ◌∙◌}
use mathlib.Core.Bool.{Bool, true, false, cond}
use Prim.Native.Nat.{ℕ, zero, suc, ◌+◌, ◌-◌, ◌*◌, ◌≤◌}
use native.Mathlib.Nat.{zero-mul}
use native.Mathlib.Omega.{arith}
use borrow.Author.Tests.{ltb-true, ltb-false}
use lib.Dec.{ltb}
use lib.IntN.{ℤ, pos, negsuc, neg_ℤ, suc_ℤ, pred_ℤ, nat_abs, ◌+ℤ◌, ◌*ℤ◌, +ℤ_idl, +ℤ_idr, +ℤ-suc_ℤ, +ℤ-pred_ℤ}
use lib.IntN.{+ℤ_assoc, +ℤ_comm, +ℤ_invl, +ℤ_invr, suc_ℤ-*ℤ, pred_ℤ-*ℤ, zero-*ℤ, *ℤ_comm, neg_ℤ-neg_ℤ}

-- ---- signs

pub neg_mul : (a b : ℤ) → neg_ℤ a *ℤ b ≡ neg_ℤ (a *ℤ b)
neg_mul (pos zero) (pos n) = ap pos (zero-mul n) ∙ ap (λ k. neg_ℤ (pos k)) (sym (zero-mul n))
neg_mul (pos zero) (negsuc n) =
    ap (λ k. neg_ℤ (pos k)) (zero-mul (suc n)) ∙ ap (λ k. neg_ℤ (neg_ℤ (pos k))) (sym (zero-mul (suc n)))
neg_mul (pos (suc m)) (pos n) = refl
neg_mul (pos (suc m)) (negsuc n) = sym (neg_ℤ-neg_ℤ (pos (suc m * suc n)))
neg_mul (negsuc m) (pos n) = sym (neg_ℤ-neg_ℤ (pos (suc m * n)))
neg_mul (negsuc m) (negsuc n) = refl

pub mul_neg : (a b : ℤ) → a *ℤ neg_ℤ b ≡ neg_ℤ (a *ℤ b)
mul_neg a b = *ℤ_comm a (neg_ℤ b) ∙ neg_mul b a ∙ ap neg_ℤ (*ℤ_comm b a)

-- ---- sums and products

-- by steps of one up and down
by_steps : (P : ℤ → Type 0) → P (pos 0) → ((k : ℤ) → P k → P (suc_ℤ k)) → ((k : ℤ) → P k → P (pred_ℤ k)) → (k : ℤ)
    → P k
by_steps P z s p (pos zero) = z
by_steps P z s p (pos (suc n)) = s (pos n) (by_steps P z s p (pos n))
by_steps P z s p (negsuc zero) = p (pos 0) z
by_steps P z s p (negsuc (suc n)) = p (negsuc n) (by_steps P z s p (negsuc n))

pub +ℤ-*ℤ : (a b c : ℤ) → (a +ℤ b) *ℤ c ≡ a *ℤ c +ℤ b *ℤ c
+ℤ-*ℤ a b c =
    by_steps (λ k. (a +ℤ k) *ℤ c ≡ a *ℤ c +ℤ k *ℤ c)
    (ap (λ z. z *ℤ c) (+ℤ_idr a) ∙ sym (+ℤ_idr (a *ℤ c)) ∙ ap (λ z. a *ℤ c +ℤ z) (sym (zero-*ℤ c)))
    (λ k h.
    ap (λ z. z *ℤ c) (+ℤ-suc_ℤ a k) ∙ suc_ℤ-*ℤ (a +ℤ k) c ∙ ap (λ z. z +ℤ c) h ∙ +ℤ_assoc (a *ℤ c) (k *ℤ c) c
    ∙ ap (λ z. a *ℤ c +ℤ z) (sym (suc_ℤ-*ℤ k c)))
    (λ k h.
    ap (λ z. z *ℤ c) (+ℤ-pred_ℤ a k) ∙ pred_ℤ-*ℤ (a +ℤ k) c ∙ ap (λ z. z +ℤ neg_ℤ c) h
    ∙ +ℤ_assoc (a *ℤ c) (k *ℤ c) (neg_ℤ c) ∙ ap (λ z. a *ℤ c +ℤ z) (sym (pred_ℤ-*ℤ k c)))
    b

pub *ℤ-+ℤ : (a b c : ℤ) → a *ℤ (b +ℤ c) ≡ a *ℤ b +ℤ a *ℤ c
*ℤ-+ℤ a b c = *ℤ_comm a (b +ℤ c) ∙ +ℤ-*ℤ b c a ∙ ap₂ ◌+ℤ◌ (*ℤ_comm b a) (*ℤ_comm c a)

pub *ℤ-assoc : (a b c : ℤ) → a *ℤ b *ℤ c ≡ a *ℤ (b *ℤ c)
*ℤ-assoc a b c =
    by_steps (λ k. k *ℤ b *ℤ c ≡ k *ℤ (b *ℤ c))
    (ap (λ z. z *ℤ c) (zero-*ℤ b) ∙ zero-*ℤ c ∙ sym (zero-*ℤ (b *ℤ c)))
    (λ k h.
    ap (λ z. z *ℤ c) (suc_ℤ-*ℤ k b) ∙ +ℤ-*ℤ (k *ℤ b) b c ∙ ap (λ z. z +ℤ b *ℤ c) h ∙ sym (suc_ℤ-*ℤ k (b *ℤ c)))
    (λ k h.
    ap (λ z. z *ℤ c) (pred_ℤ-*ℤ k b) ∙ +ℤ-*ℤ (k *ℤ b) (neg_ℤ b) c ∙ ap₂ ◌+ℤ◌ h (neg_mul b c)
    ∙ sym (pred_ℤ-*ℤ k (b *ℤ c)))
    a

-- ---- order of terms, for sorting them

pub +ℤ-left : (a b c : ℤ) → a +ℤ (b +ℤ c) ≡ b +ℤ (a +ℤ c)
+ℤ-left a b c = sym (+ℤ_assoc a b c) ∙ ap (λ z. z +ℤ c) (+ℤ_comm a b) ∙ +ℤ_assoc b a c

pub *ℤ-left : (a b c : ℤ) → a *ℤ (b *ℤ c) ≡ b *ℤ (a *ℤ c)
*ℤ-left a b c = sym (*ℤ-assoc a b c) ∙ ap (λ z. z *ℤ c) (*ℤ_comm a b) ∙ *ℤ-assoc b a c

-- a term and its negative, before another
pub neg_plus : (x y : ℤ) → neg_ℤ x +ℤ (x +ℤ y) ≡ y
neg_plus x y = sym (+ℤ_assoc (neg_ℤ x) x y) ∙ ap (λ z. z +ℤ y) (+ℤ_invl x) ∙ +ℤ_idl y

pub plus_neg : (x y : ℤ) → x +ℤ (neg_ℤ x +ℤ y) ≡ y
plus_neg x y = sym (+ℤ_assoc x (neg_ℤ x) y) ∙ ap (λ z. z +ℤ y) (+ℤ_invr x) ∙ +ℤ_idl y

-- what is its own negative is 0
pub own_negative : (z : ℤ) → z ≡ neg_ℤ z → z ≡ pos 0
own_negative (pos zero) e = refl
own_negative (pos (suc n)) e = cc
own_negative (negsuc n) e = cc

-- ---- sizes

pub abs_neg : (a : ℤ) → nat_abs (neg_ℤ a) ≡ nat_abs a
abs_neg (pos zero) = refl
abs_neg (pos (suc n)) = refl
abs_neg (negsuc n) = refl

pub abs_mul : (a b : ℤ) → nat_abs (a *ℤ b) ≡ nat_abs a * nat_abs b
abs_mul (pos m) (pos n) = refl
abs_mul (pos m) (negsuc n) = abs_neg (pos (m * suc n))
abs_mul (negsuc m) (pos n) = abs_neg (pos (suc m * n))
abs_mul (negsuc m) (negsuc n) = refl

abs_apart : (a b : ℕ) → nat_abs (pos a +ℤ negsuc b) ≤ a + suc b
abs_apart a b = go (ltb a (suc b)) refl
  where
    go : (q : Bool) → ltb a (suc b) ≡ q → nat_abs (cond q (negsuc (suc b - suc a)) (pos (a - suc b))) ≤ a + suc b
    go true e = omega (arith, ltb-true a (suc b) e)
    go false e = omega (arith, ltb-false a (suc b) e)

pub abs_add : (a b : ℤ) → nat_abs (a +ℤ b) ≤ nat_abs a + nat_abs b
abs_add (pos m) (pos n) = omega arith
abs_add (pos m) (negsuc n) = abs_apart m n
abs_add (negsuc m) (pos n) = omega (arith, abs_apart n m)
abs_add (negsuc m) (negsuc n) = omega arith
