-- Which of two pairs of numbers comes first.
-- Assumes nothing.
use mathlib.Core.Path.{◌≡◌}
use mathlib.Core.Logic.{◌⊎◌, inl, inr}
use Prim.Native.Nat.{ℕ, suc, ◌≤◌, ◌<◌}
use native.Mathlib.Decide.{dec_lt}
use native.Mathlib.Omega.{arith}
use Rattle.order.specs.Lists.{Earlier}

pub earlier_le : {j i p q : ℕ} → Earlier j i p q → j ≤ p
earlier_le (inl h) = omega arith
earlier_le (inr h) = omega (arith, h.0)

pub earlier_up : {j q k i : ℕ} → Earlier j q k i → Earlier j q k (suc i)
earlier_up (inl h) = inl h
earlier_up (inr h) = inr (h.0, omega (arith, h.1))

pub earlier_split : {j q k i : ℕ} → Earlier j q k (suc i) → Earlier j q k i ⊎ ((j ≡ k) × (q ≡ i))
earlier_split (inl h) = inl (inl h)
earlier_split {j} {q} {k} {i} (inr h) = go (dec_lt q i)
  where
    go : Dec (q < i) → Earlier j q k i ⊎ ((j ≡ k) × (q ≡ i))
    go (yes l) = inl (inr (h.0, l))
    go (no l) = inr (h.0, omega (arith, h.1))

pub earlier_at : {j i p q p' q' : ℕ} → p ≡ p' → q ≡ q' → Earlier j i p q → Earlier j i p' q'
earlier_at e f h = rw (e, f) at h

-- of two pairs one comes first, or they are the same
abbrev pub Compared : ℕ → ℕ → ℕ → ℕ → Type 0
Compared j i p q = Earlier j i p q ⊎ (Earlier p q j i ⊎ ((j ≡ p) × (i ≡ q)))

pub compare : (j i p q : ℕ) → Compared j i p q
compare j i p q = go (dec_lt j p) (dec_lt p j) (dec_lt i q) (dec_lt q i)
  where
    go : Dec (j < p) → Dec (p < j) → Dec (i < q) → Dec (q < i) → Compared j i p q
    go (yes a) b c d = inl (inl a)
    go (no a) (yes b) c d = inr (inl (inl b))
    go (no a) (no b) (yes c) d = inl (inr (omega arith, c))
    go (no a) (no b) (no c) (yes d) = inr (inl (inr (omega arith, d)))
    go (no a) (no b) (no c) (no d) = inr (inr (omega arith, omega arith))
