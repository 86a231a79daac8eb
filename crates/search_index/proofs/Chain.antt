-- Chains of rows with one hash: the last such row before a number, and a way from row to row that misses none.
-- Assumes nothing.
use mathlib.Core.Path.{◌≡◌, refl, ap}
use mathlib.Core.Bool.{Bool, false}
use mathlib.Core.Logic.{◌≢◌, ◌⊎◌, inl, inr}
use Prim.Native.Nat.{ℕ, zero, suc, ◌+◌, ◌-◌, ◌≤◌, ◌<◌}
use native.Mathlib.Nat.{eq-or-lt_of_le}
use native.Mathlib.Decide.{ℕ_discrete, dec_le, dec_lt}
use native.Mathlib.Numerals.{add-one}
use native.Mathlib.Omega.{arith}
use borrow.Author.Tests.{eq-eqb, ne_eqb}
use Rattle.search_theory.specs.Search.{Decides}
use Rattle.search_index.specs.Chain.{latest, Latest, WayBack}
use Rattle.search_theory.proofs.Lookup.{differs}

module _ {A : Type 0} (hash : A → ℕ) (row : ℕ → A) (h : ℕ) where
  -- one row more, with the hash and with another
  pub latest_this : (n : ℕ) → hash (row n) ≡ h → latest hash row h (n + 1) ≡ n + 1
  unfolding latest
  latest_this n e = rw (add-one, eq-eqb (hash (row n)) h e)

  pub latest_other : (n : ℕ) → hash (row n) ≢ h → latest hash row h (n + 1) ≡ latest hash row h n
  unfolding latest
  latest_other n e = rw (add-one, ne_eqb (hash (row n)) h e)

  this : (n : ℕ) → hash (row n) ≡ h → Latest hash row h (suc n) (suc n)
  this n e =
      let d : suc n - 1 ≡ n = omega arith in
      record { most = omega arith; has = λ z. rw d e; none = λ k l m. absurd (omega arith) }

  other : (n p : ℕ) → hash (row n) ≢ h → Latest hash row h n p → Latest hash row h (suc n) p
  other n p e q = record { most = omega arith; has = q.has; none = λ k l m. go k l (eq-or-lt_of_le m) }
    where
      go : (k : ℕ) → p ≤ k → (suc k ≡ suc n) ⊎ (suc k < suc n) → hash (row k) ≢ h
      go k l (inl i) =
          let j : k ≡ n = omega arith in
          rw j e
      go k l (inr m) = q.none k l (omega arith)

  pub latest_exact : (n : ℕ) → Latest hash row h n (latest hash row h n)
  unfolding latest
  latest_exact zero =
      record { most = omega arith; has = λ z. absurd (omega arith); none = λ k l m. absurd (omega arith) }
  latest_exact (suc n) = go (ℕ_discrete (hash (row n)) h) (latest_exact n)
    where
      go : Dec (hash (row n) ≡ h) → Latest hash row h n (latest hash row h n)
          → Latest hash row h (suc n) (latest hash row h (suc n))
      go (yes e) q = rw (eq-eqb (hash (row n)) h e) (this n e)
      go (no e) q = rw (ne_eqb (hash (row n)) h e) (other n (latest hash row h n) e q)

-- it is said of the rows below n alone
pub latest_alike : {A : Type 0} (hash : A → ℕ) (row other : ℕ → A) (h n : ℕ) → ((k : ℕ) → k < n → row k ≡ other k)
    → latest hash row h n ≡ latest hash other h n
unfolding latest
latest_alike hash row other h zero e = refl
latest_alike hash row other h (suc n) e =
    rw (e n (omega arith), latest_alike hash row other h n (λ k m. e k (omega arith)))

-- ---- the way back along the rows with the hash of y

module _ {A : Type 0} (same : A → A → Bool) (decides : Decides same) (hash : A → ℕ) (row : ℕ → A) (n : ℕ) (y : A) where
  -- a row with another hash is another row
  unlike : (k : ℕ) → hash (row k) ≢ hash y → same (row k) y ≡ false
  unlike k d = differs same decides (row k) y (λ e. d (ap hash e))

  pub back_start : WayBack same hash row n y (latest hash row (hash y) n)
  back_start =
      let l = latest_exact hash row (hash y) n in
      record { has = l.has; none = λ k g m. unlike k (l.none k g m) }

  pub back_next : (p : ℕ) → WayBack same hash row n y p → 0 < p → same (row (p - 1)) y ≡ false
      → WayBack same hash row n y (latest hash row (hash (row (p - 1))) (p - 1))
  back_next p w z e = rw (w.has z) (record { has = l.has; none = λ k g m. go k g m (dec_le p k) (dec_lt k (p - 1)) })
    where
      l : Latest hash row (hash y) (p - 1) (latest hash row (hash y) (p - 1))
      l = latest_exact hash row (hash y) (p - 1)

      go : (k : ℕ) → latest hash row (hash y) (p - 1) ≤ k → k < n → Dec (p ≤ k) → Dec (k < p - 1)
          → same (row k) y ≡ false
      go k g m (yes q) t = w.none k q m
      go k g m (no q) (yes t) = unlike k (l.none k g t)
      go k g m (no q) (no t) =
          let i : k ≡ p - 1 = omega arith in
          rw i e
