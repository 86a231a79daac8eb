-- Chains of rows with one hash: from each row to the last one before it.
--
-- latest    the number after the last k < n whose row has the hash h, 0 if none has
-- Latest    what that says of a number p
-- WayBack   the way back along a chain from n rows has come to the number p: none of the rows from p on is y, and the
--           row before p has the hash of y
use Rattle.std.specs.Prelude.{◌≡◌, ◌≢◌, Bool, false, cond, ℕ, zero, suc, ◌-◌, ◌≤◌, ◌<◌, eqb}

module _ {A : Type 0} where
  unfoldable pub latest : (A → ℕ) → (ℕ → A) → ℕ → ℕ → ℕ
  latest hash row h zero = 0
  latest hash row h (suc n) = cond (eqb (hash (row n)) h) (suc n) (latest hash row h n)

  pub record Latest (hash : A → ℕ) (row : ℕ → A) (h n p : ℕ) : Type 0 where
    pub most : p ≤ n
    pub has : 0 < p → hash (row (p - 1)) ≡ h
    pub none : (k : ℕ) → p ≤ k → k < n → hash (row k) ≢ h

  pub record WayBack (same : A → A → Bool) (hash : A → ℕ) (row : ℕ → A) (n : ℕ) (y : A) (p : ℕ) : Type 0 where
    pub has : 0 < p → hash (row (p - 1)) ≡ hash y
    pub none : (k : ℕ) → p ≤ k → k < n → same (row k) y ≡ false
