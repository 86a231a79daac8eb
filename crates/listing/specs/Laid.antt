-- Numbers written at a place of a slice.
--
-- Laid       d' is d with the numbers f 0 .. f (n - 1) written from place `at` on
-- LaidList   the same of a list of numbers
use Rattle.std.specs.Prelude.{◌≡◌, List, ℕ, ◌+◌, ◌≤◌, ◌<◌, length, get_or}

pub record Laid (at : ℕ) (f : ℕ → ℕ) (n : ℕ) (d d' : List ℕ) : Type 0 where
  pub same_length : length d' ≡ length d
  pub inside : (j : ℕ) → j < n → get_or d' (at + j) 0 ≡ f j
  pub earlier : (p : ℕ) → p < at → get_or d' p 0 ≡ get_or d p 0
  pub later : (p : ℕ) → at + n ≤ p → get_or d' p 0 ≡ get_or d p 0

abbrev pub LaidList : ℕ → List ℕ → List ℕ → List ℕ → Type 0
LaidList at s d d' = Laid at (λ j. get_or s j 0) (length s) d d'
