-- Good lines: those of a text that pass their tests are the lines that the text begins with, and if a text begins with
-- good lines of any layers, its own pass.
-- Assumes nothing.
use mathlib.Core.Path.{◌≡◌, refl, sym, ap, ◌∙◌}
use mathlib.Core.Logic.{◌⊎◌, inl, inr}
use mathlib.Core.List.{List, ◌++◌}
use Prim.Native.Nat.{ℕ, zero, suc, ◌≤◌, ◌<◌}
use native.Mathlib.Nat.{eq-or-lt_of_le}
use native.Mathlib.Omega.{arith}
use Rattle.listing.specs.Listing.{Limits}
use Rattle.listing.specs.Layers.{Layers}
use Rattle.listing.specs.Written.{joined}
use Rattle.text_theory.specs.Text.{line_bytes, line_at, line_count, text_to}
use Rattle.text_theory.specs.Said.{after_line, from_line, said, form_test, bound_at, line_test}
use Rattle.text_theory.specs.Places.{Begins, GoodLines, Run}
use Rattle.text_theory.proofs.Lines.{line_keyed, after_bytes}
use Rattle.text_theory.proofs.Spots.{said_topped}
use Rattle.text_theory.proofs.Runs.{to_next, from_line_lem, run_line, run_bound}
use Rattle.text_theory.proofs.Forms.{Goes, goes_key, form_exact, bound_numbers}
use Rattle.text_theory.proofs.Forms.{Judged, off_key, off_form, off_limit, good, judged}

-- ---- from the tests to the lines

pub lines_to : (t : List ℕ) (M : Layers) (k : ℕ) → ((j : ℕ) → j < k → Begins (line_bytes (line_at M j)) (from_line t j))
    → t ≡ text_to M k ++ from_line t k
unfolding text_to joined from_line
lines_to t M zero b = refl
lines_to t M (suc k) b =
    let (s, e) = b k (omega arith) in
    let a : after_line (from_line t k) ≡ s = ap after_line e ∙ after_bytes (line_at M k) s (line_keyed M k) in
    lines_to t M k (λ j h. b j (omega arith)) ∙ ap (λ u. text_to M k ++ u) e ∙ sym (to_next M k s)
    ∙ ap (λ u. text_to M (suc k) ++ u) (sym a)

-- a text goes on with the line that it says, at line k
abbrev pub GoesAt : List ℕ → ℕ → Type 0
GoesAt t k = Goes (line_at (said t) k) (from_line t k)

module _ (t : List ℕ) (k : ℕ) (c : k ≤ line_count (said t)) where
  goes_lines : ((j : ℕ) → j < k → GoesAt t j) → GoodLines t (said t) k (from_line t k)
  goes_lines g = record {
    topped = said_topped t;
    there = c;
    text = lines_to t (said t) k (λ j h. (g j h).0);
    fit = λ j h. (g j h).1;
  }

  pub good_lines : ((j : ℕ) → j < k → (form_test (line_at (said t) j) (from_line t j)).no ≡ 0)
      → GoodLines t (said t) k (from_line t k)
  good_lines f = goes_lines (λ j h. (form_exact (line_at (said t) j) (from_line t j)).0 (f j h))

-- a good line after others
pub goes_more : (t : List ℕ) (k : ℕ) → k < line_count (said t)
    → ((j : ℕ) → j < k → GoesAt t j) → GoesAt t k → GoodLines t (said t) (suc k) (from_line t (suc k))
goes_more t k c p g = goes_lines t (suc k) c (λ j h. go j (eq-or-lt_of_le h))
  where
    go : (j : ℕ) → (suc j ≡ suc k) ⊎ (suc j < suc k) → GoesAt t j
    go j (inl e) = let q : j ≡ k = omega arith in rw q g
    go j (inr l) = p j (omega arith)

-- what the test of line k of a text finds
abbrev pub Found : Limits → List ℕ → ℕ → Type 0
Found m t k = Judged (line_at (said t) k) (bound_at m (said t) k) (from_line t k) (line_test m t k).no

pub found : (m : Limits) (t : List ℕ) (k : ℕ) → Found m t k
found m t k = judged (line_at (said t) k) (from_line t k) (bound_at m (said t) k)

module _ (m : Limits) (t : List ℕ) where
  -- what a line has that passes its tests
  pub passed : (j : ℕ) → (line_test m t j).no ≡ 0
      → GoesAt t j × ((bound_at m (said t) j).amount ≤ (bound_at m (said t) j).most)
  passed j e = go (found m t j)
    where
      go : Found m t j → GoesAt t j × ((bound_at m (said t) j).amount ≤ (bound_at m (said t) j).most)
      go (off_key h q) = absurd (omega arith)
      go (off_form h g q) = absurd (omega arith)
      go (off_limit g h q) = absurd (omega (arith, bound_numbers m (said t) j))
      go (good g h q) = (g, h)

  pub passed_run : (k : ℕ) → k ≤ line_count (said t) → ((j : ℕ) → j < k → (line_test m t j).no ≡ 0)
      → Run m t (said t) k (from_line t k)
  passed_run k c p = record {
    good = goes_lines t k c (λ j h. (passed j (p j h)).0);
    within = λ j h. (passed j (p j h)).1;
  }

-- ---- from the lines to the tests

module _ (t : List ℕ) (M : Layers) (k : ℕ) (rest : List ℕ) (g : GoodLines t M k rest) where
  pub lines_go : (j : ℕ) → j < k → GoesAt t j
  lines_go j h =
      rw (run_line t M k rest g.there g.text j h)
      (from_line_lem t M k rest g.text j h, g.fit j h)

module _ (m : Limits) (t : List ℕ) (M : Layers) (k : ℕ) (rest : List ℕ) (r : Run m t M k rest) where
  pub run_passes : (j : ℕ) → j < k → (line_test m t j).no ≡ 0
  run_passes j h = go (found m t j)
    where
      goes : GoesAt t j
      goes = lines_go t M k rest r.good j h

      fits : (bound_at m (said t) j).amount ≤ (bound_at m (said t) j).most
      fits = rw (run_bound t M k rest r.good.there r.good.text m j h) (r.within j h)

      go : Found m t j → (line_test m t j).no ≡ 0
      go (off_key n q) = absurd (n (goes_key (line_at (said t) j) (from_line t j) goes))
      go (off_form b n q) = absurd (n goes)
      go (off_limit g n q) = absurd (omega (arith, fits))
      go (good g n q) = q
