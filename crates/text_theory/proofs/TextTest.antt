-- The test of a whole text: too long a text is refused first; else the first line that does not pass decides; and where
-- all lines pass, whether bytes are left.
-- Assumes nothing.
use mathlib.Core.Path.{◌≡◌, refl, ap, ◌∙◌}
use mathlib.Core.Logic.{◌⊎◌, inl, inr}
use mathlib.Core.List.{List, [], ◌∷◌}
use Prim.Native.Nat.{ℕ, zero, suc, ◌≤◌, ◌<◌}
use native.Mathlib.Numerals.{add-one}
use native.Mathlib.Nat.{eq-or-lt_of_le}
use native.Mathlib.Omega.{arith}
use borrow.Author.Tests.{ltb-false, lt-ltb, le-ltb}
use lib.Dec.{ltb}
use lib.ListN.{length}
use Rattle.listing.specs.declared.Answer.{Answer}
use Rattle.listing.specs.Refusals.{long_text, more_bytes}
use Rattle.listing.specs.Answers.{plain, on, ◌or_else◌, first_of}
use Rattle.listing.specs.Listing.{Limits}
use Rattle.listing.proofs.Answers.{or_fine, or_stop, or_no, on_or_no, on_no, of_next, of_stop, of_each, of_all}
use Rattle.listing.proofs.Broken.{zero_or}
use Rattle.text_theory.specs.Text.{line_count}
use Rattle.text_theory.specs.Said.{from_line, said, line_test, text_test}

-- ---- along the lines

module _ (f : ℕ → Answer) (n : ℕ) where
  -- what passes is skipped
  of_skip : (k : ℕ) → k ≤ n → ((j : ℕ) → j < k → (f j).no ≡ 0) → first_of f 0 n ≡ first_of f k n
  of_skip zero h p = refl
  of_skip (suc k) h p =
      rw (← add-one)
      (of_next _ f k n (of_skip k (omega arith) (λ j l. p j (omega arith))) (omega arith) (p k (omega arith)))

  -- the first that does not pass
  of_first : (k : ℕ) → k < n → ((j : ℕ) → j < k → (f j).no ≡ 0) → ((f k).no ≡ 0 → ⊥) → first_of f 0 n ≡ f k
  of_first k h p s = of_stop _ f k n (of_skip k (omega arith) p) h s

-- none below n is refused, or one is the first
abbrev pub AnyFirst : (ℕ → Answer) → ℕ → Type 0
AnyFirst f n =
    ((j : ℕ) → j < n → (f j).no ≡ 0)
    ⊎ ((k : ℕ) × (k < n) × ((j : ℕ) → j < k → (f j).no ≡ 0) × ((f k).no ≡ 0 → ⊥))

pub any_first : (f : ℕ → Answer) (n : ℕ) → AnyFirst f n
any_first f zero = inl (λ j h. absurd (omega arith))
any_first f (suc n) = go (any_first f n) (zero_or (f n).no)
  where
    go : AnyFirst f n → ((f n).no ≡ 0) ⊎ ((f n).no ≡ 0 → ⊥) → AnyFirst f (suc n)
    go (inr (k, h, p, s)) d = inr (k, omega arith, p, s)
    go (inl p) (inr s) = inr (n, omega arith, p, s)
    go (inl p) (inl z) = inl (λ j h. each j (eq-or-lt_of_le h))
      where
        each : (j : ℕ) → (suc j ≡ suc n) ⊎ (suc j < suc n) → (f j).no ≡ 0
        each j (inl e) = let q : j ≡ n = omega arith in rw q z
        each j (inr l) = p j (omega arith)

-- ---- the whole

length_none : (l : List ℕ) → length l ≤ 0 → l ≡ []
length_none [] h = refl
length_none (x ∷ l) h = absurd (omega arith)

none_length : (l : List ℕ) → ¬ (l ≡ []) → 0 < length l
none_length [] h = absurd (h refl)
none_length (x ∷ l) h = omega arith

module _ (m : Limits) (t : List ℕ) where
  -- what is asked of all lines, and of what is left after them
  abbrev along : Answer
  along = first_of (line_test m t) 0 (line_count (said t))

  abbrev more : Answer
  more = on (ltb 0 (length (from_line t (line_count (said t))))) (plain more_bytes)

  pub text_long : m.text < length t → (text_test m t).no ≡ long_text
  unfolding text_test ◌or_else◌
  text_long h = rw (lt-ltb m.text (length t) h)

  text_short : length t ≤ m.text → text_test m t ≡ along or_else more
  unfolding text_test
  text_short h = or_fine (on (ltb m.text (length t)) (plain long_text)) _ (rw (le-ltb m.text (length t) h))

  pub text_passed : (text_test m t).no ≡ 0 → (length t ≤ m.text)
      × ((j : ℕ) → j < line_count (said t) → (line_test m t j).no ≡ 0) × (from_line t (line_count (said t)) ≡ [])
  unfolding text_test
  text_passed e =
      let p = on_or_no (ltb m.text (length t)) (plain long_text) (along or_else more) (λ q. omega arith) e in
      let q = or_no along more p.1 in
      let z = on_no (ltb 0 (length (from_line t (line_count (said t))))) (plain more_bytes) (λ w. omega arith) q.1 in
      let each = of_each (line_test m t) 0 (line_count (said t)) q.0 in
      (ltb-false _ _ p.0, λ j h. each j (omega arith) h, length_none _ (ltb-false 0 _ z))

  module _ (h : length t ≤ m.text) where
    pub text_stops : (k : ℕ) → k < line_count (said t) → ((j : ℕ) → j < k → (line_test m t j).no ≡ 0)
        → ((line_test m t k).no ≡ 0 → ⊥) → (text_test m t).no ≡ (line_test m t k).no
    text_stops k l p s =
        let e = of_first (line_test m t) (line_count (said t)) k l p s in
        ap (λ x. x.no) (text_short h ∙ ap (λ x. x or_else more) e ∙ or_stop (line_test m t k) more s)

    module _ (p : (j : ℕ) → j < line_count (said t) → (line_test m t j).no ≡ 0) where
      text_left : text_test m t ≡ more
      text_left =
          text_short h ∙ or_fine along more (of_all (line_test m t) 0 (line_count (said t)) (λ j a b. p j b))

      pub text_passes : from_line t (line_count (said t)) ≡ [] → (text_test m t).no ≡ 0
      text_passes e = ap (λ x. x.no) text_left ∙ rw e

      pub text_more : ¬ (from_line t (line_count (said t)) ≡ []) → (text_test m t).no ≡ more_bytes
      text_more n = ap (λ x. x.no) text_left ∙ rw (lt-ltb 0 _ (none_length _ n))
