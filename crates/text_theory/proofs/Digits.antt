-- The digits that a text begins with: how they go on, also from a place of the text on, and what they tell.
-- Assumes nothing.
use mathlib.Core.Path.{◌≡◌, refl, sym, ap, ◌∙◌}
use mathlib.Core.Bool.{Bool, true, false, cond}
use mathlib.Core.List.{List, [], ◌∷◌, ◌++◌, tail-eq_of_cons-eq}
use Prim.Native.Nat.{ℕ, suc, ◌+◌, ◌-◌, ◌*◌, ◌≤◌, ◌<◌}
use native.Mathlib.Numerals.{add-one}
use native.Mathlib.Omega.{arith}
use borrow.Author.Tests.{le-leb, leb-true}
use lib.Dec.{leb}
use lib.ListN.{length, get_or, drop, get_or-append, drop_of_length-le}
use lib.Seq.{drop-cons}
use Rattle.order.proofs.Tests.{and_true}
use Rattle.text_theory.specs.Text.{digit}
use Rattle.text_theory.specs.Digits.{is_digit, digits_in, valued}

-- ---- the digits that a text begins with

pub digit_is : (n : ℕ) → n < 10 → is_digit (digit n) ≡ true
unfolding is_digit
digit_is n h = rw (le-leb 48 (digit n) (omega arith), le-leb (digit n) 57 (omega arith))

pub digit_range : (x : ℕ) → is_digit x ≡ true → (48 ≤ x) × (x ≤ 57)
unfolding is_digit
digit_range x e = let p = and_true (leb 48 x) (leb x 57) e in (leb-true 48 x p.0, leb-true x 57 p.1)

pub digits_more : (x : ℕ) (t : List ℕ) → is_digit x ≡ true → digits_in (x ∷ t) ≡ x ∷ digits_in t
unfolding digits_in
digits_more x t e = rw e

pub digits_none : (x : ℕ) (t : List ℕ) → is_digit x ≡ false → digits_in (x ∷ t) ≡ []
unfolding digits_in
digits_none x t e = rw e

-- digits begin with a digit, and digits follow it
pub digits_each : (x : ℕ) (d : List ℕ) → x ∷ d ≡ digits_in (x ∷ d) → (is_digit x ≡ true) × (d ≡ digits_in d)
digits_each x d e = go (is_digit x) refl
  where
    go : (q : Bool) → is_digit x ≡ q → (is_digit x ≡ true) × (d ≡ digits_in d)
    go true p = (p, tail-eq_of_cons-eq (e ∙ digits_more x d p))
    go false p = absurd (omega (arith, ap length (e ∙ digits_none x d p)))

pub digits_append : (d t : List ℕ) → d ≡ digits_in d → digits_in (d ++ t) ≡ d ++ digits_in t
digits_append [] t e = refl
digits_append (x ∷ d) t e =
    let p = digits_each x d e in
    digits_more x (d ++ t) p.0 ∙ ap (λ (s : List ℕ). x ∷ s) (digits_append d t p.1)

pub digits_again : (t : List ℕ) → digits_in t ≡ digits_in (digits_in t)
unfolding digits_in
digits_again [] = refl
digits_again (x ∷ t) = go (is_digit x) refl (digits_again t)
  where
    go : (q : Bool) → is_digit x ≡ q → digits_in t ≡ digits_in (digits_in t)
        → cond q (x ∷ digits_in t) [] ≡ digits_in (cond q (x ∷ digits_in t) [])
    go true p e = rw p (ap (λ (s : List ℕ). x ∷ s) e)
    go false p e = refl

pub digits_split : (t : List ℕ) → t ≡ digits_in t ++ drop (length (digits_in t)) t
unfolding digits_in
digits_split [] = refl
digits_split (x ∷ t) = go (is_digit x) (digits_split t)
  where
    go : (q : Bool) → t ≡ digits_in t ++ drop (length (digits_in t)) t
        → x ∷ t ≡ cond q (x ∷ digits_in t) [] ++ drop (length (cond q (x ∷ digits_in t) [])) (x ∷ t)
    go true e = ap (λ (s : List ℕ). x ∷ s) e
    go false e = refl

-- digits begin as their text
pub digits_front : (t : List ℕ) → 0 < length (digits_in t) → get_or (digits_in t) 0 0 ≡ get_or t 0 0
digits_front t h =
    sym (get_or-append (digits_in t) (drop (length (digits_in t)) t) 0 0 h)
    ∙ ap (λ (s : List ℕ). get_or s 0 0) (sym (digits_split t))

-- ---- the digits from place i on, one at a time

module _ (t : List ℕ) (i : ℕ) where
  pub digits_step : i < length t → is_digit (get_or t i 0) ≡ true
      → digits_in (drop i t) ≡ get_or t i 0 ∷ digits_in (drop (i + 1) t)
  digits_step h e = rw (add-one, drop-cons t i 0 h) (digits_more (get_or t i 0) (drop (suc i) t) e)

  pub digits_stop : i < length t → is_digit (get_or t i 0) ≡ false → digits_in (drop i t) ≡ []
  digits_stop h e = rw (drop-cons t i 0 h) (digits_none (get_or t i 0) (drop (suc i) t) e)

  pub digits_end : length t ≤ i → digits_in (drop i t) ≡ []
  unfolding digits_in
  digits_end h = rw (drop_of_length-le t h)

-- ---- what digits tell

pub valued_more : (v : ℕ) (l : List ℕ) (x : ℕ) → valued v (l ++ (x ∷ [])) ≡ 10 * valued v l + (x - 48)
unfolding valued
valued_more v [] x = refl
valued_more v (y ∷ l) x = valued_more (10 * v + (y - 48)) l x

pub valued_le : (v : ℕ) (l : List ℕ) → v ≤ valued v l
unfolding valued
valued_le v [] = omega arith
valued_le v (x ∷ l) = omega (arith, valued_le (10 * v + (x - 48)) l)
