-- Answers that carry nothing. One whose number is 0: of a test, and of a row of tests, where only the last one matters.
-- Any one, where all tests of a row answer with a number alone.
-- Assumes nothing.
use mathlib.Core.Path.{◌≡◌, refl, ap, ◌∙◌}
use mathlib.Core.Logic.{◌↔◌, ◌⊎◌, inl, inr}
use mathlib.Core.Bool.{Bool, true, false}
use Prim.Native.Nat.{ℕ, zero, suc, ◌-◌}
use Rattle.listing.specs.declared.Answer.{Answer}
use Rattle.listing.specs.Answers.{plain, fine, on, ◌or_else◌, first_for, first_of}
use Rattle.listing.proofs.Answers.{or_fine, or_stop, no_of}
use Rattle.listing.proofs.Broken.{zero_or}

-- ---- an answer whose number is 0

abbrev pub Clear : Answer → Type 0
Clear a = a.no ≡ 0 → a ≡ fine

pub clear_exact : {a : Answer} → Clear a → a.no ≡ 0 ↔ a ≡ fine
clear_exact c = (c, λ e. ap (λ (x : Answer). x.no) e)

pub clear_or : (x : Answer) {y : Answer} → Clear y → Clear (x or_else y)
clear_or x {y} c z = go (zero_or x.no)
  where
    go : (x.no ≡ 0) ⊎ (x.no ≡ 0 → ⊥) → x or_else y ≡ fine
    go (inl e) = or_fine x y e ∙ c (no_of (or_fine x y e) z)
    go (inr s) = absurd (s (no_of (or_stop x y s) z))

pub clear_plain : (t : Bool) (n : ℕ) → Clear (on t (plain n))
clear_plain true n e = ap plain e
clear_plain false n e = refl

pub clear_on : (t : Bool) (a : Answer) → (a.no ≡ 0 → ⊥) → Clear (on t a)
clear_on true a h e = absurd (h e)
clear_on false a h e = refl

clear_for : (f : ℕ → Answer) (i k : ℕ) → Clear (first_for f i k)
unfolding first_for
clear_for f i zero = λ e. refl
clear_for f i (suc k) = clear_or (f i) (clear_for f (suc i) k)

pub clear_of : (f : ℕ → Answer) (i n : ℕ) → Clear (first_of f i n)
unfolding first_of
clear_of f i n = clear_for f i (n - i)

-- ---- an answer that is a number alone

abbrev pub Plain : Answer → Type 0
Plain a = a ≡ plain a.no

pub plain_on : (t : Bool) (n : ℕ) → Plain (on t (plain n))
plain_on true n = refl
plain_on false n = refl

pub plain_or : (x y : Answer) → Plain x → Plain y → Plain (x or_else y)
plain_or x y p q = go (zero_or x.no)
  where
    go : (x.no ≡ 0) ⊎ (x.no ≡ 0 → ⊥) → Plain (x or_else y)
    go (inl z) = rw (or_fine x y z) q
    go (inr s) = rw (or_stop x y s) p

module _ (f : ℕ → Answer) (p : (k : ℕ) → Plain (f k)) where
  plain_for : (i k : ℕ) → Plain (first_for f i k)
  unfolding first_for
  plain_for i zero = refl
  plain_for i (suc k) = plain_or (f i) _ (p i) (plain_for (suc i) k)

  pub plain_of : (i n : ℕ) → Plain (first_of f i n)
  unfolding first_of
  plain_of i n = plain_for i (n - i)
