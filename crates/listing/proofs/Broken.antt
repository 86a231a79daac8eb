-- The first rule that is broken, along a row of answers.
-- Assumes nothing.
use mathlib.Core.Path.{◌≡◌, refl, ap}
use mathlib.Core.Logic.{◌↔◌, ◌⊎◌, inl, inr}
use mathlib.Core.Bool.{Bool, true, false, true≢false, not}
use mathlib.Core.List.{List, [], ◌∷◌}
use Prim.Native.Nat.{ℕ, zero, suc, ◌≤◌, ◌<◌}
use native.Mathlib.Omega.{arith}
use borrow.Author.Tests.{le-ltb, ltb-false, not-false}
use lib.Dec.{ltb}
use Rattle.listing.specs.declared.Answer.{Answer}
use Rattle.listing.specs.Answers.{plain, on, ◌or_else◌}
use Rattle.listing.proofs.Answers.{or_fine, or_stop, or_assoc}
use Rattle.listing.specs.Rules.{Rule, rules, FirstBroken}

-- ---- a test that answers 0 exactly if a rule holds, and else one of the rule's numbers

pub record Tests (low high : ℕ) (P : Type 0) (t : Answer) : Type 0 where
  pub exact : t.no ≡ 0 ↔ P
  pub numbers : (t.no ≡ 0 → ⊥) → (low ≤ t.no) × (t.no ≤ high)

pub zero_or : (n : ℕ) → (n ≡ 0) ⊎ (n ≡ 0 → ⊥)
zero_or zero = inl refl
zero_or (suc n) = inr (λ e. omega arith)

-- the last rule of a row
pub broken_last : {low high : ℕ} {P : Type 0} {t : Answer} → Tests low high P t
    → FirstBroken (rules low high P ∷ []) t.no
unfolding FirstBroken
broken_last {low} {high} {P} {t} T = go (zero_or t.no)
  where
    go : (t.no ≡ 0) ⊎ (t.no ≡ 0 → ⊥) → FirstBroken (rules low high P ∷ []) t.no
    go (inl z) = inr (T.exact.0 z, z)
    go (inr s) = let n = T.numbers s in inl (λ p. s (T.exact.1 p), n.0, n.1)

module _ (l : List Rule) {low high : ℕ} {P : Type 0} {t : Answer} (T : Tests low high P t) (y : Answer) where
  -- a rule before others
  pub broken_step : (P → FirstBroken l y.no) → FirstBroken (rules low high P ∷ l) (t or_else y).no
  unfolding FirstBroken
  broken_step r = go (zero_or t.no)
    where
      go : (t.no ≡ 0) ⊎ (t.no ≡ 0 → ⊥) → FirstBroken (rules low high P ∷ l) (t or_else y).no
      go (inl z) = rw (or_fine t y z) (inr (T.exact.0 z, r (T.exact.0 z)))
      go (inr s) = let n = T.numbers s in rw (or_stop t y s) (inl (λ p. s (T.exact.1 p), n.0, n.1))

-- the same where more follows after a part of the row
pub broken_inner : (l : List Rule) {low high : ℕ} {P : Type 0} {t : Answer} → Tests low high P t → (y z : Answer)
    → (P → FirstBroken l (y or_else z).no) → FirstBroken (rules low high P ∷ l) ((t or_else y) or_else z).no
broken_inner l {t = t} T y z r = rw (← or_assoc t y z) (broken_step l T (y or_else z) r)

-- ---- one number

pub tests_on : {P : Type 0} (b : Bool) (n : ℕ) → 0 < n → (b ≡ false → P) → (P → b ≡ false)
    → Tests n n P (on b (plain n))
tests_on {P} true n h there back = record {
  exact = (λ e. absurd (omega arith), λ p. absurd (true≢false (back p)));
  numbers = λ s. (omega arith, omega arith);
}
tests_on {P} false n h there back = record {
  exact = (λ e. there refl, λ p. refl);
  numbers = λ s. absurd (s refl);
}

-- what must not be true, and what must not be more
pub tests_not : {P : Type 0} (b : Bool) (n : ℕ) → 0 < n → (b ≡ true → P) → (P → b ≡ true)
    → Tests n n P (on (not b) (plain n))
tests_not b n h there back = tests_on (not b) n h (λ e. there (not-false b e)) (λ p. ap not (back p))

pub tests_over : (n : ℕ) → 0 < n → (a b : ℕ) → Tests n n (b ≤ a) (on (ltb a b) (plain n))
tests_over n h a b = tests_on (ltb a b) n h (ltb-false a b) (le-ltb a b)
