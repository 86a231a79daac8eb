-- Lists that hold each number once, and what a test keeps of a list.
-- Assumes nothing.
use mathlib.Core.Path.{◌≡◌, refl, sym, ap, ◌∙◌}
use mathlib.Core.Logic.{◌↔◌, ◌⊎◌, inl, inr, ⊎_elim}
use mathlib.Core.Bool.{Bool, true, false, true≢false, cond}
use mathlib.Core.List.{List, [], ◌∷◌}
use Prim.Native.Nat.{ℕ, ◌≤◌}
use native.Mathlib.Omega.{arith}
use Rattle.order.specs.Lists.{In, occurs}
use Rattle.order.proofs.Lists.{occurs_some, occurs_cons, occurs_own}

-- no number more than once
abbrev pub Once : List ℕ → Type 0
Once l = (x : ℕ) → occurs x l ≤ 1

pub once_tail : (y : ℕ) (l : List ℕ) → Once (y ∷ l) → Once l
once_tail y l h x = omega (arith, h x, occurs_cons x y l)

-- the head does not come again
pub once_head : (x : ℕ) (l : List ℕ) → Once (x ∷ l) → ¬ In x l
once_head x l h m = omega (arith, h x, occurs_cons x x l, occurs_own x, (occurs_some x l).1 m)

-- ---- what a test keeps

module _ (P : ℕ → Bool) where
  unfoldable pub keep : List ℕ → List ℕ
  keep [] = []
  keep (x ∷ l) = cond (P x) (x ∷ keep l) (keep l)

  pub in_keep : (s : ℕ) (l : List ℕ) → In s (keep l) ↔ (In s l × (P s ≡ true))
  unfolding keep In
  in_keep s [] = (λ m. absurd m, λ p. p.0)
  in_keep s (x ∷ l) = go (P x) refl (in_keep s l)
    where
      go : (b : Bool) → P x ≡ b → In s (keep l) ↔ (In s l × (P s ≡ true))
          → In s (cond (P x) (x ∷ keep l) (keep l)) ↔ (((s ≡ x) ⊎ In s l) × (P s ≡ true))
      go true e ih =
          rw e (
            ⊎_elim (λ q. (inl q, rw q e)) (λ m. let p = ih.0 m in (inr p.0, p.1)),
            λ p. ⊎_elim (λ q. inl q) (λ m. inr (ih.1 (m, p.1))) p.0,
          )
      go false e ih =
          rw e (
            λ m. let p = ih.0 m in (inr p.0, p.1),
            λ p. ⊎_elim (λ q. absurd (true≢false (sym p.1 ∙ ap P q ∙ e))) (λ m. ih.1 (m, p.1)) p.0,
          )

  occurs_keep : (s : ℕ) (l : List ℕ) → occurs s (keep l) ≤ occurs s l
  unfolding keep
  occurs_keep s [] = omega arith
  occurs_keep s (x ∷ l) = go (P x) refl (occurs_keep s l)
    where
      go : (b : Bool) → P x ≡ b → occurs s (keep l) ≤ occurs s l
          → occurs s (cond (P x) (x ∷ keep l) (keep l)) ≤ occurs s (x ∷ l)
      go true e ih = rw e (omega (arith, occurs_cons s x l, occurs_cons s x (keep l)))
      go false e ih = rw e (omega (arith, occurs_cons s x l))

  pub once_keep : (l : List ℕ) → Once l → Once (keep l)
  once_keep l h x = omega (arith, h x, occurs_keep x l)
