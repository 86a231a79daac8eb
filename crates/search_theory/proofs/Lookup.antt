-- The index at which a thing stands. Where nothing stands twice it is the only one, so that any faster way finds it.
-- Assumes nothing.
use mathlib.Core.Path.{◌≡◌, refl, sym, ap, ◌∙◌}
use mathlib.Core.Logic.{◌≢◌, ◌⊎◌, inl, inr, ⊎_elim}
use mathlib.Core.Bool.{Bool, true, false, true≢false}
use mathlib.Core.List.Memᴰ
use mathlib.Core.List.{List, [], ◌∷◌, Memᴰ}
use Prim.Native.Nat.{ℕ, zero, suc, ◌<◌}
use native.Mathlib.Omega.{arith}
use lib.ListN.{length, get_or}
use Rattle.search_theory.specs.Search.{index_in, Decides, Once}
use Rattle.search_theory.proofs.Once.{mem_at}

module _ {A : Type 0} (same : A → A → Bool) where
  index_here : (x y : A) (l : List A) → same x y ≡ true → index_in same (x ∷ l) y ≡ 0
  unfolding index_in
  index_here x y l e = rw e

  index_later : (x y : A) (l : List A) → same x y ≡ false → index_in same (x ∷ l) y ≡ suc (index_in same l y)
  unfolding index_in
  index_later x y l e = rw e

  -- a list that has the thing nowhere
  pub index_none : (l : List A) (d y : A) → ((k : ℕ) → k < length l → same (get_or l k d) y ≡ false)
      → index_in same l y ≡ length l
  unfolding index_in
  index_none [] d y h = refl
  index_none (x ∷ l) d y h =
      index_later x y l (h 0 (omega arith)) ∙ ap suc (index_none l d y (λ k m. h (suc k) (omega arith)))

module _ {A : Type 0} (same : A → A → Bool) (decides : Decides same) where
  -- what a test of two things says
  abbrev Tested : A → A → Type 0
  Tested x y = ((same x y ≡ true) × (x ≡ y)) ⊎ ((same x y ≡ false) × (x ≢ y))

  tested : (x y : A) → Tested x y
  tested x y = go (same x y) refl
    where
      go : (b : Bool) → same x y ≡ b → Tested x y
      go true e = inl (e, (decides x y).0 e)
      go false e = inr (e, λ q. true≢false (sym ((decides x y).1 q) ∙ e))

  pub differs : (x y : A) → x ≢ y → same x y ≡ false
  differs x y d = ⊎_elim (λ t. absurd (d t.1)) (λ t. t.0) (tested x y)

  -- the thing stands at an index below the length
  pub index_at : (l : List A) (d y : A) → index_in same l y < length l → get_or l (index_in same l y) d ≡ y
  unfolding index_in
  index_at [] d y h = absurd (omega arith)
  index_at (x ∷ l) d y h = go (tested x y) (index_at l d y)
    where
      go : Tested x y → (index_in same l y < length l → get_or l (index_in same l y) d ≡ y)
          → get_or (x ∷ l) (index_in same (x ∷ l) y) d ≡ y
      go (inl t) ih = rw t.0 t.1
      go (inr t) ih = rw t.0 (ih (omega (arith, index_later same x y l t.0)))

  pub index_in_lem : (l : List A) (y : A) → Memᴰ y l → index_in same l y < length l
  unfolding index_in
  index_in_lem l y h = go l h
    where
      later : (x : A) (m : List A) → Tested x y → index_in same m y < length m
          → index_in same (x ∷ m) y < suc (length m)
      later x m (inl t) ih = omega (arith, index_here same x y m t.0)
      later x m (inr t) ih = omega (arith, index_later same x y m t.0)

      go : (l : List A) → Memᴰ y l → index_in same l y < length l
      go l (Memᴰ.head {x = x} {xs = m} e) = omega (arith, index_here same x y m ((decides x y).1 (sym e)))
      go l (Memᴰ.tail {x = x} {xs = m} h) = later x m (tested x y) (go m h)

  -- any index at which the thing stands is the first
  pub index_only : (l : List A) (d y : A) (k : ℕ) → Once l → k < length l → same (get_or l k d) y ≡ true
      → index_in same l y ≡ k
  unfolding Once
  index_only [] d y k o h e = absurd (omega arith)
  index_only (x ∷ l) d y zero o h e = index_here same x y l e
  index_only (x ∷ l) d y (suc k) o h e = go (tested x y) (index_only l d y k o.1 (omega arith) e)
    where
      go : Tested x y → index_in same l y ≡ k → index_in same (x ∷ l) y ≡ suc k
      go (inl t) i = absurd (o.0 (Memᴰ.cast (t.1 ∙ sym ((decides (get_or l k d) y).0 e)) (mem_at l d k (omega arith))))
      go (inr t) i = index_later same x y l t.0 ∙ ap suc i
