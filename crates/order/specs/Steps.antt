-- Single changes, and what steps reach.
--
-- ChangedAt   two lists differ at one place exactly
-- Reach       what steps lead to, from a start
use Rattle.std.specs.Prelude.{◌≢◌, List, ◌∷◌, ℕ, zero, suc}

pub data ChangedAt {E : Type 0} : ℕ → List E → List E → Type 0 where
  here : {x y : E} {l : List E} → x ≢ y → ChangedAt zero (x ∷ l) (y ∷ l)
  there : {x : E} {l m : List E} {r : ℕ} → ChangedAt r l m → ChangedAt (suc r) (x ∷ l) (x ∷ m)

pub data Reach {A : Type 0} (R : A → A → Type 0) (a : A) : A → Type 0 where
  start : Reach R a a
  next : {x y : A} → Reach R a x → R x y → Reach R a y
