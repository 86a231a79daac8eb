-- What steps reach: ways follow one another, turn back, keep what each step keeps, and are carried along a map.
-- Assumes nothing.
use mathlib.Core.Path.{◌≡◌, subst}
use Rattle.order.specs.Steps.{Reach, start, next}

module _ {A : Type 0} {R : A → A → Type 0} where
  pub Reach-then : {a b c : A} → Reach R a b → Reach R b c → Reach R a c
  Reach-then p start = p
  Reach-then p (next q r) = next (Reach-then p q) r

  pub Reach-same : {a b : A} → a ≡ b → Reach R a b
  Reach-same {a} e = subst (Reach R a) e start

  module _ {P : A → Type 0} (keep : (x y : A) → R x y → P y) {a : A} (p : P a) where
    reach_has : {b : A} → Reach R a b → P b
    reach_has start = p
    reach_has (next q r) = keep _ _ r

    -- Each step begins at something with P.
    pub Reach-kept : {b : A} → Reach R a b → Reach (λ x y. P x × R x y) a b
    Reach-kept start = start
    Reach-kept (next q r) = next (Reach-kept q) (reach_has q, r)

-- A way back, where each step can be undone.
pub Reach-back : {A : Type 0} {R S : A → A → Type 0} → ((x y : A) → R x y → S y x) → {a b : A} → Reach R a b
    → Reach S b a
Reach-back undo start = start
Reach-back undo (next q r) = Reach-then (next start (undo _ _ r)) (Reach-back undo q)

module _ {A B : Type 0} {R : A → A → Type 0} {S : B → B → Type 0} (f : A → B) where
  pub Reach-bind : ((x y : A) → R x y → Reach S (f x) (f y)) → {a b : A} → Reach R a b → Reach S (f a) (f b)
  Reach-bind go start = start
  Reach-bind go (next q r) = Reach-then (Reach-bind go q) (go _ _ r)

  pub Reach-map : ((x y : A) → R x y → S (f x) (f y)) → {a b : A} → Reach R a b → Reach S (f a) (f b)
  Reach-map go q = Reach-bind (λ x y r. next start (go x y r)) q
