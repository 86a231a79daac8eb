-- Integers of the things of a list, added up, term by term.
-- Assumes nothing.
use mathlib.Core.Path.{◌≡◌, refl, sym, ap₂}
use mathlib.Core.List.{List, [], ◌∷◌, Memᴰ}
use lib.IntN.{ℤ, pos, neg_ℤ, ◌+ℤ◌, +ℤ_assoc, +ℤ_comm, neg_ℤ-+ℤ}
use Rattle.order.specs.Sums.{add_up}
use Rattle.order.proofs.Integers.{+ℤ-left}

module _ {A : Type 0} where
  pub add_up_none : (f : A → ℤ) → add_up f [] ≡ pos 0
  unfolding add_up
  add_up_none f = refl

  pub add_up_first : (f : A → ℤ) (x : A) (l : List A) → add_up f (x ∷ l) ≡ f x +ℤ add_up f l
  unfolding add_up
  add_up_first f x l = refl

  -- equal terms
  pub add_up_same : (f g : A → ℤ) (l : List A) → ((x : A) → Memᴰ x l → f x ≡ g x) → add_up f l ≡ add_up g l
  unfolding add_up
  add_up_same f g [] e = refl
  add_up_same f g (x ∷ l) e =
      ap₂ ◌+ℤ◌ (e x (Memᴰ.head refl)) (add_up_same f g l (λ y m. e y (Memᴰ.tail m)))

  -- the sums of two functions together
  pub add_up_plus : (f g : A → ℤ) (l : List A) → add_up (λ x. f x +ℤ g x) l ≡ add_up f l +ℤ add_up g l
  unfolding add_up
  add_up_plus f g [] = refl
  add_up_plus f g (x ∷ l) = rw (add_up_plus f g l) (simp (+ℤ_assoc, +ℤ_comm, +ℤ-left))

  -- all terms negated
  pub add_up_neg : (f : A → ℤ) (l : List A) → add_up (λ x. neg_ℤ (f x)) l ≡ neg_ℤ (add_up f l)
  unfolding add_up
  add_up_neg f [] = refl
  add_up_neg f (x ∷ l) = rw (add_up_neg f l) (sym (neg_ℤ-+ℤ (f x) (add_up f l)))
