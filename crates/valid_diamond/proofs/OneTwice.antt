-- A walk that meets one index twice and nothing else: how two lists of one number tell it, and that it passes.
-- Assumes nothing.
use mathlib.Core.Path.{◌≡◌, refl, sym, ap, ap₂, ◌∙◌}
use mathlib.Core.Bool.{Bool, true, false}
use mathlib.Core.List.{List, [], ◌∷◌, ◌++◌}
use Prim.Native.Nat.{ℕ, ◌+◌, ◌-◌, ◌*◌}
use native.Mathlib.Omega.{arith}
use borrow.Author.Tests.{eq-eqb, eqb-true}
use lib.Dec.{eqb}
use lib.ListN.{length, get_or}
use Rattle.order.specs.Lists.{occurs}
use Rattle.listing.specs.declared.Answer.{Answer}
use Rattle.listing.specs.Answers.{fine, on, ◌or_else◌}
use Rattle.listing.specs.Listing.{Listing, count, entries}
use Rattle.listing.proofs.Answers.{or_fine, of_fine}
use Rattle.valid_diamond.specs.Dyadic.{subs_of_all, walk, third_test, seen_after, lone_test, third, lone, sections_test}

-- ---- lists of one number, and of two

one_number : (l : List ℕ) → length l ≡ 1 → l ≡ get_or l 0 0 ∷ []
one_number [] h = absurd (omega arith)
one_number (x ∷ []) h = refl
one_number (x ∷ y ∷ l) h = absurd (omega arith)

two_numbers : (l : List ℕ) → length l ≡ 2 → l ≡ get_or l 0 0 ∷ get_or l 1 0 ∷ []
two_numbers [] h = absurd (omega arith)
two_numbers (x ∷ []) h = absurd (omega arith)
two_numbers (x ∷ y ∷ []) h = refl
two_numbers (x ∷ y ∷ z ∷ l) h = absurd (omega arith)

-- Two subs, with one sub each, the same.
module _ (ends inc : List ℕ) (b : ℕ) (l : List ℕ) {first second : List ℕ}
    (f : first ≡ entries ends inc (2 * (b + get_or l 0 0) + 0))
    (s : second ≡ entries ends inc (2 * (b + get_or l 1 0) + 0))
    (two : length l ≡ 2) (one : length first ≡ 1) (other : length second ≡ 1) where
  pub one_twice : eqb (get_or first 0 0) (get_or second 0 0) ≡ true
      → (x : ℕ) × (subs_of_all ends inc b l ≡ x ∷ x ∷ [])
  unfolding subs_of_all
  one_twice same =
      let e = eqb-true _ _ same in
      let x = sym f ∙ one_number first one in
      let y = sym s ∙ one_number second other ∙ ap (λ (n : ℕ). n ∷ []) (sym e) in
      (_, ap (subs_of_all ends inc b) (two_numbers l two) ∙ ap₂ (λ (p q : List ℕ). p ++ (q ++ [])) x y)

-- ---- it passes

module _ (x : ℕ) where
  third_passes : (f : ℕ → Answer) → third_test f [] (x ∷ x ∷ []) ≡ fine
  unfolding third_test occurs ◌or_else◌
  third_passes f = rw (eq-eqb x x refl) refl

  -- every index was met twice or not at all
  never_once : (y : ℕ) → eqb (occurs y (x ∷ x ∷ [])) 1 ≡ false
  unfolding occurs
  never_once y = go (eqb x y) refl
    where
      go : (t : Bool) → eqb x y ≡ t → eqb (occurs y (x ∷ x ∷ [])) 1 ≡ false
      go true e = rw e refl
      go false e = rw e refl

  lone_passes : (f : ℕ → Answer) (n : ℕ) → lone_test f (x ∷ x ∷ []) n ≡ fine
  unfolding lone_test
  lone_passes f n = of_fine _ (λ y. ap (λ (t : Bool). on t (f y)) (never_once y)) 0 n

  pub pair_passes : (L : Listing) (r i : ℕ) → walk L r i ≡ x ∷ x ∷ [] → sections_test L r i ≡ fine
  unfolding sections_test seen_after
  pair_passes L r i e =
      rw (e, third_passes (third r i)) (or_fine fine _ refl ∙ lone_passes (lone r i) (count L (r - 2)))
