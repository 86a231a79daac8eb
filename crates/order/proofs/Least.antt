-- The least number of a list: it stands there, none is less, and it is the only one of which that holds.
-- Assumes nothing.
use mathlib.Core.Path.{◌≡◌, refl, sym, subst}
use mathlib.Core.Logic.{◌⊎◌, inl, inr}
use mathlib.Core.List.{List, [], ◌∷◌}
use Prim.Native.Nat.{ℕ, ◌≤◌, ◌<◌, min}
use native.Mathlib.Decide.{dec_lt}
use native.Mathlib.Omega.{arith}
use lib.ListN.{length, get_or}
use Rattle.order.specs.Lists.{In, Ascending, least_of}

pub least_le : (l : List ℕ) (x : ℕ) → In x l → least_of l ≤ x
unfolding In least_of
least_le [] x m = absurd m
least_le (y ∷ []) x (inl e) = omega arith
least_le (y ∷ []) x (inr m) = absurd m
least_le (y ∷ z ∷ l) x (inl e) = omega arith
least_le (y ∷ z ∷ l) x (inr m) = omega (arith, least_le (z ∷ l) x m)

pub least_in : (l : List ℕ) (x : ℕ) → In x l → In (least_of l) l
unfolding In least_of
least_in [] x m = absurd m
least_in (y ∷ []) x m = inl refl
least_in (y ∷ z ∷ l) x m = go (dec_lt y (least_of (z ∷ l))) (least_in (z ∷ l) z (inl refl))
  where
    go : Dec (y < least_of (z ∷ l)) → In (least_of (z ∷ l)) (z ∷ l)
        → (min y (least_of (z ∷ l)) ≡ y) ⊎ In (min y (least_of (z ∷ l))) (z ∷ l)
    go (yes h) i = inl (omega arith)
    go (no h) i = let e : min y (least_of (z ∷ l)) ≡ least_of (z ∷ l) = omega arith in
        let P : ℕ → Type 0 = λ v. In v (z ∷ l) in inr (subst P (sym e) i)

pub least_only : (l : List ℕ) (x : ℕ) → In x l → ((y : ℕ) → In y l → x ≤ y) → x ≡ least_of l
least_only l x m h = omega (arith, least_le l x m, h (least_of l) (least_in l x m))

-- the first number of an ascending list is its least
pub least_first : (l : List ℕ) → Ascending l → 0 < length l → get_or l 0 0 ≡ least_of l
unfolding In Ascending
least_first [] a h = absurd (omega arith)
least_first (x ∷ l) a h = least_only (x ∷ l) x (inl refl) (λ y m. go y m)
  where
    go : (y : ℕ) → (y ≡ x) ⊎ In y l → x ≤ y
    go y (inl e) = omega arith
    go y (inr m) = omega (arith, a.0 y m)
