-- Lists of numbers.
--
-- Earlier     of two pairs of numbers, the first comes before the second: by its first number, then by its second
-- In          a number stands in a list
-- has         whether it does, by looking
-- Ascending   a list strictly ascends
-- occurs      how often a number stands in a list
-- least_of    the least number of a list; 0 of an empty one
-- over        numbers written over the beginning of others: the rest stays
use Rattle.std.specs.Prelude.{◌≡◌, ◌⊎◌, Bool, true, false, cond, List, [], ◌∷◌, ◌++◌, ℕ, suc, ◌<◌, min, eqb, length, drop}

abbrev pub Earlier : ℕ → ℕ → ℕ → ℕ → Type 0
Earlier j i p q = (j < p) ⊎ ((j ≡ p) × (i < q))

unfoldable pub In : ℕ → List ℕ → Type 0
In a [] = ⊥
In a (x ∷ l) = (a ≡ x) ⊎ In a l

unfoldable pub has : List ℕ → ℕ → Bool
has [] a = false
has (x ∷ l) a = cond (eqb x a) true (has l a)

unfoldable pub Ascending : List ℕ → Type 0
Ascending [] = Unit {0}
Ascending (x ∷ l) = ((y : ℕ) → In y l → x < y) × Ascending l

unfoldable pub occurs : ℕ → List ℕ → ℕ
occurs a [] = 0
occurs a (x ∷ l) = cond (eqb x a) (suc (occurs a l)) (occurs a l)

unfoldable pub least_of : List ℕ → ℕ
least_of [] = 0
least_of (x ∷ []) = x
least_of (x ∷ y ∷ l) = min x (least_of (y ∷ l))

abbrev pub over : List ℕ → List ℕ → List ℕ
over new old = new ++ drop (length new) old
