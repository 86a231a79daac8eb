-- Flags in a table, w numbers a row.
--
-- row_of      the kth row
-- rows        the first n rows
-- same_list   whether two lists are equal, by looking
-- flatten     the lists of a list, one after another: flags in a table
use Rattle.std.specs.Prelude.{Bool, true, false, ◌&&◌, List, [], ◌∷◌, ◌++◌, ℕ, zero, suc, ◌*◌, eqb, take, drop}

unfoldable pub row_of : ℕ → List ℕ → ℕ → List ℕ
row_of w table k = take w (drop (k * w) table)

unfoldable pub rows : ℕ → List ℕ → ℕ → List (List ℕ)
rows w table zero = []
rows w table (suc n) = rows w table n ++ (row_of w table n ∷ [])

unfoldable pub same_list : List ℕ → List ℕ → Bool
same_list [] [] = true
same_list [] (y ∷ m) = false
same_list (x ∷ l) [] = false
same_list (x ∷ l) (y ∷ m) = eqb x y && same_list l m

unfoldable pub flatten : List (List ℕ) → List ℕ
flatten [] = []
flatten (f ∷ l) = f ++ flatten l
