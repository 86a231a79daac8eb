-- The text in the quotes of a line: pieces, one after another.
--
-- onto       a byte before the first of some parts
-- parts      a text parted at each byte that is b, which belongs to no part
-- unescaped  the bytes that a piece stands for: a backslash (92) and the byte after it are a newline (10)
-- times_said  how often a piece stands there, by what follows it: so often as a number after a star (42) says, else once
-- copies     a list so many times
-- pieces     what parts stand for, two by two: a piece, and what follows it up to the next; one without its end is none
-- quoted_in   the text in the quotes (34) of a line
use Rattle.std.specs.Prelude.{cond, List, [], ◌∷◌, ◌++◌, ℕ, zero, suc, eqb, get_or, drop}
use Rattle.replay_reading.specs.Text.{largest, numbers_in}

unfoldable pub onto : ℕ → List (List ℕ) → List (List ℕ)
onto x [] = (x ∷ []) ∷ []
onto x (p ∷ l) = (x ∷ p) ∷ l

unfoldable pub parts : ℕ → List ℕ → List (List ℕ)
parts b [] = [] ∷ []
parts b (x ∷ t) = cond (eqb x b) ([] ∷ parts b t) (onto x (parts b t))

unfoldable pub unescaped : List ℕ → List ℕ
unescaped [] = []
unescaped (x ∷ []) = cond (eqb x 92) (10 ∷ []) (x ∷ [])
unescaped (x ∷ y ∷ t) = cond (eqb x 92) (10 ∷ unescaped t) (x ∷ unescaped (y ∷ t))

unfoldable pub times_said : List ℕ → ℕ
times_said [] = 1
times_said (x ∷ t) = cond (eqb x 42) (get_or (numbers_in largest t) 0 0) 1

unfoldable pub copies : ℕ → List ℕ → List ℕ
copies zero l = []
copies (suc n) l = l ++ copies n l

unfoldable pub pieces : List (List ℕ) → List ℕ
pieces [] = []
pieces (p ∷ []) = []
pieces (p ∷ s ∷ l) = copies (times_said s) (unescaped p) ++ pieces l

abbrev pub quoted_in : List ℕ → List ℕ
quoted_in t = pieces (drop 1 (parts 34 t))
