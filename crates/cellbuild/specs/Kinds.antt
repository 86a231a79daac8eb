-- Which product is asked for, by its name.
--
-- kind         a product: whether it leaves out minimal and maximal elements
-- duopyramid, duoprism, duotegum, duocomb   the four names, as bytes
-- is_word       whether a name is a word, byte by byte
-- kind_of       the product of a name: the duoprism and the duocomb leave out minimal elements, the duotegum and the
--              duocomb maximal ones; none where no product is called so
use Rattle.std.specs.Prelude.{Bool, true, false, cond, List, [], ◌∷◌, ℕ, nat_eq, Option, Some, None}
use Rattle.std.specs.Cmp.Lexicographic.{pointwise}
use Rattle.product_places.specs.declared.Poles.{Poles}

abbrev pub kind : Bool → Bool → Option Poles
kind min max = Some (record { min = min; max = max })

abbrev pub duopyramid : List ℕ
duopyramid = 100 ∷ 117 ∷ 111 ∷ 112 ∷ 121 ∷ 114 ∷ 97 ∷ 109 ∷ 105 ∷ 100 ∷ []

abbrev pub duoprism : List ℕ
duoprism = 100 ∷ 117 ∷ 111 ∷ 112 ∷ 114 ∷ 105 ∷ 115 ∷ 109 ∷ []

abbrev pub duotegum : List ℕ
duotegum = 100 ∷ 117 ∷ 111 ∷ 116 ∷ 101 ∷ 103 ∷ 117 ∷ 109 ∷ []

abbrev pub duocomb : List ℕ
duocomb = 100 ∷ 117 ∷ 111 ∷ 99 ∷ 111 ∷ 109 ∷ 98 ∷ []

abbrev pub is_word : List ℕ → List ℕ → Bool
is_word name word = pointwise nat_eq name word

unfoldable pub kind_of : List ℕ → Option Poles
kind_of name =
    cond (is_word name duopyramid) (kind false false)
    (cond (is_word name duoprism) (kind true false)
    (cond (is_word name duotegum) (kind false true)
    (cond (is_word name duocomb) (kind true true) None)))
