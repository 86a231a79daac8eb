-- Numbers as the bytes of a text tell them: for code that reads from left to right.
--
-- is_digit    whether a byte is a digit
-- digits_in   the digits that a text begins with
-- valued      the number that digits tell when they go on from v
-- Numeral     digits that are a number as it is written, one that a text can have
-- good_row    whether a text goes on with these numbers up to a newline, and a text can have them: what follows a key
use Rattle.std.specs.Prelude.{◌≡◌, Bool, cond, ◌&&◌, List, [], ◌∷◌, ◌++◌, ℕ, ◌+◌, ◌-◌, ◌*◌, ◌<◌, leb}
use Rattle.text_theory.specs.Text.{text_width, newline, numeral, commas}
use Rattle.text_theory.specs.Said.{begins, numbers_fit}

unfoldable pub is_digit : ℕ → Bool
is_digit b = leb 48 b && leb b 57

unfoldable pub digits_in : List ℕ → List ℕ
digits_in [] = []
digits_in (x ∷ t) = cond (is_digit x) (x ∷ digits_in t) []

unfoldable pub valued : ℕ → List ℕ → ℕ
valued v [] = v
valued v (x ∷ l) = valued (10 * v + (x - 48)) l

abbrev pub Numeral : List ℕ → Type 0
Numeral d = (d ≡ numeral (valued 0 d)) × (valued 0 d < text_width)

unfoldable pub good_row : List ℕ → List ℕ → Bool
good_row ns t = begins (commas ns ++ (newline ∷ [])) t && numbers_fit ns
