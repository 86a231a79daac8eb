-- The text of layers, as the house writes it: lines of a key and numbers, each ended by a newline. First the rank, then
-- for each rank how many elements it has and, on a line for each, what lies under them.
--
-- text_width   how many values a number of a text can have
-- newline, comma   two bytes
-- digit        a digit as a byte
-- spelled      a number in decimal, k digits at most: of a longer one the last k
-- numeral      a number in decimal: one digit or more, and no 0 in front of others
-- parted       numbers, each with a comma before it
-- commas       numbers parted by commas
-- Line         a line: its key and its numbers
-- line         a line of a key and numbers
-- line_bytes   a line as it is written
-- rank_key     `rank=`, the key of the first line
-- count_key    `count=`, that of a line that tells how many elements a rank has
-- subs_key     `subs=`, that of an element's line
-- lines_in     how many lines a rank has: one for its count, and one for each element
-- line_of      line i of those of rank r
-- rank_bytes   all lines of rank r as they are written
-- spot         the rank that line k + 1 belongs to, and its place there, of which place 0 is the count
-- line_at      line k of layers; line 0 is the rank
-- line_count   how many lines layers have
-- text_to      their first k lines
-- text_of      their text
use Rattle.std.specs.Prelude.{cond, List, [], ◌∷◌, ◌++◌, ℕ, zero, suc, ◌+◌, ◌/◌, ◌%◌, ltb}
use Rattle.order.specs.Sums.{sum, part_at}
use Rattle.listing.specs.Layers.{Layers}
use Rattle.listing.specs.Written.{joined}

abbrev pub text_width : ℕ
text_width = 65536

abbrev pub newline : ℕ
newline = 10

abbrev pub comma : ℕ
comma = 44

abbrev pub digit : ℕ → ℕ
digit n = 48 + n

unfoldable pub spelled : ℕ → ℕ → List ℕ
spelled zero n = []
spelled (suc k) n = cond (ltb n 10) (digit n ∷ []) (spelled k (n / 10) ++ (digit (n % 10) ∷ []))

unfoldable pub numeral : ℕ → List ℕ
numeral n = spelled (suc n) n

unfoldable pub parted : List ℕ → List ℕ
parted [] = []
parted (x ∷ l) = comma ∷ (numeral x ++ parted l)

unfoldable pub commas : List ℕ → List ℕ
commas [] = []
commas (x ∷ l) = numeral x ++ parted l

pub record Line : Type 0 where
  pub key : List ℕ
  pub numbers : List ℕ

abbrev pub line : List ℕ → List ℕ → Line
line k n = record { key = k; numbers = n }

unfoldable pub line_bytes : Line → List ℕ
line_bytes l = l.key ++ (commas l.numbers ++ (newline ∷ []))

abbrev pub rank_key : List ℕ
rank_key = 114 ∷ 97 ∷ 110 ∷ 107 ∷ 61 ∷ []

abbrev pub count_key : List ℕ
count_key = 99 ∷ 111 ∷ 117 ∷ 110 ∷ 116 ∷ 61 ∷ []

abbrev pub subs_key : List ℕ
subs_key = 115 ∷ 117 ∷ 98 ∷ 115 ∷ 61 ∷ []

abbrev pub lines_in : Layers → ℕ → ℕ
lines_in M r = suc (M.size r)

unfoldable pub line_of : Layers → ℕ × ℕ → Line
line_of M (r, zero) = line count_key (M.size r ∷ [])
line_of M (r, suc i) = line subs_key (M.under r i)

unfoldable pub rank_bytes : Layers → ℕ → List ℕ
rank_bytes M r = joined (λ i. line_bytes (line_of M (r, i))) (lines_in M r)

unfoldable pub spot : Layers → ℕ → ℕ × ℕ
spot M k = part_at (lines_in M) (suc M.top) k

unfoldable pub line_at : Layers → ℕ → Line
line_at M zero = line rank_key (M.top ∷ [])
line_at M (suc k) = line_of M (spot M k)

unfoldable pub line_count : Layers → ℕ
line_count M = suc (sum (lines_in M) (suc M.top))

unfoldable pub text_to : Layers → ℕ → List ℕ
text_to M k = joined (λ j. line_bytes (line_at M j)) k

abbrev pub text_of : Layers → List ℕ
text_of M = text_to M (line_count M)
