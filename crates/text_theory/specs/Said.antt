-- What a text says, and what is refused of it. The numbers of its lines are taken as they stand, whatever the lines
-- are; whether the lines are good is asked of the writer: each must be the line that layers with these numbers have
-- there.
--
-- after_line      what follows the first newline
-- from_line       what is left of a text from line k on
-- values_from     the numbers up to a newline or the end, parted by commas; the first goes on from v; every other byte
--                 counts as a digit, less 48 and not below 0
-- values          the same, but none where nothing stands before the newline
-- value           the first of them, 0 where nothing stands
-- count_at        the number that line k of a text has after the key of a count
-- count_line      which line has the count of rank r, if the counts of the lower ranks are where they should be
-- said            the layers that a text says
-- listing_in      the listing that it says, with derived sups
-- begins          whether a text begins with some bytes
-- numbers_fit     whether a text can have these numbers
-- form_test       40, 41: whether a text goes on with a line
-- below_in        how many numbers of a list are below n
-- size_below      the elements of the rank below a rank; none below rank 0
-- incidences_of   the incidences that an element brings: its subs, and a sup for each of them that exists
-- incidences_to   those of all elements before element i of rank r
-- Bound           an amount, the most that it may be, and the number that refuses more
-- bound_of        what is bounded at a line of rank r: at its count the elements so far, at an element the incidences
-- bound_at        the same at line k; at line 0 the ranks
-- bound_test      2, 3, 5: whether it is too much
-- line_test       what is asked of line k of a text
-- text_test       the refusals of a text in their order: 42, those of its lines, 43. Whether there is room, 36, is asked
--                 of the slices after them
use Rattle.std.specs.Prelude.{Bool, true, false, cond, not, ◌&&◌, List, [], ◌∷◌, ℕ, zero, suc, ◌+◌, ◌-◌, ◌*◌, leb, ltb, eqb, length, get_or, drop}
use Rattle.order.specs.Sums.{sum}
use Rattle.listing.specs.declared.Answer.{Answer}
use Rattle.listing.specs.Refusals.{over_ranks, over_elements, over_incidences, wrong_key, bad_line, long_text, more_bytes}
use Rattle.listing.specs.Answers.{plain, on, ◌or_else◌, first_of}
use Rattle.listing.specs.Listing.{Listing, Limits}
use Rattle.listing.specs.Layers.{Layers, derived}
use Rattle.listing.specs.Written.{written}
use Rattle.text_theory.specs.Text.{text_width, newline, comma, Line, line_bytes, rank_key, count_key, subs_key}
use Rattle.text_theory.specs.Text.{spot, line_at, line_count}

unfoldable pub after_line : List ℕ → List ℕ
after_line [] = []
after_line (x ∷ t) = cond (eqb x newline) t (after_line t)

unfoldable pub from_line : List ℕ → ℕ → List ℕ
from_line t zero = t
from_line t (suc k) = after_line (from_line t k)

unfoldable pub values_from : ℕ → List ℕ → List ℕ
values_from v [] = v ∷ []
values_from v (x ∷ t) =
    cond (eqb x newline) (v ∷ [])
    (cond (eqb x comma) (v ∷ values_from 0 t) (values_from (10 * v + (x - 48)) t))

unfoldable pub values : List ℕ → List ℕ
values [] = []
values (x ∷ t) = cond (eqb x newline) [] (values_from 0 (x ∷ t))

abbrev pub value : List ℕ → ℕ
value t = get_or (values_from 0 t) 0 0

abbrev pub count_at : List ℕ → ℕ → ℕ
count_at t k = value (drop (length count_key) (from_line t k))

unfoldable pub count_line : List ℕ → ℕ → ℕ
count_line t zero = 1
count_line t (suc r) = suc (count_line t r + count_at t (count_line t r))

unfoldable pub said : List ℕ → Layers
said t =
    let top = value (drop (length rank_key) t) in
    record {
      top = top;
      size = λ r. cond (leb r top) (count_at t (count_line t r)) 0;
      under = λ r i. values (drop (length subs_key) (from_line t (count_line t r + suc i)));
    }

abbrev pub listing_in : List ℕ → Listing
listing_in t = written (said t) (derived (said t))

unfoldable pub begins : List ℕ → List ℕ → Bool
begins [] t = true
begins (x ∷ p) [] = false
begins (x ∷ p) (y ∷ t) = eqb x y && begins p t

unfoldable pub numbers_fit : List ℕ → Bool
numbers_fit [] = true
numbers_fit (x ∷ l) = ltb x text_width && numbers_fit l

unfoldable pub form_test : Line → List ℕ → Answer
form_test l t =
    on (not (begins l.key t)) (plain wrong_key) or_else
    on (not (begins (line_bytes l) t && numbers_fit l.numbers)) (plain bad_line)

unfoldable pub below_in : ℕ → List ℕ → ℕ
below_in n [] = 0
below_in n (x ∷ l) = cond (ltb x n) (suc (below_in n l)) (below_in n l)

unfoldable pub size_below : Layers → ℕ → ℕ
size_below M zero = 0
size_below M (suc r) = M.size r

unfoldable pub incidences_of : Layers → ℕ → ℕ → ℕ
incidences_of M r i = length (M.under r i) + below_in (size_below M r) (M.under r i)

unfoldable pub incidences_to : Layers → ℕ → ℕ → ℕ
incidences_to M r i = sum (λ q. sum (incidences_of M q) (M.size q)) r + sum (incidences_of M r) i

pub record Bound : Type 0 where
  pub amount : ℕ
  pub most : ℕ
  pub no : ℕ

unfoldable pub bound_of : Limits → Layers → ℕ × ℕ → Bound
bound_of m M (r, zero) = record { amount = sum M.size (suc r); most = m.elements; no = over_elements }
bound_of m M (r, suc i) = record { amount = incidences_to M r (suc i); most = m.incidences; no = over_incidences }

unfoldable pub bound_at : Limits → Layers → ℕ → Bound
bound_at m M zero = record { amount = suc M.top; most = m.ranks; no = over_ranks }
bound_at m M (suc k) = bound_of m M (spot M k)

abbrev pub bound_test : Bound → Answer
bound_test b = on (ltb b.most b.amount) (plain b.no)

abbrev pub line_test : Limits → List ℕ → ℕ → Answer
line_test m t k = form_test (line_at (said t) k) (from_line t k) or_else bound_test (bound_at m (said t) k)

unfoldable pub text_test : Limits → List ℕ → Answer
text_test m t =
    let n = line_count (said t) in
    on (ltb m.text (length t)) (plain long_text) or_else
    first_of (line_test m t) 0 n or_else
    on (ltb 0 (length (from_line t n))) (plain more_bytes)
