-- What the functions that read a text from a place on answer.
--
-- Key        one of the three keys
-- form_of    40, 41: whether what is left of a text goes on with a line of a key and numbers
-- LineRead   a line with a key and one number at a place, where such a line is good: its number, and where the next
--            begins
-- WordRead   a number at a place: its value, and the place after its digits
-- TermRead   a number of a row at a place: what it is, and what the rest of the row is; with what ends it, it takes two
--            bytes at least
use Rattle.std.specs.Prelude.{◌≡◌, ◌⊎◌, true, false, List, [], ◌∷◌, ℕ, ◌+◌, ◌≤◌, ◌<◌, length, drop}
use Rattle.listing.specs.declared.Answer.{Answer}
use Rattle.listing.specs.Listing.{width}
use Rattle.text_theory.specs.Text.{line, rank_key, count_key, subs_key}
use Rattle.text_theory.specs.Said.{after_line, value, values_from, form_test}
use Rattle.text_theory.specs.Digits.{digits_in, valued, Numeral, good_row}
use Rattle.text_lines.specs.declared.lines.Single.{Single}
use Rattle.text_lines.specs.declared.lines.Term.{Term}
use Rattle.text_lines.specs.declared.lines.Word.{Word}

abbrev pub Key : List ℕ → Type 0
Key key = (key ≡ rank_key) ⊎ ((key ≡ count_key) ⊎ (key ≡ subs_key))

abbrev pub form_of : List ℕ → List ℕ → List ℕ → Answer
form_of key numbers t = form_test (line key numbers) t

pub record LineRead (t : List ℕ) (at : ℕ) (key : List ℕ) (s : Single) : Type 0 where
  pub value : s.value ≡ value (drop (length key) (drop at t))
  pub later : at < s.next
  pub inside : s.next ≤ length t
  pub after : drop s.next t ≡ after_line (drop at t)

pub record WordRead (t : List ℕ) (at : ℕ) (w : Word) : Type 0 where
  pub number : Numeral (digits_in (drop at t))
  pub value : w.value ≡ valued 0 (digits_in (drop at t))
  pub next : w.next ≡ at + length (digits_in (drop at t))
  pub inside : w.next ≤ length t

pub record TermRead (t : List ℕ) (at : ℕ) (i : Term) : Type 0 where
  pub later : at + 1 < i.next
  pub inside : i.next ≤ length t
  pub fits : i.value < width
  pub last : i.more ≡ false
      → (values_from 0 (drop at t) ≡ i.value ∷ []) × (good_row (values_from 0 (drop at t)) (drop at t) ≡ true)
      × (after_line (drop at t) ≡ drop i.next t)
  pub more : i.more ≡ true
      → (values_from 0 (drop at t) ≡ i.value ∷ values_from 0 (drop i.next t))
      × (good_row (values_from 0 (drop at t)) (drop at t) ≡ good_row (values_from 0 (drop i.next t)) (drop i.next t))
      × (after_line (drop at t) ≡ after_line (drop i.next t))
