-- A line as it is read from left to right: a line of numbers, one of one number, and one of numbers or of none; then
-- what is answered of a line with its key.
-- Assumes nothing.
use mathlib.Core.Path.{◌≡◌, refl, sym, ap, ◌∙◌}
use mathlib.Core.Logic.{⊎_elim}
use mathlib.Core.Bool.{Bool, true, false, cond, not}
use mathlib.Core.List.{List, [], ◌∷◌, ◌++◌}
use Prim.Native.Nat.{ℕ, ◌+◌, ◌-◌, ◌*◌, ◌<◌}
use native.Mathlib.Omega.{arith}
use borrow.Author.Tests.{eq-eqb, ne_eqb, not-false, ltb-true}
use lib.Dec.{ltb, eqb}
use lib.ListN.{length, get_or, drop}
use Rattle.listing.specs.declared.Answer.{Answer}
use Rattle.listing.specs.Refusals.{wrong_key, bad_line}
use Rattle.listing.specs.Answers.{plain, fine, on, ◌or_else◌}
use Rattle.order.proofs.Tests.{and_true}
use Rattle.listing.proofs.Answers.{on_or_no, on_no}
use Rattle.text_theory.specs.Text.{text_width, newline, comma, commas, Line, line_bytes}
use Rattle.text_theory.specs.Said.{after_line, values_from, values, value, begins, numbers_fit, form_test}
use Rattle.text_theory.specs.Digits.{digits_in, valued, Numeral, good_row}
use Rattle.text_theory.proofs.Lines.{begins_past, begins_split, after_stop}
use Rattle.text_theory.proofs.Marks.{unless, past_digits, text_is, last_values, last_good, last_after}
use Rattle.text_theory.proofs.Marks.{next_values, next_good, next_after, good_marked, good_lone, good_wrong}
use Rattle.text_theory.proofs.Marks.{good_end, good_other}

-- ---- numbers up to a newline

pub from_some : (v : ℕ) (t : List ℕ) → 0 < length (values_from v t)
unfolding values_from
from_some v [] = omega arith
from_some v (x ∷ t) = go (eqb x newline) (eqb x comma) (λ u. from_some u t)
  where
    go : (p q : Bool) → ((u : ℕ) → 0 < length (values_from u t))
        → 0 < length (cond p (v ∷ []) (cond q (v ∷ values_from 0 t) (values_from (10 * v + (x - 48)) t)))
    go true q h = omega arith
    go false true h = omega arith
    go false false h = h (10 * v + (x - 48))

module _ (t : List ℕ) where
  pub numbers_last : Numeral (digits_in t) → 0 < length (past_digits t) → get_or (past_digits t) 0 0 ≡ newline
      → (values_from 0 t ≡ valued 0 (digits_in t) ∷ []) × (good_row (values_from 0 t) t ≡ true)
      × (after_line t ≡ drop 1 (past_digits t))
  numbers_last n h e =
      let s = text_is t newline n h e in
      let f = ap (values_from 0) s ∙ last_values (valued 0 (digits_in t)) (drop 1 (past_digits t)) in
      let g = last_good (valued 0 (digits_in t)) (drop 1 (past_digits t)) n.1 in
      (f, (λ i. good_row (f i) (s i)) ∙ g, ap after_line s ∙ last_after _ _)

  pub numbers_next : Numeral (digits_in t) → 0 < length (past_digits t) → get_or (past_digits t) 0 0 ≡ comma
      → (values_from 0 t ≡ valued 0 (digits_in t) ∷ values_from 0 (drop 1 (past_digits t)))
      × (good_row (values_from 0 t) t ≡ good_row (values_from 0 (drop 1 (past_digits t))) (drop 1 (past_digits t)))
      × (after_line t ≡ after_line (drop 1 (past_digits t)))
  numbers_next n h e =
      let w = drop 1 (past_digits t) in
      let s = text_is t comma n h e in
      let f = ap (values_from 0) s ∙ next_values (valued 0 (digits_in t)) w in
      let g = next_good (valued 0 (digits_in t)) w (values_from 0 w) n.1 (from_some 0 w) in
      (f, (λ i. good_row (f i) (s i)) ∙ g, ap after_line s ∙ next_after _ w)

  pub numbers_stop : (Numeral (digits_in t) → 0 < length (past_digits t)
      → (get_or (past_digits t) 0 0 ≡ newline → ⊥) × (get_or (past_digits t) 0 0 ≡ comma → ⊥))
      → good_row (values_from 0 t) t ≡ false
  numbers_stop f = unless (good_row (values_from 0 t) t) no_mark
    where
      no_mark : good_row (values_from 0 t) t ≡ true → ⊥
      no_mark e =
          let m = good_marked (values_from 0 t) t (from_some 0 t) e in
          let g = f m.number m.some in
          ⊎_elim g.0 g.1 m.mark

  pub numbers_wrong : (Numeral (digits_in t) → ⊥) → good_row (values_from 0 t) t ≡ false
  numbers_wrong = good_wrong (values_from 0 t) t (from_some 0 t)

  pub numbers_end : length (past_digits t) ≡ 0 → good_row (values_from 0 t) t ≡ false
  numbers_end = good_end (values_from 0 t) t (from_some 0 t)

  pub numbers_other : (get_or (past_digits t) 0 0 ≡ newline → ⊥) → (get_or (past_digits t) 0 0 ≡ comma → ⊥)
      → good_row (values_from 0 t) t ≡ false
  numbers_other = good_other (values_from 0 t) t (from_some 0 t)

-- ---- one number up to a newline

module _ (t : List ℕ) where
  pub one_last : Numeral (digits_in t) → 0 < length (past_digits t) → get_or (past_digits t) 0 0 ≡ newline
      → (value t ≡ valued 0 (digits_in t)) × (good_row (value t ∷ []) t ≡ true)
  one_last n h e =
      let s = text_is t newline n h e in
      let f = ap (λ (l : List ℕ). get_or l 0 0) (numbers_last t n h e).0 in
      let g = last_good (valued 0 (digits_in t)) (drop 1 (past_digits t)) n.1 in
      (f, (λ i. good_row (f i ∷ []) (s i)) ∙ g)

  pub one_wrong : (Numeral (digits_in t) → ⊥) → good_row (value t ∷ []) t ≡ false
  one_wrong = good_wrong (value t ∷ []) t (omega arith)

  pub one_end : length (past_digits t) ≡ 0 → good_row (value t ∷ []) t ≡ false
  one_end = good_end (value t ∷ []) t (omega arith)

  pub one_other : (get_or (past_digits t) 0 0 ≡ newline → ⊥) → good_row (value t ∷ []) t ≡ false
  one_other f = unless (good_row (value t ∷ []) t) (λ e. f (good_lone (value t) t e))

-- ---- a list of numbers up to a newline, perhaps of none

pub list_none : (t : List ℕ) → 0 < length t → get_or t 0 0 ≡ newline
    → (values t ≡ []) × (good_row (values t) t ≡ true) × (after_line t ≡ drop 1 t)
unfolding values good_row begins commas numbers_fit
list_none [] h e = absurd (omega arith)
list_none (x ∷ t) h e =
    let q = eq-eqb x newline e in
    (rw q, rw q (rw e), after_stop x t e)

pub list_some : (t : List ℕ) → 0 < length t → (get_or t 0 0 ≡ newline → ⊥) → values t ≡ values_from 0 t
unfolding values
list_some [] h f = absurd (omega arith)
list_some (x ∷ t) h f = rw (ne_eqb x newline f)

pub list_end : (t : List ℕ) → length t ≡ 0 → good_row (values t) t ≡ false
unfolding values good_row begins commas
list_end [] z = refl
list_end (x ∷ t) z = absurd (omega arith)

pub numbers_nil : (t : List ℕ) → length t ≡ 0 → good_row (values_from 0 t) t ≡ false
unfolding digits_in
numbers_nil [] z = numbers_end [] refl
numbers_nil (x ∷ t) z = absurd (omega arith)

-- ---- a line with its key

module _ (l : Line) (t : List ℕ) where
  pub form_key : begins l.key t ≡ false → form_test l t ≡ plain wrong_key
  unfolding form_test ◌or_else◌
  form_key e = rw e

  pub form_is : begins l.key t ≡ true
      → form_test l t ≡ on (not (good_row l.numbers (drop (length l.key) t))) (plain bad_line)
  unfolding form_test ◌or_else◌ good_row line_bytes
  form_is e =
      let line = commas l.numbers ++ (newline ∷ []) in
      let b = ap (begins (l.key ++ line)) (begins_split l.key t e) ∙ begins_past l.key line _ in
      rw (e, b)

  pub form_bad : begins l.key t ≡ true → good_row l.numbers (drop (length l.key) t) ≡ false
      → form_test l t ≡ plain bad_line
  form_bad e g = form_is e ∙ rw g

  pub form_good : begins l.key t ≡ true → good_row l.numbers (drop (length l.key) t) ≡ true
      → form_test l t ≡ fine
  form_good e g = form_is e ∙ rw g

  pub form_no : (form_test l t).no ≡ 0
      → (begins l.key t ≡ true) × (good_row l.numbers (drop (length l.key) t) ≡ true)
  unfolding form_test
  form_no z =
      let p = on_or_no (not (begins l.key t)) (plain wrong_key) _ (λ e. omega arith) z in
      let b = not-false (begins l.key t) p.0 in
      let y = ap (λ (a : Answer). a.no) (sym (form_is b)) ∙ z in
      (b, not-false _ (on_no _ (plain bad_line) (λ e. omega arith) y))

-- the number of a good line with one number is one that a text can have
pub single_fits : (key t : List ℕ) (n : ℕ) → (form_test (record { key = key; numbers = n ∷ [] }) t).no ≡ 0 → n < text_width
unfolding good_row numbers_fit
single_fits key t n z =
    let g = (form_no (record { key = key; numbers = n ∷ [] }) t z).1 in
    let f = (and_true (begins (commas (n ∷ []) ++ (newline ∷ [])) (drop (length key) t)) _ g).1 in
    ltb-true n text_width (and_true (ltb n text_width) true f).0
