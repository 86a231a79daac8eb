-- A number of a row, by what follows its digits: a comma, a newline, the end of the text, another byte.
-- Assumes nothing.
use mathlib.Core.Path.{◌≡◌, sym, ap, ◌∙◌}
use mathlib.Core.Bool.{true, false, true≢false}
use mathlib.Core.List.{List, [], ◌∷◌}
use Prim.Native.Nat.{ℕ, ◌+◌, ◌≤◌, ◌<◌}
use native.Mathlib.Omega.{arith}
use lib.ListN.{length, get_or, drop, length-drop}
use lib.Seq.{get_or-drop, drop-drop}
use Rattle.text_theory.specs.Text.{newline, comma}
use Rattle.text_theory.specs.Said.{values_from}
use Rattle.text_theory.specs.Digits.{digits_in, valued, good_row}
use Rattle.text_theory.proofs.Marks.{past_digits}
use Rattle.text_theory.proofs.Numerals.{numeral_some}
use Rattle.text_theory.proofs.Reading.{numbers_last, numbers_next, numbers_end, numbers_other}
use Rattle.text_lines.specs.declared.lines.Word.{Word}
use Rattle.text_lines.specs.Lines.{WordRead, TermRead}

module _ {t : List ℕ} {at : ℕ} {w : Word} (h : WordRead t at w) where
  abbrev here : List ℕ
  here = drop at t

  abbrev past : List ℕ
  past = past_digits here

  past_is : past ≡ drop w.next t
  past_is = rw h.next (drop-drop (length (digits_in here)) at t)

  past_length : length past ≡ length (drop w.next t)
  past_length = ap length past_is

  past_byte : get_or past 0 0 ≡ get_or t w.next 0
  past_byte =
      let z : w.next + 0 ≡ w.next = omega arith in
      ap (λ (l : List ℕ). get_or l 0 0) past_is ∙ get_or-drop w.next t 0 0 ∙ ap (λ (k : ℕ). get_or t k 0) z

  past_next : drop 1 past ≡ drop (w.next + 1) t
  past_next = ap (drop 1) past_is ∙ drop-drop 1 w.next t

  pub bad_end : length t ≤ w.next → good_row (values_from 0 here) here ≡ false
  bad_end l = numbers_end here (omega (arith, past_length, length-drop w.next t))

  pub bad_byte : (get_or t w.next 0 ≡ comma → ⊥) → (get_or t w.next 0 ≡ newline → ⊥)
      → good_row (values_from 0 here) here ≡ false
  bad_byte c n = numbers_other here (λ q. n (sym past_byte ∙ q)) (λ q. c (sym past_byte ∙ q))

  module _ (l : w.next < length t) where
    some : 0 < length past
    some = omega (arith, past_length, length-drop w.next t)

    -- the number has a digit at least, and then comes what ends it
    longer : at + 1 < w.next + 1
    longer = omega (arith, h.next, ap length h.number.0, numeral_some (valued 0 (digits_in here)))

    pub term_last : get_or t w.next 0 ≡ newline
        → TermRead t at (record { more = false; value = w.value; next = w.next + 1 })
    term_last e =
        let r = numbers_last here h.number some (past_byte ∙ e) in
        record {
          later = longer;
          inside = omega arith;
          fits = omega (arith, h.value, h.number.1);
          last = λ y. (r.0 ∙ ap (λ (x : ℕ). x ∷ []) (sym h.value), r.1, r.2 ∙ past_next);
          more = λ y. absurd (true≢false (sym y));
        }

    pub term_more : get_or t w.next 0 ≡ comma
        → TermRead t at (record { more = true; value = w.value; next = w.next + 1 })
    term_more e =
        let r = numbers_next here h.number some (past_byte ∙ e) in
        record {
          later = longer;
          inside = omega arith;
          fits = omega (arith, h.value, h.number.1);
          last = λ y. absurd (true≢false y);
          more = λ y. rw (← past_next, h.value) r;
        }
