-- A line with one number, by its key and by the row of numbers that follows.
-- Assumes nothing.
use mathlib.Core.Path.{◌≡◌, sym, ap, ◌∙◌}
use mathlib.Core.Bool.{true, false, true≢false}
use mathlib.Core.List.{List, [], ◌∷◌}
use Prim.Native.Nat.{ℕ, ◌+◌}
use native.Mathlib.Omega.{arith}
use lib.ListN.{length, get_or, drop}
use lib.Seq.{drop-drop}
use Rattle.listing.specs.Refusals.{wrong_key, bad_line}
use Rattle.listing.specs.Answers.{plain, fine}
use Rattle.text_theory.specs.Text.{Line}
use Rattle.text_theory.specs.Said.{begins, values_from, value, form_test}
use Rattle.text_theory.specs.Digits.{digits_in, valued, good_row}
use Rattle.text_theory.proofs.Lines.{after_key}
use Rattle.text_theory.proofs.Marks.{unless, good_marked, good_lone}
use Rattle.text_theory.proofs.Reading.{from_some, numbers_last, form_key, form_bad, form_good}
use Rattle.text_lines.specs.declared.lines.Term.{Term}
use Rattle.text_lines.specs.Lines.{Key, TermRead, LineRead}
use Rattle.text_lines.proofs.Keys.{key_fits}

-- where one number stands up to a newline, the row is that number
one_row : (t : List ℕ) → good_row (value t ∷ []) t ≡ true
    → (values_from 0 t ≡ valued 0 (digits_in t) ∷ []) × (good_row (values_from 0 t) t ≡ true)
one_row t g =
    let m = good_marked (value t ∷ []) t (omega arith) g in
    let r = numbers_last t m.number m.some (good_lone (value t) t g) in
    (r.0, r.1)

module _ (t key : List ℕ) (at : ℕ) where
  abbrev here : List ℕ
  here = drop at t

  abbrev row : List ℕ
  row = drop (length key) here

  -- the line that a key and the number after it make
  abbrev single : Line
  single = record { key = key; numbers = value row ∷ [] }

  row_is : drop (at + length key) t ≡ row
  row_is = sym (drop-drop (length key) at t)

  pub single_off_key : begins key here ≡ false → plain wrong_key ≡ form_test single here
  single_off_key e = sym (form_key single here e)

  module _ (k : begins key here ≡ true) where
    pub single_wrong : good_row (values_from 0 (drop (at + length key) t)) (drop (at + length key) t) ≡ false
        → plain bad_line ≡ form_test single here
    single_wrong e =
        let b = rw row_is at e in
        sym (form_bad single here k (unless _ (λ g. true≢false (sym (one_row row g).1 ∙ b))))

    module _ {i : Term} (r : TermRead t (at + length key) i) where
      pub single_more : i.more ≡ true → plain bad_line ≡ form_test single here
      single_more e =
          let m = ap length (rw row_is at (r.more e).0) in
          sym (form_bad single here k
          (unless _ (λ g. omega (arith, m, ap length (one_row row g).0, from_some 0 (drop i.next t)))))

      module _ (e : i.more ≡ false) where
        last : values_from 0 row ≡ i.value ∷ []
        last = rw row_is at (r.last e).0

        single_value : i.value ≡ value row
        single_value = sym (ap (λ (l : List ℕ). get_or l 0 0) last)

        pub single_good : fine ≡ form_test single here
        single_good =
            let w = ap (λ (n : ℕ). n ∷ []) (sym single_value) ∙ sym last in
            let g = ap (λ (l : List ℕ). good_row l row) w ∙ rw row_is at (r.last e).1 in
            sym (form_good single here k g)

        pub single_read : Key key → LineRead t at key (record { value = i.value; next = i.next })
        single_read q = record {
          value = single_value;
          later = omega (arith, r.later);
          inside = r.inside;
          after = sym (rw row_is at (r.last e).2) ∙ sym (after_key single here q k);
        }

-- one law for each way through the line
pub ruleset singles = (key_fits, single_off_key, single_wrong, single_more, single_good)
