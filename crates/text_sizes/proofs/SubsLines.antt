-- The line of an element: its key, and then nothing or a row of numbers.
-- Assumes nothing.
use mathlib.Core.Path.{◌≡◌, refl, sym, ap, ◌∙◌}
use mathlib.Core.Logic.{inr}
use mathlib.Core.Bool.{true, false, not}
use mathlib.Core.List.{List}
use Prim.Native.Nat.{ℕ, ◌+◌, ◌≤◌, ◌<◌}
use native.Mathlib.Omega.{arith}
use lib.ListN.{length, get_or, drop, length-drop}
use lib.Seq.{get_or-drop, drop-drop}
use Rattle.listing.specs.Refusals.{wrong_key, bad_line}
use Rattle.std.proofs.Common.{Result}
use Rattle.std.specs.Result.{IfOk}
use Rattle.std.proofs.lemmas.Result.{IfOk-weaker}
use Rattle.listing.specs.declared.Answer.{Answer}
use Rattle.listing.specs.declared.Refusal.{Refusal}
use Rattle.listing.specs.Answers.{plain, fine, on}
use Rattle.listing.proofs.Laying.{laid_none}
use Rattle.listing_sups.proofs.Raising.{raised_none}
use Rattle.text_theory.specs.Text.{newline, Line, subs_key}
use Rattle.order.specs.Lists.{occurs}
use Rattle.text_theory.specs.Said.{after_line, values_from, values, begins, form_test, below_in}
use Rattle.text_theory.specs.Digits.{good_row}
use Rattle.text_theory.proofs.Lines.{after_key}
use Rattle.text_theory.proofs.Reading.{list_none, list_some, list_end, form_key, form_is}
use Rattle.text_sizes.specs.declared.rows.Row.{Row}
use Rattle.text_sizes.specs.Rows.{RowCounted}

module _ (t : List ℕ) (at : ℕ) where
  abbrev here : List ℕ
  here = drop at t

  abbrev row : List ℕ
  row = drop (length subs_key) here

  abbrev line : Line
  line = record { key = subs_key; numbers = values row }

  row_is : drop (at + 5) t ≡ row
  row_is = sym (drop-drop 5 at t)

  pub subs_off_key : begins subs_key here ≡ false → plain wrong_key ≡ form_test line here
  subs_off_key k = sym (form_key line here k)

  module _ (k : begins subs_key here ≡ true) where
    -- the test of the line is that of its row
    tested : form_test line here ≡ on (not (good_row (values row) row)) (plain bad_line)
    tested = form_is line here k

    after : after_line here ≡ after_line row
    after = after_key line here (inr (inr refl)) k

    pub subs_short : length t ≤ at + 5 → plain bad_line ≡ form_test line here
    subs_short l =
        let g = list_end row (omega (arith, ap length row_is, length-drop (at + 5) t)) in
        sym (tested ∙ rw g refl)

    module _ (l : at + 5 < length t) where
      some : 0 < length row
      some = omega (arith, ap length row_is, length-drop (at + 5) t)

      first : get_or row 0 0 ≡ get_or t (at + 5) 0
      first =
          let z : at + 5 + 0 ≡ at + 5 = omega arith in
          ap (λ (s : List ℕ). get_or s 0 0) (sym row_is) ∙ get_or-drop (at + 5) t 0 0 ∙ ap (λ (j : ℕ). get_or t j 0) z

      -- nothing lies under the element
      pub subs_none : get_or t (at + 5) 0 ≡ newline → fine ≡ form_test line here
      subs_none e = sym (tested ∙ rw (list_none row some (first ∙ e)).1 refl)

      pub none_counted : get_or t (at + 5) 0 ≡ newline → (from n to : ℕ) (up subs : List ℕ)
          → ((j : ℕ) → get_or up j 0 < at)
          → RowCounted t at (values row) from n to up up subs subs (record { count = 0; known = 0; next = at + 5 + 1 })
      unfolding below_in occurs
      none_counted e from n to up subs f =
          let w = list_none row some (first ∙ e) in
          record {
            later = omega arith;
            inside = omega arith;
            after = sym (drop-drop 1 (at + 5) t) ∙ ap (drop 1) row_is ∙ sym (after ∙ w.2);
            count = rw w.0 refl;
            known = rw w.0 refl;
            small = (omega arith, omega arith);
            raised = raised_none from n _ up (λ x h. rw w.0 refl);
            few = λ j. omega (arith, f j);
            laid = rw w.0 (laid_none to (λ j. 0) subs);
          }

      -- a row of numbers
      module _ (e : get_or t (at + 5) 0 ≡ newline → ⊥) where
        numbers : values_from 0 (drop (at + 5) t) ≡ values row
        numbers = ap (values_from 0) row_is ∙ sym (list_some row some (λ z. e (sym first ∙ z)))

        pub subs_row : {a : Answer}
            → a ≡ on (not (good_row (values_from 0 (drop (at + 5) t)) (drop (at + 5) t))) (plain bad_line)
            → a ≡ form_test line here
        subs_row q = q ∙ rw (numbers, row_is) refl ∙ sym tested

        pub row_counted : (from n to : ℕ) (up up' subs subs' : List ℕ) (r : Result Row Refusal)
            → IfOk r (RowCounted t (at + 5) (values_from 0 (drop (at + 5) t)) from n to up up' subs subs')
            → IfOk r (RowCounted t at (values row) from n to up up' subs subs')
        row_counted from n to up up' subs subs' r q = IfOk-weaker r _ _ counted q
          where
            counted : (x : Row)
                → RowCounted t (at + 5) (values_from 0 (drop (at + 5) t)) from n to up up' subs subs' x
                → RowCounted t at (values row) from n to up up' subs subs' x
            counted x w =
                let c : RowCounted t (at + 5) (values row) from n to up up' subs subs' x = rw (← numbers) w in
                record {
                  later = omega (arith, c.later);
                  inside = c.inside;
                  after = c.after ∙ ap after_line row_is ∙ sym after;
                  count = c.count;
                  known = c.known;
                  small = c.small;
                  raised = c.raised;
                  few = c.few;
                  laid = c.laid;
                }

-- one law for each way through the line
pub ruleset subs_line = (subs_off_key, subs_short, subs_none, subs_row, row_counted)
