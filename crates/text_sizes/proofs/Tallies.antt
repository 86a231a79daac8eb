-- A row of numbers as it is counted and written, one number after another: what was counted, and what is left of the
-- row, make the whole.
-- Assumes nothing.
use mathlib.Core.Path.{◌≡◌, refl, sym, ap, ◌∙◌}
use mathlib.Core.Bool.{Bool, true, false, cond}
use mathlib.Core.List.{List, [], ◌∷◌}
use Prim.Native.Nat.{ℕ, suc, ◌+◌, ◌-◌, ◌*◌, ◌≤◌, ◌<◌}
use native.Mathlib.Omega.{arith}
use lib.Dec.{ltb}
use lib.ListN.{length, get_or, set, drop}
use lib.Seq.{get_or-drop, drop-drop}
use Rattle.order.specs.Lists.{occurs}
use Rattle.order.proofs.Lists.{occurs_le, occurs_append}
use Rattle.listing.specs.Laid.{Laid}
use Rattle.listing.proofs.Laying.{laid_none, laid_next}
use Rattle.listing_sups.specs.Sups.{Raised}
use Rattle.listing_sups.proofs.Raising.{raised_none, raised_then, raised_most}
use Rattle.text_theory.specs.Said.{after_line, values_from, below_in}
use Rattle.text_theory.specs.Digits.{good_row}
use Rattle.text_lines.specs.declared.lines.Term.{Term}
use Rattle.text_lines.specs.Lines.{TermRead}
use Rattle.text_sizes.specs.Rows.{RowCounted}

-- the first number by itself, and the others
pub below_first : (n x : ℕ) (l : List ℕ) → below_in n (x ∷ l) ≡ below_in n (x ∷ []) + below_in n l
unfolding below_in
below_first n x l = go (ltb x n)
  where
    go : (b : Bool) → cond b (suc (below_in n l)) (below_in n l) ≡ cond b 1 0 + below_in n l
    go true = omega arith
    go false = omega arith

pub record RowRun (t : List ℕ) (at from n to : ℕ) (up₀ up subs₀ subs : List ℕ) (i count named : ℕ) : Type 0 where
  pub later : at + 2 * count ≤ i
  pub inside : i ≤ length t
  pub good : good_row (values_from 0 (drop at t)) (drop at t) ≡ good_row (values_from 0 (drop i t)) (drop i t)
  pub after : after_line (drop at t) ≡ after_line (drop i t)
  pub rest : values_from 0 (drop i t) ≡ drop count (values_from 0 (drop at t))
  pub counted : count + length (values_from 0 (drop i t)) ≡ length (values_from 0 (drop at t))
  pub known : named + below_in n (values_from 0 (drop i t)) ≡ below_in n (values_from 0 (drop at t))
  pub left : (y : ℕ) → occurs y (values_from 0 (drop i t)) ≤ occurs y (values_from 0 (drop at t))
  pub raised : Raised from n (λ y. occurs y (values_from 0 (drop at t)) - occurs y (values_from 0 (drop i t))) up₀ up
  pub few : (k : ℕ) → get_or up k 0 < i
  pub small : named ≤ count
  pub laid : Laid to (λ j. get_or (values_from 0 (drop at t)) j 0) count subs₀ subs

pub row_begun : (t : List ℕ) (at from n to : ℕ) (up subs : List ℕ) → at ≤ length t → ((k : ℕ) → get_or up k 0 < at)
    → RowRun t at from n to up up subs subs at 0 0
row_begun t at from n to up subs h f = record {
  later = omega arith;
  inside = h;
  good = refl;
  after = refl;
  rest = refl;
  counted = omega arith;
  known = omega arith;
  left = λ y. omega arith;
  raised = raised_none from n _ up (λ x l. omega arith);
  few = f;
  small = omega arith;
  laid = laid_none to _ subs;
}

module _ {t : List ℕ} {at from n to : ℕ} {up₀ up subs₀ subs : List ℕ} {i count named : ℕ}
    (h : RowRun t at from n to up₀ up subs₀ subs i count named) where
  -- the number that comes next
  next_is : (v : ℕ) (l : List ℕ) → values_from 0 (drop i t) ≡ v ∷ l → v ≡ get_or (values_from 0 (drop at t)) count 0
  next_is v l e =
      let row = values_from 0 (drop at t) in
      let z : count + 0 ≡ count = omega arith in
      ap (λ (s : List ℕ). get_or s 0 0) (sym e ∙ h.rest) ∙ get_or-drop count row 0 0 ∙ ap (λ (k : ℕ). get_or row k 0) z

  module _ {w : Term} (r : TermRead t i w) where
    module _ (up' : List ℕ) (u : Raised from n (λ y. occurs y (w.value ∷ [])) up up')
        (k : ℕ) (v : (k ≡ below_in n (w.value ∷ [])) × (k ≤ 1)) (short : length t ≤ 2 * length subs₀)
        (half : 2 * to ≤ at) where
      -- there is room for it
      room : to + count < length subs₀
      room = omega (arith, h.later, r.later, r.inside)

      -- with one number more no count passes the place after it
      few_more : (j : ℕ) → get_or up' j 0 < w.next
      few_more j =
          omega (arith, raised_most from n 1 _ up up' u (λ x. occurs_le x (w.value ∷ [])) j, h.few j, r.later)

      -- the number and what is left after it
      step : (l : List ℕ) → values_from 0 (drop i t) ≡ w.value ∷ l → (y : ℕ)
          → occurs y (values_from 0 (drop i t)) ≡ occurs y (w.value ∷ []) + occurs y l
      step l e y = ap (occurs y) e ∙ occurs_append y (w.value ∷ []) l

      -- it is written behind the others
      laid_more : (l : List ℕ) → values_from 0 (drop i t) ≡ w.value ∷ l
          → Laid to (λ j. get_or (values_from 0 (drop at t)) j 0) (count + 1) subs₀ (set subs (to + count) w.value)
      laid_more l e = laid_next to _ count w.value subs₀ subs h.laid room (next_is w.value l e)

      pub row_more : w.more ≡ true → RowRun t at from n to up₀ up' subs₀ (set subs (to + count) w.value) w.next
          (count + 1) (named + k)
      row_more m =
          let e = r.more m in
          let b = ap (below_in n) e.0 ∙ below_first n w.value _ in
          record {
            later = omega (arith, h.later, r.later);
            inside = r.inside;
            good = h.good ∙ e.1;
            after = h.after ∙ e.2;
            rest = ap (drop 1) (sym e.0 ∙ h.rest) ∙ drop-drop 1 count _;
            counted = omega (arith, h.counted, ap length e.0);
            known = omega (arith, h.known, b);
            left = λ y. omega (arith, step _ e.0 y, h.left y);
            raised =
                raised_then from n _ _ _ up₀ up up' h.raised u (λ y. omega (arith, step _ e.0 y, h.left y));
            few = few_more;
            small = omega (arith, h.small);
            laid = laid_more _ e.0;
          }

      module _ (m : w.more ≡ false) where
        pub row_good : good_row (values_from 0 (drop at t)) (drop at t) ≡ true
        row_good = h.good ∙ (r.last m).1

        counted_all : count + 1 ≡ length (values_from 0 (drop at t))
        counted_all = omega (arith, h.counted, ap length (r.last m).0)

        pub row_last : RowCounted t at (values_from 0 (drop at t)) from n to up₀ up' subs₀
            (set subs (to + count) w.value) (record { count = count + 1; known = named + k; next = w.next })
        row_last =
            let e = r.last m in
            record {
              later = omega (arith, h.later, r.later);
              inside = r.inside;
              after = sym (h.after ∙ e.2);
              count = counted_all;
              known = omega (arith, h.known, ap (below_in n) e.0);
              small = (omega (arith, h.later, r.later), omega (arith, h.small));
              raised =
                  raised_then from n _ _ _ up₀ up up' h.raised u
                  (λ y. omega (arith, ap (occurs y) e.0, h.left y));
              few = few_more;
              laid = rw (← counted_all) (laid_more _ e.0);
            }

-- a row that begins, and one that is good
pub ruleset rows = (row_begun, row_good)
