-- The line of an element as the reading meets it: refused, over the limit, or passed.
-- Assumes nothing.
use mathlib.Core.Path.{◌≡◌, sym, ◌∙◌}
use mathlib.Core.List.{List}
use Prim.Native.Nat.{ℕ, ◌+◌, ◌≤◌, ◌<◌}
use native.Mathlib.Omega.{arith}
use lib.ListN.{length, set, drop}
use Rattle.listing.specs.Refusals.{over_incidences}
use Rattle.listing.specs.declared.Answer.{Answer}
use Rattle.listing.specs.declared.Refusal.{Refusal}
use Rattle.listing.specs.Answers.{plain, fine}
use Rattle.listing.specs.Told.{answer_of}
use Rattle.listing.specs.Listing.{Limits}
use Rattle.text_theory.specs.Text.{subs_key}
use Rattle.text_theory.specs.Said.{said, values, text_test}
use Rattle.text_lines.specs.Lines.{form_of}
use Rattle.text_sizes.specs.declared.measure.Headway.{Headway}
use Rattle.text_sizes.specs.declared.rows.Row.{Row}
use Rattle.text_sizes.specs.Rows.{RowCounted}
use Rattle.text_sizes.specs.Measure.{Entered}
use Rattle.text_sizes.proofs.Lefts.{here_next, list_told, list_refused, list_over, list_goes}
use Rattle.text_sizes.proofs.Entering.{Going, going_weighs, going_next}

module _ {m : Limits} {t : List ℕ} {s : Headway} {n : ℕ} {up₀ many₀ subs₀ up many subs : List ℕ}
    {at incidences to i : ℕ} (e : Entered m t s n up₀ many₀ subs₀)
    (g : Going m t s up₀ up many subs at incidences to i) (l : i < n) where
  inside : i < (said t).size s.rank
  inside = omega (arith, e.size)

  -- its numbers, and what is asked of the line
  abbrev numbers : List ℕ
  numbers = values (drop (length subs_key) (drop at t))

  abbrev asked : Answer
  asked = form_of subs_key numbers (drop at t)

  pub subs_stop : (d : Refusal) → answer_of d ≡ asked → answer_of d ≡ text_test m t
  subs_stop d f = list_refused m t s.rank at e.rank i inside g.here d f ∙ sym g.left

  module _ (f : fine ≡ asked) {up' subs' : List ℕ} {r : Row}
      (w : RowCounted t at numbers s.from s.below to up up' subs subs' r) where
    subs_counted : RowCounted t at ((said t).under s.rank i) s.from s.below to up up' subs subs' r
    subs_counted = rw (← list_told m t s.rank at e.rank i inside g.here) w

    pub subs_over : m.incidences < incidences + (r.count + r.known) → plain over_incidences ≡ text_test m t
    subs_over h =
        list_over m t s.rank at e.rank i inside g.here f (rw (← going_weighs e g subs_counted) h) ∙ sym g.left

    pub subs_next : incidences + (r.count + r.known) ≤ m.incidences
        → Going m t s up₀ up' (set many (s.from + s.below + i) r.count) subs' r.next
        (incidences + (r.count + r.known)) (to + r.count) (i + 1)
    subs_next h =
        going_next e g subs_counted l h
        (list_goes m t s.rank at e.rank i inside g.here f (rw (← going_weighs e g subs_counted) h))
        (here_next t _ at r.next g.here subs_counted.after)
