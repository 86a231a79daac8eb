-- The line with the count of a rank as the reading meets it: refused, over the limit, or passed, and then the rank is
-- entered. And the line with the rank of the listing.
-- Assumes nothing.
use mathlib.Core.Path.{◌≡◌, sym, ap, ◌∙◌}
use mathlib.Core.List.{List, [], ◌∷◌}
use Prim.Native.Nat.{ℕ, suc, ◌+◌, ◌≤◌, ◌<◌}
use native.Mathlib.Omega.{arith}
use lib.ListN.{length, set, drop}
use Rattle.order.specs.Sums.{sum}
use Rattle.listing.specs.declared.Answer.{Answer}
use Rattle.listing.specs.Refusals.{over_elements}
use Rattle.listing.specs.declared.Refusal.{Refusal}
use Rattle.listing.specs.Answers.{plain, fine}
use Rattle.listing.specs.Told.{answer_of}
use Rattle.listing.specs.Listing.{Limits}
use Rattle.text_theory.specs.Text.{text_width, count_key}
use Rattle.text_theory.specs.Said.{said, value, text_test}
use Rattle.text_theory.proofs.Reading.{single_fits}
use Rattle.text_lines.specs.declared.lines.Single.{Single}
use Rattle.text_lines.specs.Lines.{form_of, LineRead}
use Rattle.text_sizes.specs.declared.measure.Headway.{Headway}
use Rattle.text_sizes.specs.Measure.{Raising, CountsNoted, Arrived, Entered}
use Rattle.text_sizes.proofs.Noting.{counts_next}
use Rattle.text_sizes.proofs.Stops.{stops_so}
use Rattle.text_sizes.proofs.Lefts.{here_next, count_told, count_refused, count_over, count_goes}

module _ {m : Limits} {t : List ℕ} {s : Headway} {up many subs : List ℕ} (a : Arrived m t s up many subs)
    (h : s.rank ≤ (said t).top) where
  -- what is asked of the line
  abbrev asked : Answer
  asked = form_of count_key (value (drop (length count_key) (drop s.at t)) ∷ []) (drop s.at t)

  pub rank_stop : (d : Refusal) → answer_of d ≡ asked → answer_of d ≡ text_test m t
  rank_stop d f = count_refused m t s.rank s.at h a.here d f ∙ sym a.left

  module _ (f : fine ≡ asked) {c : Single} (l : LineRead t s.at count_key c) where
    size : c.value ≡ (said t).size s.rank
    size = l.value ∙ count_told m t s.rank s.at h a.here

    -- the elements so far
    elements : s.from + s.below + c.value ≡ sum (said t).size (suc s.rank)
    unfolding sum
    elements = omega (arith, a.total, size)

    pub rank_fits : c.value < text_width
    rank_fits = rw l.value (single_fits count_key (drop s.at t) _ (ap (λ (x : Answer). x.no) (sym f)))

    -- and the count is noted
    pub rank_noted : {counts : List ℕ} → CountsNoted m (said t) s.rank counts
        → CountsNoted m (said t) (s.rank + 1) (set counts s.rank c.value)
    rank_noted k = counts_next k (omega (arith, a.ranks)) size

    pub rank_over : m.elements < s.from + s.below + c.value → plain over_elements ≡ text_test m t
    rank_over b = count_over m t s.rank s.at h a.here f (rw (← elements) b) ∙ sym a.left

    -- past it the rank is entered
    abbrev past : Headway
    past = record {
      at = c.next;
      rank = s.rank;
      from = s.from;
      below = s.below;
      incidences = s.incidences;
      subs = s.subs;
    }

    same_raised : Raising m t s.rank s.from c.next up
    same_raised = record {
      long = a.sups.long;
      done = a.sups.done;
      rest = a.sups.rest;
      few = λ k. omega (arith, a.sups.few k, l.later);
    }

    pub rank_entered : s.from + s.below + c.value ≤ m.elements → Entered m t past c.value up many subs
    rank_entered b = record {
      short = a.short;
      ranks = a.ranks;
      rank = h;
      size = size;
      inside = l.inside;
      here = here_next t _ s.at c.next a.here l.after;
      left = a.left ∙ count_goes m t s.rank s.at h a.here f (rw (← elements) b);
      below = a.below;
      total = a.total;
      elements = b;
      weighs = a.weighs;
      incidences = a.incidences;
      sups = same_raised;
      passed = a.passed;
      half = omega (arith, a.half, l.later);
      light = a.light;
      notes = a.notes;
    }

-- a line with a count that is refused, and one that passes the limit
pub ruleset ranks = (stops_so, rank_stop, rank_over)
