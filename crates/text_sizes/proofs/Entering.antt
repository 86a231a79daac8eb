-- The lines of a rank, one after another: how the reading enters a rank, goes on, and comes to the next.
-- Assumes nothing.
use mathlib.Core.Path.{◌≡◌, refl, sym, ap, ◌∙◌}
use mathlib.Core.Logic.{⊎_elim}
use mathlib.Core.List.{List}
use Prim.Native.Nat.{ℕ, zero, suc, ◌+◌, ◌*◌, ◌≤◌, ◌<◌}
use native.Mathlib.Nat.{eq-or-lt_of_le, le_of_suc-le-suc}
use native.Mathlib.Omega.{arith}
use lib.ListN.{length, get_or, set, drop}
use Rattle.order.specs.Lists.{occurs}
use Rattle.order.specs.Sums.{sum}
use Rattle.order.proofs.Sums.{sum_none, sum_next, sum_le}
use Rattle.listing.specs.Listing.{Limits}
use Rattle.listing.specs.Layers.{derived}
use Rattle.listing.proofs.Layers.{derived_length}
use Rattle.listing_sups.specs.Sups.{Raised}
use Rattle.listing_sups.proofs.Raising.{raised_none, raised_then}
use Rattle.text_theory.specs.Said.{from_line, count_line, said, below_in, size_below, incidences_of, incidences_to}
use Rattle.text_theory.specs.Said.{text_test}
use Rattle.text_theory.specs.Notes.{subs_to}
use Rattle.text_theory.proofs.Spots.{count_next}
use Rattle.text_theory.proofs.Incidences.{incidences_to_rank, incidences_to_next}
use Rattle.text_sizes.specs.declared.measure.Headway.{Headway}
use Rattle.text_sizes.specs.declared.rows.Row.{Row}
use Rattle.text_sizes.specs.Rows.{RowCounted}
use Rattle.text_sizes.specs.Measure.{left_test, Raising, SubsNoted, Arrived, Entered}
use Rattle.text_sizes.proofs.Noting.{subs_to_rank, subs_to_next, elements_next}

-- how often y stands in what lies under the first i elements of rank r
abbrev pub met_to : List ℕ → ℕ → ℕ → ℕ → ℕ
met_to t r i y = sum (λ j. occurs y ((said t).under r j)) i

-- the reading stands before the line of element i of a rank
pub record Going (m : Limits) (t : List ℕ) (s : Headway) (up₀ up many subs : List ℕ) (at incidences to i : ℕ)
    : Type 0 where
  pub inside : at ≤ length t
  pub here : drop at t ≡ from_line t (count_line t s.rank + suc i)
  pub left : text_test m t ≡ left_test m t (count_line t s.rank + suc i)
  pub weighs : incidences ≡ incidences_to (said t) s.rank i
  pub few : incidences ≤ m.incidences
  pub raised : Raised s.from s.below (met_to t s.rank i) up₀ up
  pub low : (k : ℕ) → get_or up k 0 < at
  pub passed : to ≡ subs_to (said t) s.rank i
  pub half : 2 * to ≤ at
  pub light : to ≤ incidences
  pub notes : SubsNoted m (said t) (s.from + s.below + i) many subs

module _ {m : Limits} {t : List ℕ} {s : Headway} {n : ℕ} {up₀ many₀ subs₀ : List ℕ}
    (e : Entered m t s n up₀ many₀ subs₀) where
  pub going_begun : Going m t s up₀ up₀ many₀ subs₀ s.at s.incidences s.subs 0
  going_begun =
      let z : count_line t s.rank + 1 ≡ suc (count_line t s.rank) = omega arith in
      let o : s.from + s.below + 0 ≡ s.from + s.below = omega arith in
      record {
        inside = e.inside;
        here = e.here ∙ ap (from_line t) (sym z);
        left = e.left ∙ ap (left_test m t) (sym z);
        weighs = e.weighs;
        few = e.incidences;
        raised = raised_none s.from s.below _ up₀ (λ x h. sum_none _);
        low = e.sups.few;
        passed = e.passed;
        half = e.half;
        light = e.light;
        notes = rw o e.notes;
      }

  -- the elements of the ranks below the one that is below
  from_is : (q : ℕ) → s.rank ≡ suc q → (s.from ≡ sum (said t).size q) × (s.below ≡ (said t).size q)
  unfolding sum size_below
  from_is q z =
      let b : s.below ≡ (said t).size q = e.below ∙ ap (size_below (said t)) z in
      (omega (arith, e.total ∙ ap (sum (said t).size) z, b), b)

  -- an element that lies two ranks lower or more stands before them
  lower : (q x : ℕ) → suc q < s.rank → x < (said t).size q → sum (said t).size q + x < s.from
  unfolding sum
  lower q x h l = go s.rank refl
    where
      go : (r : ℕ) → s.rank ≡ r → sum (said t).size q + x < s.from
      go zero j = absurd (omega arith)
      go (suc p) j = omega (arith, (from_is p j).0, sum_le (said t).size (suc q) p (omega arith))

  module _ {up many subs : List ℕ} {at incidences to i : ℕ} (g : Going m t s up₀ up many subs at incidences to i) where
    -- one element more
    module _ {up' subs' : List ℕ} {r : Row}
        (c : RowCounted t at ((said t).under s.rank i) s.from s.below to up up' subs subs' r) where
      pub going_weighs : incidences + (r.count + r.known) ≡ incidences_to (said t) s.rank (suc i)
      unfolding incidences_of
      going_weighs =
          let u = (said t).under s.rank i in
          let w : incidences_of (said t) s.rank i ≡ length u + below_in s.below u = rw e.below in
          omega (arith, g.weighs, c.count, c.known, w, incidences_to_next (said t) s.rank i)

      -- its subs are noted
      going_noted : i < n → SubsNoted m (said t) (s.from + s.below + (i + 1))
          (set many (s.from + s.below + i) r.count) subs'
      going_noted l =
          let z : s.from + s.below + (i + 1) ≡ s.from + s.below + i + 1 = omega arith in
          rw z
          (elements_next g.notes (omega (arith, e.total)) g.passed (omega (arith, e.size))
          (omega (arith, e.elements)) c.count c.laid)

      pub going_next : i < n → incidences + (r.count + r.known) ≤ m.incidences
          → left_test m t (count_line t s.rank + suc i) ≡ left_test m t (suc (count_line t s.rank + suc i))
          → drop r.next t ≡ from_line t (suc (count_line t s.rank + suc i))
          → Going m t s up₀ up' (set many (s.from + s.below + i) r.count) subs' r.next
          (incidences + (r.count + r.known)) (to + r.count) (i + 1)
      going_next b h l d =
          let z : suc (count_line t s.rank + suc i) ≡ count_line t s.rank + suc (i + 1) = omega arith in
          let o : suc i ≡ i + 1 = omega arith in
          record {
            inside = c.inside;
            here = d ∙ ap (from_line t) z;
            left = g.left ∙ l ∙ ap (left_test m t) z;
            weighs = going_weighs ∙ ap (incidences_to (said t) s.rank) o;
            few = h;
            raised =
                raised_then s.from s.below _ _ _ up₀ up up' g.raised c.raised (λ y. sum_next _ i);
            low = c.few;
            passed =
                omega (arith, g.passed, c.count, subs_to_next (said t) s.rank i)
                ∙ ap (subs_to (said t) s.rank) o;
            half = omega (arith, g.half, c.later);
            light = omega (arith, g.light);
            notes = going_noted b;
          }

    module _ (z : i ≡ n) where
      -- the sups of the rank below are counted now
      sups_done : (q x : ℕ) → suc q < suc s.rank → x < (said t).size q
          → get_or up (sum (said t).size q + x) 0 ≡ length (derived (said t) q x)
      sups_done q x h l = ⊎_elim here_now before (eq-or-lt_of_le (le_of_suc-le-suc h))
        where
          here_now : suc q ≡ s.rank → get_or up (sum (said t).size q + x) 0 ≡ length (derived (said t) q x)
          here_now j =
              let f = from_is q (sym j) in
              let a = g.raised.at x (rw f.1 l) in
              let o = e.sups.rest (s.from + x) (omega arith) in
              let d = derived_length (said t) q x in
              let k : i ≡ (said t).size (suc q) = z ∙ e.size ∙ ap (said t).size (sym j) in
              let w : met_to t s.rank i x ≡ length (derived (said t) q x) = rw (k, ← j) (sym d) in
              rw (← f.0) (a ∙ omega (arith, o, w))

          before : suc q < s.rank → get_or up (sum (said t).size q + x) 0 ≡ length (derived (said t) q x)
          before j = g.raised.earlier _ (lower q x j l) ∙ e.sups.done q x j l

      all_raised : Raising m t (suc s.rank) (s.from + s.below) at up
      all_raised = record {
        long = omega (arith, e.sups.long, g.raised.same_length);
        done = sups_done;
        rest = λ k h. g.raised.later k h ∙ e.sups.rest k (omega arith);
        few = g.low;
      }

      abbrev past : Headway
      past = record {
        at = at;
        rank = s.rank + 1;
        from = s.from + s.below;
        below = n;
        incidences = incidences;
        subs = to;
      }

      all_passed : to ≡ subs_to (said t) (suc s.rank) 0
      all_passed = g.passed ∙ ap (subs_to (said t) s.rank) (z ∙ e.size) ∙ sym (subs_to_rank (said t) s.rank)

      all_weighs : incidences ≡ incidences_to (said t) (suc s.rank) 0
      all_weighs =
          let w = incidences_to_rank (said t) s.rank in
          let v = ap (incidences_to (said t) s.rank) (z ∙ e.size) in
          omega (arith, g.weighs, v, w)

      -- the next rank comes
      pub going_all : Arrived m t past up many subs
      unfolding size_below sum
      going_all =
          let r : s.rank + 1 ≡ suc s.rank = omega arith in
          let k : count_line t s.rank + suc i ≡ count_line t (suc s.rank) =
          omega (arith, count_next t s.rank e.rank, e.size) in
          rw r (record {
            short = e.short;
            ranks = e.ranks;
            rank = omega (arith, e.rank);
            inside = g.inside;
            here = g.here ∙ ap (from_line t) k;
            left = g.left ∙ ap (left_test m t) k;
            below = e.size;
            total = omega (arith, e.total, e.size);
            elements = e.elements;
            weighs = all_weighs;
            incidences = g.few;
            sups = all_raised;
            passed = all_passed;
            half = g.half;
            light = g.light;
            notes = rw (← z) g.notes;
          })
