-- The first line of a text, and what is known past the last: the sizes of the listing, and the sups of each element.
-- Assumes nothing.
use mathlib.Core.Path.{◌≡◌, refl, sym, ap, ◌∙◌}
use mathlib.Core.Logic.{⊎_elim}
use mathlib.Core.List.{List, [], ◌∷◌}
use Prim.Native.Nat.{ℕ, suc, ◌+◌, ◌*◌, ◌≤◌, ◌<◌}
use native.Mathlib.Nat.{eq-or-lt_of_le}
use native.Mathlib.Omega.{arith}
use borrow.Author.Tests.{lt-ltb, le-ltb}
use lib.ListN.{length, get_or, drop, length-drop}
use Rattle.order.specs.Lists.{occurs}
use Rattle.order.specs.Sums.{sum}
use Rattle.order.proofs.Sums.{sum_none}
use Rattle.listing.specs.declared.Answer.{Answer}
use Rattle.listing.specs.declared.Refusal.{Refusal}
use Rattle.listing.specs.Told.{answer_of}
use Rattle.listing.specs.Refusals.{long_text, over_ranks, more_bytes}
use Rattle.listing.specs.Answers.{plain, fine, ◌or_else◌, first_of}
use Rattle.listing.specs.Listing.{Limits}
use Rattle.listing.specs.Layers.{Topped, derived}
use Rattle.listing.proofs.Answers.{of_end}
use Rattle.listing.proofs.Told.{told_err}
use Rattle.listing.proofs.Layers.{in_range, derived_length}
use Rattle.listing.proofs.Written.{written_counts_length, written_ends_length, written_inc_length, written_shaped}
use Rattle.listing_outputs.specs.Output.{need_of}
use Rattle.listing_sups.specs.Sups.{Counted}
use Rattle.text_theory.specs.Text.{rank_key, line_count}
use Rattle.text_theory.specs.Said.{from_line, count_line, said, listing_in, value, size_below, incidences_to, line_test}
use Rattle.text_theory.specs.Said.{text_test}
use Rattle.text_theory.specs.Notes.{subs_to, Noted}
use Rattle.text_theory.proofs.Spots.{said_topped, said_top, rank_test, count_first, count_last}
use Rattle.text_theory.proofs.Incidences.{incidences_total, incidences_to_first, incidences_to_rank}
use Rattle.text_lines.specs.declared.lines.Single.{Single}
use Rattle.text_lines.specs.Lines.{form_of, LineRead}
use Rattle.text_sizes.specs.declared.measure.Headway.{Headway}
use Rattle.text_sizes.specs.Measure.{left_test, Raising, CountsNoted, Arrived, SizesRead}
use Rattle.text_sizes.proofs.Noting.{subs_to_first, counts_none, elements_none, all_noted}
use Rattle.text_sizes.proofs.Lefts.{LineAt, line_refused, line_over, line_goes, here_next}

-- a text that is too long, and any other
module _ (m : Limits) (t : List ℕ) where
  pub text_over : m.text < length t → plain long_text ≡ text_test m t
  unfolding text_test ◌or_else◌
  text_over h = rw (lt-ltb m.text (length t) h) refl

  pub text_left : length t ≤ m.text → text_test m t ≡ left_test m t 0
  unfolding text_test left_test ◌or_else◌
  text_left h = rw (le-ltb m.text (length t) h) refl

-- ---- the line with the rank

module _ (m : Limits) (t : List ℕ) (h : length t ≤ m.text) where
  first_stands : LineAt m t 0 0 (record { key = rank_key; numbers = (said t).top ∷ [] })
      (record { amount = suc (said t).top; most = m.ranks; no = over_ranks })
  unfolding line_count from_line
  first_stands = record { below = omega arith; here = refl; test = rank_test t m }

  -- what is asked of it
  abbrev asked : Answer
  asked = form_of rank_key (value (drop (length rank_key) (drop 0 t)) ∷ []) (drop 0 t)

  first_form : asked ≡ form_of rank_key ((said t).top ∷ []) (drop 0 t)
  unfolding said
  first_form = refl

  pub first_refused : (d : Refusal) → answer_of d ≡ asked → answer_of d ≡ text_test m t
  first_refused d f = line_refused first_stands d (f ∙ first_form) ∙ sym (text_left m t h)

  module _ (f : fine ≡ asked) {c : Single} (l : LineRead t 0 rank_key c) where
    pub top_is : c.value ≡ (said t).top
    unfolding from_line
    top_is = l.value ∙ sym (said_top t)

    pub first_over : m.ranks ≤ c.value → plain over_ranks ≡ text_test m t
    first_over b =
        line_over first_stands (f ∙ first_form) (λ q. omega arith) (omega (arith, top_is)) ∙ sym (text_left m t h)

    -- past it the first rank comes
    abbrev first_rank : Headway
    first_rank = record { at = c.next; rank = 0; from = 0; below = 0; incidences = 0; subs = 0 }

    none_raised : (up : List ℕ) → m.elements ≤ length up → ((k : ℕ) → get_or up k 0 ≡ 0) → Raising m t 0 0 c.next up
    none_raised up g o = record {
      long = g;
      done = λ i x j. absurd (omega arith);
      rest = λ k j. o k;
      few = λ k. omega (arith, o k, l.later);
    }

    pub first_came : c.value < m.ranks → {up many subs : List ℕ} → m.elements ≤ length up
        → ((k : ℕ) → get_or up k 0 ≡ 0) → m.elements ≤ length many → m.incidences ≤ length subs
        → Arrived m t first_rank up many subs
    unfolding size_below
    first_came b {up} {many} {subs} g o y x = record {
      short = h;
      ranks = omega (arith, top_is);
      rank = omega arith;
      inside = l.inside;
      here = here_next t 0 0 c.next first_stands.here l.after ∙ ap (from_line t) (sym (count_first t));
      left =
          text_left m t h ∙ line_goes first_stands (f ∙ first_form) (omega (arith, top_is))
          ∙ ap (left_test m t) (sym (count_first t));
      below = refl;
      total = sym (sum_none (said t).size);
      elements = omega arith;
      weighs = sym (incidences_to_first (said t));
      incidences = omega arith;
      sups = none_raised up g o;
      passed = sym (subs_to_first (said t));
      half = omega arith;
      light = omega arith;
      notes = elements_none many subs y x;
    }

-- ---- past the last line

module _ {m : Limits} {t : List ℕ} {s : Headway} {up many subs : List ℕ} (c : Arrived m t s up many subs)
    (r : s.rank ≡ suc (said t).top) where
  at_last : count_line t s.rank ≡ line_count (said t)
  at_last = ap (count_line t) r ∙ count_last t

  -- what is left is what follows the lines
  rest_length : length (from_line t (line_count (said t))) ≡ length (drop s.at t)
  rest_length = ap length (ap (from_line t) (sym at_last) ∙ sym c.here)

  no_line_left : first_of (line_test m t) (count_line t s.rank) (line_count (said t)) ≡ fine
  no_line_left = of_end _ (line_test m t) _ _ refl (omega (arith, at_last))

  pub bytes_over : s.at < length t → plain more_bytes ≡ text_test m t
  unfolding left_test ◌or_else◌
  bytes_over h =
      let z : 0 < length (from_line t (line_count (said t))) = omega (arith, rest_length, length-drop s.at t) in
      sym (c.left ∙ rw (no_line_left, lt-ltb 0 _ z) refl)

  pub bytes_none : length t ≤ s.at → fine ≡ text_test m t
  unfolding left_test ◌or_else◌
  bytes_none h =
      let z : length (from_line t (line_count (said t))) ≤ 0 = omega (arith, rest_length, length-drop s.at t) in
      sym (c.left ∙ rw (no_line_left, le-ltb 0 _ z) refl)

  -- how large the listing is
  from_is : (s.from ≡ sum (said t).size (said t).top) × (s.below ≡ (said t).size (said t).top)
  unfolding sum size_below
  from_is =
      let b : s.below ≡ (said t).size (said t).top = c.below ∙ ap (size_below (said t)) r in
      (omega (arith, c.total ∙ ap (sum (said t).size) r, b), b)

  elements_are : s.from + s.below ≡ sum (said t).size (suc (said t).top)
  elements_are = c.total ∙ ap (sum (said t).size) r

  incidences_are : s.incidences ≡ length (listing_in t).inc
  incidences_are =
      c.weighs ∙ ap (λ (q : ℕ). incidences_to (said t) q 0) r ∙ incidences_to_rank (said t) (said t).top
      ∙ sym (incidences_total (said t) (said_topped t))

  -- above the top there is nothing
  top_sups : (q x : ℕ) → q ≡ (said t).top → get_or up (sum (said t).size q + x) 0 ≡ length (derived (said t) q x)
  unfolding Topped sum
  top_sups q x e =
      let z : (said t).size (suc q) ≡ 0 = said_topped t (suc q) (omega arith) in
      let d : length (derived (said t) q x) ≡ 0 =
      derived_length (said t) q x ∙ ap (sum (λ b. occurs x ((said t).under (suc q) b))) z in
      c.sups.rest _ (rw e (omega (arith, from_is.0))) ∙ sym d

  -- how many sups each element has
  sups_counted : Counted (said t) up
  sups_counted = record {
    long = omega (arith, c.sups.long, c.elements, elements_are);
    at = λ q x l. ⊎_elim (top_sups q x) (λ h. c.sups.done q x (omega (arith, r)) l)
        (eq-or-lt_of_le (in_range (said t) (said_topped t) q x l));
  }

  -- and the numbers that were noted are all
  notes_read : {counts : List ℕ} → CountsNoted m (said t) s.rank counts → Noted (said t) counts many subs
  notes_read k =
      let a = ap (λ (q : ℕ). subs_to (said t) q 0) r in
      all_noted {m = m} (said_topped t) c.ranks (rw (← r) k) (rw (← elements_are) c.notes)
      (omega (arith, elements_are, c.elements)) (omega (arith, c.passed, a, c.light, c.incidences))

  pub sizes_read : {counts : List ℕ} → CountsNoted m (said t) s.rank counts → (n : ℕ) → n ≡ (said t).top
      → SizesRead m t up counts many subs
      (record { counts = n + 1; ends = 2 * (s.from + s.below); inc = s.incidences })
  sizes_read k n e = record {
    need = need_is;
    shaped =
        written_shaped (said t) (derived (said t)) (said_topped t) m c.ranks
        (omega (arith, elements_are, c.elements))
        (rw (← written_inc_length (said t) (derived (said t))) (omega (arith, incidences_are, c.incidences)));
    counted = sups_counted;
    noted = notes_read k;
  }
    where
      need_is : record { counts = n + 1; ends = 2 * (s.from + s.below); inc = s.incidences } ≡ need_of (listing_in t)
      need_is =
          let a : n + 1 ≡ length (listing_in t).counts =
          omega (arith, e, written_counts_length (said t) (derived (said t))) in
          let b : 2 * (s.from + s.below) ≡ length (listing_in t).ends =
          omega (arith, elements_are, written_ends_length (said t) (derived (said t))) in
          λ i. record { counts = a i; ends = b i; inc = incidences_are i }

-- a text that is too long, a first line that is refused or passes the limit, and no counts noted yet
pub ruleset whole = (told_err, text_over, first_refused, first_over, counts_none)
