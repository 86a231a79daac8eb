-- What is left of a text decides, line by line: a line that is refused, one that passes a limit, one that is passed.
-- Assumes nothing.
use mathlib.Core.Path.{◌≡◌, refl, sym, ap, ◌∙◌}
use mathlib.Core.List.{List, [], ◌∷◌}
use Prim.Native.Nat.{ℕ, suc, ◌+◌, ◌≤◌, ◌<◌}
use native.Mathlib.Omega.{arith}
use native.Mathlib.Numerals.{add-one}
use borrow.Author.Tests.{lt-ltb, le-ltb}
use lib.ListN.{length, drop}
use Rattle.listing.specs.declared.Answer.{Answer}
use Rattle.order.specs.Sums.{sum}
use Rattle.listing.specs.Refusals.{over_elements, over_incidences}
use Rattle.listing.specs.Answers.{plain, fine, ◌or_else◌}
use Rattle.listing.specs.Listing.{Limits}
use Rattle.listing.specs.declared.Refusal.{Refusal}
use Rattle.listing.specs.Told.{answer_of}
use Rattle.listing.proofs.Told.{refuses, halts}
use Rattle.listing.proofs.Answers.{or_fine, or_stop, of_next, of_stop}
use Rattle.text_theory.specs.Text.{Line, count_key, subs_key, line_of, line_count}
use Rattle.text_theory.specs.Said.{from_line, after_line, count_line, said, value, values, form_test}
use Rattle.text_theory.specs.Said.{Bound, bound_of, bound_test, line_test, incidences_to}
use Rattle.text_theory.proofs.Spots.{said_size, said_under, count_below, count_test, list_below, list_test}
use Rattle.text_lines.specs.Lines.{form_of}
use Rattle.text_sizes.specs.Measure.{left_test}

-- ---- one line of those that are left

module _ (m : Limits) (t : List ℕ) (k : ℕ) (h : k < line_count (said t)) where
  left_stop : ((line_test m t k).no ≡ 0 → ⊥) → left_test m t k ≡ line_test m t k
  unfolding left_test
  left_stop s =
      let e = of_stop _ (line_test m t) k (line_count (said t)) refl h s in
      rw e (or_stop (line_test m t k) _ s)

  left_go : (line_test m t k).no ≡ 0 → left_test m t k ≡ left_test m t (suc k)
  unfolding left_test
  left_go z =
      let e = of_next _ (line_test m t) k (line_count (said t)) refl h z in
      rw (e, add-one) refl

-- line k of a text stands at a place: it is to be l, and it is the one at which b is tested
pub record LineAt (m : Limits) (t : List ℕ) (k at : ℕ) (l : Line) (b : Bound) : Type 0 where
  pub below : k < line_count (said t)
  pub here : drop at t ≡ from_line t k
  pub test : line_test m t k ≡ form_test l (from_line t k) or_else bound_test b

module _ {m : Limits} {t : List ℕ} {k at : ℕ} {l : Line} {b : Bound} (a : LineAt m t k at l b) where
  -- its test, as it was found
  found : (x : Answer) → x ≡ form_test l (drop at t) → line_test m t k ≡ x or_else bound_test b
  found x f = a.test ∙ ap (λ (y : Answer). y or_else bound_test b) (ap (form_test l) (sym a.here) ∙ sym f)

  pub line_refused : (d : Refusal) → answer_of d ≡ form_test l (drop at t) → answer_of d ≡ left_test m t k
  line_refused d f =
      let e = found (answer_of d) f ∙ or_stop (answer_of d) (bound_test b) (refuses d) in
      sym (left_stop m t k a.below (halts d (sym e)) ∙ e)

  module _ (f : fine ≡ form_test l (drop at t)) where
    bounded : line_test m t k ≡ bound_test b
    bounded = found fine f ∙ or_fine fine (bound_test b) refl

    pub line_over : (b.no ≡ 0 → ⊥) → b.most < b.amount → plain b.no ≡ left_test m t k
    line_over s h =
        let o : bound_test b ≡ plain b.no = rw (lt-ltb b.most b.amount h) in
        let e = bounded ∙ o in
        sym (left_stop m t k a.below (λ q. s (ap (λ (x : Answer). x.no) (sym e) ∙ q)) ∙ e)

    pub line_goes : b.amount ≤ b.most → left_test m t k ≡ left_test m t (suc k)
    line_goes h =
        let o : bound_test b ≡ fine = rw (le-ltb b.most b.amount h) in
        left_go m t k a.below (ap (λ (x : Answer). x.no) (bounded ∙ o))

-- what comes after it
pub here_next : (t : List ℕ) (k at next : ℕ) → drop at t ≡ from_line t k → drop next t ≡ after_line (drop at t)
    → drop next t ≡ from_line t (suc k)
unfolding from_line
here_next t k at next h e = e ∙ ap after_line h

-- ---- the line with the count of a rank

module _ (m : Limits) (t : List ℕ) (r at : ℕ) (h : r ≤ (said t).top)
    (e : drop at t ≡ from_line t (count_line t r)) where
  count_stands : LineAt m t (count_line t r) at (line_of (said t) (r, 0)) (bound_of m (said t) (r, 0))
  count_stands = record { below = count_below t r h; here = e; test = count_test t r h m }

  -- its number is the count
  pub count_told : value (drop (length count_key) (drop at t)) ≡ (said t).size r
  count_told = ap (λ (u : List ℕ). value (drop (length count_key) u)) e ∙ sym (said_size t r h)

  -- what is asked of it
  abbrev count_asked : Answer
  count_asked = form_of count_key (value (drop (length count_key) (drop at t)) ∷ []) (drop at t)

  count_form : count_asked ≡ form_test (line_of (said t) (r, 0)) (drop at t)
  unfolding line_of
  count_form = ap (λ (n : ℕ). form_of count_key (n ∷ []) (drop at t)) count_told

  pub count_refused : (d : Refusal) → answer_of d ≡ count_asked → answer_of d ≡ left_test m t (count_line t r)
  count_refused d f = line_refused count_stands d (f ∙ count_form)

  module _ (f : fine ≡ count_asked) where
    pub count_over : m.elements < sum (said t).size (suc r) → plain over_elements ≡ left_test m t (count_line t r)
    unfolding bound_of
    count_over l = line_over count_stands (f ∙ count_form) (λ q. omega arith) l

    pub count_goes : sum (said t).size (suc r) ≤ m.elements
        → left_test m t (count_line t r) ≡ left_test m t (suc (count_line t r))
    unfolding bound_of
    count_goes l = line_goes count_stands (f ∙ count_form) l

-- ---- the line of an element

module _ (m : Limits) (t : List ℕ) (r at : ℕ) (h : r ≤ (said t).top) (i : ℕ) (l : i < (said t).size r)
    (e : drop at t ≡ from_line t (count_line t r + suc i)) where
  list_stands : LineAt m t (count_line t r + suc i) at (line_of (said t) (r, suc i)) (bound_of m (said t) (r, suc i))
  list_stands = record { below = list_below t r h i l; here = e; test = list_test t r h m i l }

  -- its numbers are what lies under the element
  pub list_told : values (drop (length subs_key) (drop at t)) ≡ (said t).under r i
  list_told = ap (λ (u : List ℕ). values (drop (length subs_key) u)) e ∙ sym (said_under t r i)

  -- what is asked of it
  abbrev list_asked : Answer
  list_asked = form_of subs_key (values (drop (length subs_key) (drop at t))) (drop at t)

  list_form : list_asked ≡ form_test (line_of (said t) (r, suc i)) (drop at t)
  unfolding line_of
  list_form = ap (λ (ns : List ℕ). form_of subs_key ns (drop at t)) list_told

  pub list_refused : (d : Refusal) → answer_of d ≡ list_asked → answer_of d ≡ left_test m t (count_line t r + suc i)
  list_refused d f = line_refused list_stands d (f ∙ list_form)

  module _ (f : fine ≡ list_asked) where
    pub list_over : m.incidences < incidences_to (said t) r (suc i)
        → plain over_incidences ≡ left_test m t (count_line t r + suc i)
    unfolding bound_of
    list_over b = line_over list_stands (f ∙ list_form) (λ q. omega arith) b

    pub list_goes : incidences_to (said t) r (suc i) ≤ m.incidences
        → left_test m t (count_line t r + suc i) ≡ left_test m t (suc (count_line t r + suc i))
    unfolding bound_of
    list_goes b = line_goes list_stands (f ∙ list_form) b
