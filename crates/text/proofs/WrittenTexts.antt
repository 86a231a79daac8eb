-- Writing a text: the order of its refusals; what is answered and left, put together and taken apart again; and that
-- the text of a closed listing reads as that listing.
-- Assumes nothing.
use mathlib.Core.Path.{◌≡◌, refl, sym, ap, ◌∙◌}
use mathlib.Core.Logic.{◌⊎◌, inl, inr, ◌↔◌}
use mathlib.Core.List.{List}
use Prim.Native.Nat.{ℕ, zero, suc, ◌-◌, ◌≤◌, ◌<◌}
use native.Mathlib.Omega.{arith}
use borrow.Author.Tests.{lt-ltb, le-ltb}
use lib.ListN.{length, take}
use Rattle.order.specs.Lists.{In, over}
use Rattle.order.specs.Sums.{sum}
use Rattle.order.proofs.Over.{over_length, over_front}
use Rattle.listing.specs.declared.Answer.{Answer}
use Rattle.listing.specs.Refusals.{bytes_short, long_text}
use Rattle.listing.specs.Answers.{plain, fine, ◌or_else◌}
use Rattle.listing.specs.Listing.{Listing, Limits, limits, rank, count, before}
use Rattle.listing.specs.Layers.{layers}
use Rattle.listing.specs.Rules.{FirstBroken}
use Rattle.listing.specs.declared.Refusal.{Refusal}
use Rattle.listing.specs.Told.{answer_of}
use Rattle.listing.proofs.Told.{refuses, then_ok, then_halt}
use Rattle.std.proofs.Common.{Result, Ok, Err}
use Rattle.std.specs.Result.{IsErrAnd}
use Rattle.std.proofs.lemmas.Result.{err_from_is_err_and}
use Rattle.listing.proofs.Answers.{or_fine, or_no, no_or, no_of, stops, if_not}
use Rattle.listing.proofs.Broken.{tests_over, zero_or, broken_step, broken_last}
use Rattle.listing.proofs.Layers.{layers_topped}
use Rattle.listing.proofs.Places.{few_in_rank}
use Rattle.listing.proofs.ShapeExact.{shaped_ranks}
use Rattle.listing_outputs.proofs.Output.{after_refused, after_full}
use Rattle.valid_incidence.specs.Incidence.{Incident}
use Rattle.valid.specs.Tests.{closed}
use Rattle.valid.specs.Closed.{Closed}
use Rattle.valid.proofs.ClosedExact.{closed_exact}
use Rattle.valid.proofs.DerivedSups.{closed_written}
use Rattle.valid.proofs.TestsBroken.{closed_then}
use Rattle.text_theory.specs.Text.{lines_in, line_of, line_at, line_count, text_of}
use Rattle.text_theory.specs.Said.{listing_in, text_test}
use Rattle.text_theory.specs.Places.{NumbersFit, Readable}
use Rattle.text_theory.proofs.Spots.{spotted, spot_line}
use Rattle.text_theory.proofs.Accepted.{reads_exactly, read_is}
use Rattle.text.specs.declared.Written.{Written}
use Rattle.text.specs.Rules.{write_rules}
use Rattle.text.specs.WrittenTexts.{length_test, write_test, written_of, told_written, TextMade}

-- ---- the order of the refusals

module _ (m : Limits) (n room : ℕ) where
  pub length_short : room < n → length_test m n room ≡ plain bytes_short
  unfolding length_test ◌or_else◌
  length_short h = rw (lt-ltb room n h)

  pub length_over : n ≤ room → m.text < n → length_test m n room ≡ plain long_text
  unfolding length_test ◌or_else◌
  length_over h k = rw (le-ltb room n h, lt-ltb m.text n k)

  pub length_fine : n ≤ room → n ≤ m.text → length_test m n room ≡ fine
  unfolding length_test ◌or_else◌
  length_fine h k = rw (le-ltb room n h, le-ltb m.text n k)

  -- one law for each answer
  pub ruleset lengths = (length_short, length_over, length_fine)

  pub length_fits : (length_test m n room).no ≡ 0 → (n ≤ room) × (n ≤ m.text)
  unfolding length_test
  length_fits z =
      let p = or_no _ _ z in (
        (tests_over bytes_short (omega arith) room n).exact.0 p.0,
        (tests_over long_text (omega arith) m.text n).exact.0 p.1,
      )

module _ (m : Limits) (L : Listing) (room : ℕ) where
  abbrev size : ℕ
  size = length (text_of (layers L))

  pub write_halt : (d : Refusal) → answer_of d ≡ closed m L → answer_of d ≡ write_test m L room
  unfolding write_test
  write_halt d e = then_halt (length_test m size room) d e

  -- n is the length that is tested
  pub write_then : fine ≡ closed m L → {n : ℕ} → n ≡ size → {a : Answer} → a ≡ length_test m n room
      → a ≡ write_test m L room
  unfolding write_test
  write_then f e {a} h = then_ok (length_test m size room) f a (h ∙ ap (λ (n : ℕ). length_test m n room) e)

  pub write_goes : (closed m L).no ≡ 0 → write_test m L room ≡ length_test m size room
  unfolding write_test
  write_goes z = or_fine (closed m L) _ z

  pub write_broken : FirstBroken (write_rules m L room) (write_test m L room).no
  unfolding write_test length_test
  write_broken =
      closed_then m L _ _ (λ C. broken_step _ (tests_over bytes_short (omega arith) room size) _
      (λ h. broken_last (tests_over long_text (omega arith) m.text size)))

  -- it answers 0 exactly if the listing is closed and its text fits
  pub write_exact : (write_test m L room).no ≡ 0 ↔ (Closed m L × (size ≤ room) × (size ≤ m.text))
  unfolding write_test
  write_exact = (
    λ z.
        let p = or_no (closed m L) _ z in
        let f = length_fits m size room p.1 in
        ((closed_exact m L).0 p.0, f.0, f.1),
    λ w. no_or (closed m L) _ ((closed_exact m L).1 w.0)
        (ap (λ (a : Answer). a.no) (length_fine m size room w.1 w.2)),
  )

-- ---- what is answered and left

pub written_refused : (a : Answer) (n : ℕ) → (a.no ≡ 0 → ⊥) → written_of a n ≡ record { answer = a; length = 0 }
unfolding written_of
written_refused a n h = ap (λ (k : ℕ). record { answer = a; length = k }) (if_not a.no n 0 h)

pub written_full : (a : Answer) (n : ℕ) → a.no ≡ 0 → written_of a n ≡ record { answer = a; length = n }
unfolding written_of
written_full a n z = rw z

pub text_refused : (a t : Answer) (s old : List ℕ) (r : Written) → a ≡ t → (a.no ≡ 0 → ⊥)
    → r ≡ written_of a (length s) → TextMade t s old old r
text_refused a t s old r e h w = rw (← e) (record { answer = w; text = after_refused a h s old })

pub text_written : (a t : Answer) (s old new : List ℕ) (r : Written) → a ≡ t → a.no ≡ 0
    → r ≡ record { answer = a; length = length s } → new ≡ over s old → TextMade t s old new r
text_written a t s old new r e z w o = rw (← e) (record {
  answer = w ∙ sym (written_full a (length s) z);
  text = o ∙ sym (after_full a z s old);
})

-- a refusal that `?` returns
pub text_err : {s : List ℕ} {t : Answer} (r : Result ℕ Refusal) (d : Refusal) → IsErrAnd r (λ x. x ≡ d)
    → answer_of d ≡ t → (old : List ℕ) → TextMade t s old old (told_written r)
text_err {s} {t} r d h e old =
    let p = err_from_is_err_and r h in
    rw (p.1, p.2)
    (text_refused (answer_of d) t s old (told_written (Err d)) e (refuses d)
    (sym (written_refused (answer_of d) (length s) (refuses d))))

-- the bytes that are answered of a text that is written
pub text_ok : {t : Answer} → fine ≡ t → (s old new : List ℕ) (n : ℕ) → n ≡ length s → new ≡ over s old
    → TextMade t s old new (told_written (Ok n))
text_ok {t} e s old new n h o =
    let w : told_written (Ok n) ≡ record { answer = fine; length = length s } =
    ap (λ (k : ℕ). record { answer = fine; length = k }) h in
    text_written fine t s old new (told_written (Ok n)) e refl w o

module _ {t : Answer} {s old new : List ℕ} {r : Written} (d : TextMade t s old new r) where
  pub text_answer : r.answer ≡ t
  unfolding written_of
  text_answer = ap (λ (w : Written). w.answer) d.answer

  pub text_untouched : (r.answer.no ≡ 0 → ⊥) → (new ≡ old) × (r.length ≡ 0)
  text_untouched h =
      let k = stops text_answer h in
      (d.text ∙ sym (after_refused t k s old), ap (λ (w : Written). w.length) (d.answer ∙ written_refused t _ k))

  module _ (z : r.answer.no ≡ 0) where
    pub text_wrote : (r.length ≡ length s) × (new ≡ over s old)
    text_wrote =
        let k = no_of text_answer z in
        (ap (λ (w : Written). w.length) (d.answer ∙ written_full t _ k), d.text ∙ after_full t k s old)

    pub text_front : take r.length new ≡ s
    text_front = over_front s old text_wrote

pub text_once : {t : Answer} {s old new new' : List ℕ} {r r' : Written} → TextMade t s old new r
    → TextMade t s old new' r' → (r ≡ r') × (new ≡ new')
text_once p q = (p.answer ∙ sym q.answer, p.text ∙ sym q.text)

-- what is written lies inside the slice, which is as long as before
module _ (m : Limits) (L : Listing) {old new : List ℕ} {r : Written}
    (d : TextMade (write_test m L (length old)) (text_of (layers L)) old new r) where
  pub text_inside : (r.length ≤ length old) × (length new ≡ length old)
  text_inside = go (zero_or r.answer.no)
    where
      go : (r.answer.no ≡ 0) ⊎ (r.answer.no ≡ 0 → ⊥) → (r.length ≤ length old) × (length new ≡ length old)
      go (inl z) =
          let h = ((write_exact m L (length old)).0 (no_of (text_answer d) z)).1 in
          let w = text_wrote d z in
          (omega (arith, h, w.0), ap length w.1 ∙ over_length (text_of (layers L)) old h)
      go (inr s) = let u = text_untouched d s in (omega (arith, u.1), ap length u.0)

-- ---- a closed listing reads as itself

module _ (L : Listing) (C : Closed limits L) where
  -- the numbers of its lines are such that a text can have them
  line_fits : (r i : ℕ) → i < lines_in (layers L) r → NumbersFit (line_of (layers L) (r, i)).numbers
  unfolding line_of In Incident
  line_fits r zero h x (inl e) = omega (arith, e, few_in_rank L C.shaped r)
  line_fits r zero h x (inr k) = elim k [ ]
  line_fits r (suc i) h x k =
      let b = (C.incident r i (omega arith)).lower.each x k in
      omega (arith, b.1, few_in_rank L C.shaped (r - 1))

  lines_fit : (j : ℕ) → j < line_count (layers L) → NumbersFit (line_at (layers L) j).numbers
  unfolding line_at In
  lines_fit zero h x (inl e) = omega (arith, e, C.shaped.few_ranks)
  lines_fit zero h x (inr k) = elim k [ ]
  lines_fit (suc j) h x k =
      let s = spotted (layers L) j h in
      line_fits _ _ s.placed x (rw (spot_line (layers L) (suc j) _ _ s) at k)

  elements_few : sum (λ r. count L r) (suc (rank L)) ≤ limits.elements
  unfolding before
  elements_few =
      omega (arith, ap (before L.counts) (shaped_ranks L C.shaped), C.shaped.few_elements)

  readable : length (text_of (layers L)) ≤ limits.text → Readable limits (layers L)
  readable h = record {
    topped = layers_topped L;
    ranks = omega (arith, C.shaped.some_rank, C.shaped.few_ranks);
    elements = elements_few;
    incidences = rw (closed_written L C) C.shaped.few_incidences;
    fit = lines_fit;
    short = h;
  }

  pub reads_own : length (text_of (layers L)) ≤ limits.text → (text_test limits (text_of (layers L))).no ≡ 0
  reads_own h = (reads_exactly limits (text_of (layers L))).1 (layers L, readable h, refl)

  pub listing_own : listing_in (text_of (layers L)) ≡ L
  listing_own = sym (read_is (layers L) (text_of (layers L)) refl (layers_topped L)) ∙ closed_written L C
