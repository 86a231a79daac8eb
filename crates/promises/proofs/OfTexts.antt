-- What is promised of reading a text, of checking one, and of writing one, of whatever their contracts admit.
-- Assumes nothing.
use mathlib.Core.Path.{◌≡◌, refl, ap, sym, ◌∙◌}
use mathlib.Core.Logic.Iff
use mathlib.Core.Logic.{◌≢◌, inl, inr, ◌↔◌}
use mathlib.Core.Bool.{◌||◌}
use mathlib.Core.List.{List}
use Prim.Native.Nat.{ℕ, ◌≤◌, ◌<◌}
use native.Mathlib.Omega.{arith}
use lib.Dec.{ltb}
use lib.ListN.{length, take}
use Rattle.std.proofs.Common.{Result}
use Rattle.listing.specs.declared.Answer.{Answer}
use Rattle.listing.specs.declared.Built.{Built}
use Rattle.listing.specs.declared.Lengths.{Lengths}
use Rattle.listing.specs.declared.Refusal.{Refusal}
use Rattle.listing.specs.declared.Refusal.TheVariants.{LongText, BytesShort}
use Rattle.listing.specs.Refusals.{output_short, long_text, bytes_short}
use Rattle.listing.specs.Listing.{Listing, limits}
use Rattle.listing.specs.Layers.{Layers, Topped, layers, derived}
use Rattle.listing.specs.Written.{written}
use Rattle.listing.specs.Rules.{FirstBroken}
use Rattle.listing.specs.Told.{told, told_built}
use Rattle.listing.proofs.Answers.{or_fine, or_stop, or_no, no_or, no_of, if_not}
use Rattle.listing.proofs.Clear.{Plain, plain_on, plain_or, clear_or, clear_plain}
use Rattle.listing_outputs.specs.Output.{Fits, short_test, Made, prefix, Wrote}
use Rattle.listing_outputs.proofs.Output.{room_tested, made_answer, made_untouched, made_wrote, made_prefix, made_once}
use Rattle.valid.specs.Closed.{Closed}
use Rattle.valid.specs.Tests as tests
use Rattle.valid.proofs.ClosedExact.{closed_exact}
use Rattle.valid.proofs.TestsClear.{closed_clear}
use Rattle.valid.proofs.DerivedSups.{closed_derived}
use Rattle.text_theory.specs.Text.{text_of}
use Rattle.text_theory.specs.Said.{listing_in, text_test}
use Rattle.text_theory.specs.Places.{FirstPlace, Readable}
use Rattle.text_theory.proofs.Accepted as accepted
use Rattle.text_theory.proofs.Cuts.{list_bound_is}
use Rattle.text_theory.proofs.FirstPlaces as places
use Rattle.text_theory.proofs.TextTest.{text_passed}
use Rattle.text.specs.declared.Written.{Written}
use Rattle.text.specs.Texts.{read_test, check_test}
use Rattle.text.specs.WrittenTexts.{length_test, write_test, written_of, told_written, TextMade}
use Rattle.text.specs.Rules.{read_rules, write_rules}
use Rattle.text.proofs.TextNumbers.{read_exact, read_good, check_exact}
use Rattle.text.proofs.TextsBroken.{read_broken, check_broken}
use Rattle.text.proofs.WrittenTexts.{write_broken, write_exact, text_answer, text_untouched, text_wrote}
use Rattle.text.proofs.WrittenTexts.{text_front, text_once, reads_own, listing_own}
use Rattle.promises.specs.Entries.{lent, lent_text}
use Rattle.promises.specs.OfTexts.{TextGood, text_of_cell, TextsTaken, TextsRefuse, TextsAnswer, TextsOnce}
use Rattle.promises.proofs.Alike.{alike, any}
use Rattle.promises.proofs.Refused.{closed_refused, on_refused, or_refused, room_refused, room_clear, text_refused}
use Rattle.promises.proofs.Refused.{told_so, test_so, built_so}

pub texts_taken : TextsTaken
texts_taken = record { texts = (any, any, any) }

-- ---- what a reading answers and leaves

-- what the contract of read_text says
abbrev WasRead : List ℕ → Listing → Listing → Built → Type 0
WasRead t old new r =
    Made (read_test limits t (length old.counts) (length old.ends) (length old.inc)) (listing_in t) old new r

module _ (t : List ℕ) {old new : Listing} {r : Built} (d : WasRead t old new r) where
  -- which refusal comes when
  refuses : FirstBroken (read_rules limits t (length old.counts) (length old.ends) (length old.inc))
      r.answer.no
  refuses = rw (made_answer d) (read_broken limits t _ _ _)

  long : r.answer.no ≡ long_text ↔ (limits.text < length t)
  long =
      rw (made_answer d)
      (Iff.trans (read_exact limits t _ _ _ long_text (λ e. omega arith) (λ e. omega arith))
      (places.over_long limits t))

  first : length t ≤ limits.text
      → ((n : ℕ) → n ≢ 0 → n ≢ output_short → r.answer.no ≡ n ↔ FirstPlace limits t n)
      × (TextGood r.answer.no ↔ FirstPlace limits t 0)
  first h = rw (made_answer d) (
    λ n p q. Iff.trans (read_exact limits t _ _ _ n p q) (Iff.symm (places.first_place limits t h n)),
    Iff.trans (read_good limits t _ _ _) (Iff.symm (places.first_place limits t h 0)),
  )

  carries : Plain r.answer
  unfolding read_test short_test
  carries =
      let R = listing_in t in
      rw (made_answer d)
      (plain_or _ _ (places.text_plain limits t)
      (plain_on (ltb (length old.counts) (length R.counts) || (ltb (length old.ends) (length R.ends)
      || ltb (length old.inc) (length R.inc))) output_short))

  -- what is read
  exactly : TextGood r.answer.no ↔ ((M : Layers) × Readable limits M × (text_of M ≡ t))
  exactly = rw (made_answer d) (Iff.trans (read_good limits t _ _ _) (accepted.reads_exactly limits t))

  module _ (z : r.answer.no ≡ 0) where
    good : (text_test limits t).no ≡ 0
    unfolding read_test
    good = (or_no (text_test limits t) _ (no_of (made_answer d) z)).0

    wrote : (M : Layers) → Topped M → text_of M ≡ t → Wrote (written M (derived M)) old new r
    wrote M h e = rw (accepted.read_is M t e h) (made_wrote d z)

    back : text_of (layers (prefix new r)) ≡ t
    back = ap (λ (L : Listing). text_of (layers L)) (made_prefix d z) ∙ accepted.text_again limits t good

    -- what is then checked
    then_closed : (check_test limits t).no ≡ (tests.closed limits (prefix new r)).no
    unfolding check_test
    then_closed = rw (made_prefix d z, or_fine (text_test limits t) (tests.closed limits (listing_in t)) good)

  stops_first : ¬ TextGood r.answer.no → (check_test limits t).no ≡ r.answer.no
  unfolding check_test
  stops_first h =
      let n : r.answer.no ≢ 0 = λ z. h (inl z) in
      let e = (read_exact limits t _ _ _ r.answer.no n (λ k. h (inr k))).0
      (ap (λ (a : Answer). a.no) (sym (made_answer d))) in
      ap (λ (a : Answer). a.no) (or_stop (text_test limits t) _ (λ z. n (sym e ∙ z))) ∙ e

-- ---- what a check answers

long_checked : (t : List ℕ) → (check_test limits t).no ≡ long_text ↔ (limits.text < length t)
long_checked t =
    Iff.trans (check_exact limits t long_text (λ e. omega arith) (inr (omega arith))) (places.over_long limits t)

checks_exactly : (t : List ℕ) → (check_test limits t).no ≡ 0
    ↔ ((M : Layers) × Readable limits M × (text_of M ≡ t) × Closed limits (written M (derived M)))
unfolding check_test
checks_exactly t = (
  λ e.
      let p = or_no (text_test limits t) (tests.closed limits (listing_in t)) e in
      let q = (accepted.reads_exactly limits t).0 p.0 in
      (q.0, q.1, q.2, rw (accepted.read_is q.0 t q.2 q.1.topped) ((closed_exact limits _).0 p.1)),
  λ q. no_or (text_test limits t) _ ((accepted.reads_exactly limits t).1 (q.0, q.1, q.2))
      ((closed_exact limits _).1 (rw (accepted.read_is q.0 t q.2 q.1.topped) at q.3)),
)

-- ---- what a writing answers and leaves

-- what the contract of write_text says
abbrev WasWritten : Listing → List ℕ → List ℕ → Written → Type 0
WasWritten L old new r = TextMade (write_test limits L (length old)) (text_of_cell L) old new r

module _ (L : Listing) {old new : List ℕ} {r : Written} (d : WasWritten L old new r) where
  write_refuses : FirstBroken (write_rules limits L (length old)) r.answer.no
  write_refuses = rw (text_answer d) (write_broken limits L (length old))

  as_closed : (tests.closed limits L).no ≢ 0 → r.answer ≡ tests.closed limits L
  unfolding write_test
  as_closed h = text_answer d ∙ or_stop (tests.closed limits L) _ h

  write_plain : Closed limits L → Plain r.answer
  unfolding write_test length_test
  write_plain C =
      let n = length (text_of_cell L) in
      rw (text_answer d, or_fine (tests.closed limits L) _ ((closed_exact limits L).1 C))
      (plain_or _ _ (plain_on (ltb (length old) n) bytes_short) (plain_on (ltb limits.text n) long_text))

  exactly_written : r.answer.no ≡ 0
      ↔ (Closed limits L × (length (text_of_cell L) ≤ length old) × (length (text_of_cell L) ≤ limits.text))
  exactly_written = rw (text_answer d) (write_exact limits L (length old))

-- ---- one after the other

module _ (L : Listing) {old new : List ℕ} {w : Written} (d : WasWritten L old new w) (z : w.answer.no ≡ 0)
    (t : List ℕ) {old' new' : Listing} {r : Built} (q : WasRead t old' new' r) (e : t ≡ take w.length new)
    (f : Fits L (length old'.counts) (length old'.ends) (length old'.inc)) where
  the_text : t ≡ text_of_cell L
  the_text = e ∙ text_front d z

  the_listing : listing_in t ≡ L
  the_listing = ap listing_in the_text ∙ listing_own L ((exactly_written L d).0 z).0

  read_own : r.answer.no ≡ 0
  unfolding read_test
  read_own =
      let x = (exactly_written L d).0 z in
      let good = rw (← the_text) at (reads_own L x.0 x.2) in
      let room = (room_tested (listing_in t) (length old'.counts) (length old'.ends) (length old'.inc)).exact.1
      (rw the_listing f) in
      ap (λ (a : Answer). a.no) (made_answer q) ∙ no_or (text_test limits t) _ good room

  written_read : (r.answer.no ≡ 0) × (prefix new' r ≡ L)
  written_read = (read_own, made_prefix q read_own ∙ the_listing)

module _ (t : List ℕ) {old new : Listing} {r : Built} (q : WasRead t old new r) (z : r.answer.no ≡ 0)
    (L : Listing) (e : L ≡ prefix new r) (C : Closed limits L) {old' new' : List ℕ} {w : Written}
    (d : WasWritten L old' new' w) (h : length t ≤ length old') where
  own_text : text_of_cell L ≡ t
  own_text = ap text_of_cell e ∙ back t q z

  write_own : w.answer.no ≡ 0
  write_own =
      let k = (text_passed limits t (good t q z)).0 in
      (exactly_written L d).1 (C, omega (arith, ap length own_text, h), omega (arith, ap length own_text, k))

  read_written : (w.answer.no ≡ 0) × (take w.length new' ≡ t)
  read_written = (write_own, text_front d write_own ∙ own_text)

-- ---- a result that is told so

pub read_so : (t : List ℕ) {old new : Listing} {r : Built} → WasRead t old new r
    → (d : Result Lengths Refusal) × WasRead t old new (told_built d) × (r ≡ told_built d)
unfolding read_test
read_so t =
    built_so (clear_or (text_test limits t) (room_clear _ _ _ _))
    (or_refused _ _ (text_refused limits t) (room_refused _ _ _ _))

pub check_so : (t : List ℕ) → (d : Result (Unit {0}) Refusal) × (told d ≡ check_test limits t)
unfolding check_test
check_so t =
    test_so (clear_or (text_test limits t) (closed_clear limits (listing_in t)))
    (or_refused _ _ (text_refused limits t) (closed_refused (listing_in t)))

pub written_so : (L : Listing) {old new : List ℕ} {r : Written} → WasWritten L old new r
    → (d : Result ℕ Refusal) × WasWritten L old new (told_written d) × (r ≡ told_written d)
unfolding write_test length_test written_of
written_so L {old} {new} {r} m =
    let n = length (text_of_cell L) in
    let t = write_test limits L (length old) in
    let d = told_so
    (clear_or (tests.closed limits L) (clear_or _ (clear_plain (ltb limits.text n) long_text)))
    (or_refused _ _ (closed_refused L) (or_refused _ _ (on_refused _ BytesShort) (on_refused _ LongText)))
    told_written (written_of t n) (λ n. Unit) (λ e. (n, tt, rw e refl)) (λ d e h. rw (if_not t.no _ _ h, e) refl) in
    let e = m.answer ∙ sym d.2 in
    (d.0, rw (← e) m, e)

pub texts_refuse : TextsRefuse
texts_refuse = record {
  read_text_refuses = λ k a r x. refuses (lent_text a);
  check_text_refuses = λ k a r x p. rw p (check_broken limits (lent_text a));
  long_text_told = λ k a r x. long (lent_text a);
  long_text_checked = λ k a r x p. rw p (long_checked (lent_text a));
  first_place = λ k a r x. first (lent_text a);
  first_place_checked = λ k a r x p h n s q. rw p
      (Iff.trans (check_exact limits (lent_text a) n s q) (Iff.symm (places.first_place limits (lent_text a) h n)));
  read_text_plain = λ k a r x. carries (lent_text a);
  read_text_untouched = λ k a r x. made_untouched;
  write_text_refuses = λ k a r x. write_refuses (lent a);
  write_text_as_closed = λ k l a c r s x y p q e h. as_closed (lent a) p (rw (q, e) at h) ∙ rw (q, e);
  write_text_plain = λ k a r x. write_plain (lent a);
  write_text_untouched = λ k a r x. text_untouched;
}

pub texts_answer : TextsAnswer
texts_answer = record {
  reads_exactly = λ k a r x. exactly (lent_text a);
  read_wrote = λ k a r x. wrote (lent_text a);
  text_back = λ k a r x. back (lent_text a);
  one_reading = accepted.one_reading;
  bound_incidences = list_bound_is limits;
  check_text_by_the_book = λ k a r x p. rw p (checks_exactly (lent_text a));
  check_text_first = λ k l a c r s x y p q e h. p ∙ rw (← e) (stops_first (lent_text c) q h);
  check_text_then = λ k l m a c d r s u x y z p q o e h g. p ∙ rw (← e, o, g) (then_closed (lent_text c) q h);
  writes_exactly = λ k a r x. exactly_written (lent a);
  write_wrote = λ k a r x. text_wrote;
  write_then_read = λ k l a c r s x y p q z. written_read (lent a) p z (lent_text c) q;
  read_then_write = λ k l a c r s x y p q z e C. read_written (lent_text a) p z (lent c) e C q;
  sups_follow = closed_derived;
}

pub texts_once : TextsOnce
texts_once = record {
  one_read_text = λ k a b c x y. made_once;
  one_check_text = λ k a b c x y. alike;
  one_write_text = λ k a b c x y. text_once;
}
