-- A listing in output slices: the room test, and what is answered and left, put together from a test and from what was
-- written, and taken apart again.
-- Assumes nothing.
use mathlib.Core.Path.{◌≡◌, refl, sym, ap, ◌∙◌}
use mathlib.Core.Bool.{◌||◌}
use mathlib.Core.List.{List}
use Prim.Native.Nat.{ℕ, zero, suc, ◌≤◌, ◌<◌}
use native.Mathlib.Omega.{arith}
use borrow.Author.Tests.{lt-ltb, le-ltb, ltb-false}
use lib.Dec.{ltb}
use lib.ListN.{length}
use Rattle.std.proofs.Common.{Result, Ok, Err}
use Rattle.std.specs.Result.{IsErrAnd}
use Rattle.std.proofs.lemmas.Result.{err_from_is_err_and}
use Rattle.order.specs.Lists.{over}
use Rattle.order.proofs.Over.{over_front}
use Rattle.order.proofs.Tests.{or_none}
use Rattle.listing.specs.declared.Answer.{Answer}
use Rattle.listing.specs.declared.Built.{Built}
use Rattle.listing.specs.declared.Lengths.{Lengths}
use Rattle.listing.specs.declared.Refusal.{Refusal}
use Rattle.listing_outputs.specs.declared.outputs.Room.{Room}
use Rattle.listing.specs.Refusals.{output_short}
use Rattle.listing.specs.Answers.{plain, fine, if_zero}
use Rattle.listing.specs.Listing.{Listing, listing}
use Rattle.listing.specs.Told.{answer_of, told_built}
use Rattle.listing_outputs.specs.Output.{Fits, need_of, short_test, room_test, built_of, after, Made, prefix}
use Rattle.listing_outputs.specs.Output.{Untouched, Wrote}
use Rattle.listing.proofs.Answers.{if_not, no_of, stops}
use Rattle.listing.proofs.Told.{refuses}
use Rattle.listing.proofs.Broken.{Tests, tests_on}

-- ---- room

module _ (need room : Room) where
  pub short_counts : room.counts < need.counts → short_test need room ≡ plain output_short
  unfolding short_test
  short_counts h = rw (lt-ltb room.counts _ h)

  module _ (h1 : need.counts ≤ room.counts) where
    pub short_ends : room.ends < need.ends → short_test need room ≡ plain output_short
    unfolding short_test
    short_ends h = rw (le-ltb room.counts _ h1, lt-ltb room.ends _ h)

    module _ (h2 : need.ends ≤ room.ends) where
      pub short_inc : room.inc < need.inc → short_test need room ≡ plain output_short
      unfolding short_test
      short_inc h = rw (le-ltb room.counts _ h1, le-ltb room.ends _ h2, lt-ltb room.inc _ h)

      pub room_fine : need.inc ≤ room.inc → short_test need room ≡ fine
      unfolding short_test
      room_fine h = rw (le-ltb room.counts _ h1, le-ltb room.ends _ h2, le-ltb room.inc _ h)

-- one law for each way through the test
pub ruleset room = (short_counts, short_ends, short_inc, room_fine)

module _ (R : Listing) (c e i : ℕ) where
  pub room_tested : Tests output_short output_short (Fits R c e i) (room_test R c e i)
  unfolding short_test
  room_tested =
      tests_on (ltb c (length R.counts) || (ltb e (length R.ends) || ltb i (length R.inc))) output_short
      (omega arith)
      (λ z. let p = or_none _ _ z in let q = or_none _ _ p.1 in
      (ltb-false _ _ p.0, ltb-false _ _ q.0, ltb-false _ _ q.1))
      (λ h. rw (le-ltb _ _ h.0, le-ltb _ _ h.1, le-ltb _ _ h.2))

  pub room_fits : (room_test R c e i).no ≡ 0 → Fits R c e i
  room_fits = room_tested.exact.0

-- ---- what is answered

-- the answer is the test's
pub answer_is : (t : Answer) (R : Listing) (r : Built) → r ≡ built_of t R → r.answer ≡ t
unfolding built_of
answer_is t R r e = ap (λ (b : Built). b.answer) e ∙ go t.no
  where
    full : Built
    full = record { answer = t; counts = length R.counts; ends = length R.ends; inc = length R.inc }

    none : Built
    none = record { answer = t; counts = 0; ends = 0; inc = 0 }

    go : (n : ℕ) → (if_zero n full none).answer ≡ t
    go zero = refl
    go (suc n) = refl

-- ---- what a slice holds

pub after_refused : (t : Answer) → (t.no ≡ 0 → ⊥) → (new old : List ℕ) → old ≡ after t new old
unfolding after
after_refused t h new old = sym (if_not t.no _ _ h)

pub after_full : (t : Answer) → t.no ≡ 0 → (new old : List ℕ) → after t new old ≡ over new old
unfolding after
after_full t z new old = rw z

-- ---- at a refusal

module _ (t : Answer) (R : Listing) (h : t.no ≡ 0 → ⊥) where
  pub built_refused : built_of t R ≡ record { answer = t; counts = 0; ends = 0; inc = 0 }
  unfolding built_of
  built_refused = if_not t.no _ _ h

  pub made_refused : (test : Answer) → t ≡ test → (old : Listing) (r : Built) → r ≡ built_of t R → Made test R old old r
  made_refused test q old r e = rw (← q) (record {
    answer = e;
    counts = after_refused t h R.counts old.counts;
    ends = after_refused t h R.ends old.ends;
    inc = after_refused t h R.inc old.inc;
  })

-- ---- where there is none

module _ (t : Answer) (R : Listing) (z : t.no ≡ 0) where
  pub built_full : built_of t R
      ≡ record { answer = t; counts = length R.counts; ends = length R.ends; inc = length R.inc }
  unfolding built_of
  built_full = rw z

  pub built_need : (n : Room) → n ≡ need_of R
      → record { answer = t; counts = n.counts; ends = n.ends; inc = n.inc } ≡ built_of t R
  built_need n e = rw e (sym built_full)

  after_written : (new old old' : List ℕ) → old' ≡ over new old → old' ≡ after t new old
  after_written new old old' e = e ∙ sym (after_full t z new old)

  pub made_written : (test : Answer) → t ≡ test → (old new : Listing) (r : Built) → r ≡ built_of t R
      → new.counts ≡ over R.counts old.counts → new.ends ≡ over R.ends old.ends
      → new.inc ≡ over R.inc old.inc → Made test R old new r
  made_written test q old new r e c n i = rw (← q) (record {
    answer = e;
    counts = after_written R.counts old.counts new.counts c;
    ends = after_written R.ends old.ends new.ends n;
    inc = after_written R.inc old.inc new.inc i;
  })

-- ---- taken apart

module _ {t : Answer} {R old new : Listing} {r : Built} (d : Made t R old new r) where
  pub made_answer : r.answer ≡ t
  made_answer = answer_is t R r d.answer

  -- At a refusal all is as it was.
  pub made_untouched : (r.answer.no ≡ 0 → ⊥) → Untouched old new r
  made_untouched h =
      let k = stops made_answer h in
      let e = d.answer ∙ built_refused t R k in
      let s = after_refused t k in
      let c = d.counts ∙ sym (s R.counts old.counts) in
      let n = d.ends ∙ sym (s R.ends old.ends) in
      let i = d.inc ∙ sym (s R.inc old.inc) in
      record {
        same = λ u. listing (c u) (n u) (i u);
        counts = ap (λ (b : Built). b.counts) e;
        ends = ap (λ (b : Built). b.ends) e;
        inc = ap (λ (b : Built). b.inc) e;
      }

  module _ (z : r.answer.no ≡ 0) where
    -- Else the listing stands over the beginning of each slice,
    pub made_wrote : Wrote R old new r
    made_wrote =
        let k = no_of made_answer z in
        let e = d.answer ∙ built_full t R k in
        let w = after_full t k in
        record {
          counts = (ap (λ (b : Built). b.counts) e, d.counts ∙ w R.counts old.counts);
          ends = (ap (λ (b : Built). b.ends) e, d.ends ∙ w R.ends old.ends);
          inc = (ap (λ (b : Built). b.inc) e, d.inc ∙ w R.inc old.inc);
        }

    -- and up to the lengths that are answered there is nothing else.
    pub made_prefix : prefix new r ≡ R
    made_prefix =
        let c = over_front R.counts old.counts made_wrote.counts in
        let e = over_front R.ends old.ends made_wrote.ends in
        let i = over_front R.inc old.inc made_wrote.inc in
        λ u. listing (c u) (e u) (i u)

-- Two answers by one test, of one listing into the same slices, leave the same.
pub made_once : {t : Answer} {R old new new' : Listing} {r r' : Built} → Made t R old new r → Made t R old new' r'
    → (r ≡ r') × (new ≡ new')
made_once p q =
    let c = p.counts ∙ sym q.counts in
    let e = p.ends ∙ sym q.ends in
    let i = p.inc ∙ sym q.inc in
    (p.answer ∙ sym q.answer, λ u. listing (c u) (e u) (i u))

-- ---- of a result

-- a refusal writes nothing
pub made_halt : {R : Listing} {t : Answer} (d : Refusal) → answer_of d ≡ t → (old : Listing)
    → Made t R old old (told_built (Err d))
made_halt {R} {t} d e old =
    made_refused (answer_of d) R (refuses d) t e old (told_built (Err d)) (sym (built_refused (answer_of d) R (refuses d)))

-- a refusal that `?` returns
pub made_err : {R : Listing} {t : Answer} (r : Result Lengths Refusal) (d : Refusal) → IsErrAnd r (λ x. x ≡ d)
    → answer_of d ≡ t → (old : Listing) → Made t R old old (told_built r)
made_err r d h e old =
    let p = err_from_is_err_and r h in
    rw (p.1, p.2) (made_halt d e old)

-- the lengths that are answered of a listing that is written
pub made_ok : {t : Answer} → fine ≡ t → (R old new : Listing) (n : Lengths) → n.counts ≡ length R.counts
    → n.ends ≡ length R.ends → n.inc ≡ length R.inc → new.counts ≡ over R.counts old.counts
    → new.ends ≡ over R.ends old.ends → new.inc ≡ over R.inc old.inc → Made t R old new (told_built (Ok n))
made_ok {t} e R old new n a b c x y z =
    made_written fine R refl t e old new (told_built (Ok n)) (rw (a, b, c) (sym (built_full fine R refl))) x y z
