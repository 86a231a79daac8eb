-- What is promised of changes, orientations, the search and the events, of whatever their contracts admit.
-- Assumes nothing.
use mathlib.Core.Path.{◌≡◌, refl, sym, ap, ◌∙◌}
use mathlib.Core.Logic.{◌≢◌}
use mathlib.Core.Bool.{Bool, not, ◌&&◌}
use mathlib.Core.List.{List}
use Prim.Native.Nat.{ℕ, ◌≤◌}
use native.Mathlib.Omega.{arith}
use lib.Dec.{ltb}
use lib.ListN.{length, replicate}
use Rattle.std.proofs.Common.{Result}
use Rattle.listing.specs.declared.Answer.{Answer}
use Rattle.listing.specs.declared.Refusal.{Refusal}
use Rattle.listing.specs.Answers.{plain, on}
use Rattle.listing.specs.Listing.{Listing, Limits, limits, rank}
use Rattle.listing.proofs.Answers.{or_stop, no_of, if_not}
use Rattle.listing.proofs.Told.{refuses}
use Rattle.listing.proofs.Clear.{Clear, clear_exact, clear_or, clear_plain}
use Rattle.valid.specs.Tests as tests
use Rattle.flag_change.specs.Flags.{flag_test, start_test}
use Rattle.flag_change.specs.Change.{change_at, padded, replaced_at}
use Rattle.flag_change.proofs.Across.{across}
use Rattle.flag.specs.declared.made.Change.{Change}
use Rattle.flag.specs.Changed.{change_test, changed_as, changed_of, told_changed}
use Rattle.flag.proofs.ChangeAnswers.{change_clear, changed_answer, changed_none, changed_some}
use Rattle.flag.proofs.ChangeMade.{change_asked, change_changes, change_replaces, change_twice}
use Rattle.flag.proofs.ChangeBroken.{change_broken}
use Rattle.search_theory.specs.Search.{State}
use Rattle.search_masks.specs.Masks.{mask_fits}
use Rattle.search_walk.specs.Searched.{found_by}
use Rattle.search.specs.declared.Found.{Found}
use Rattle.search.specs.SearchedBy.{room_of, search_test, searched_of, searched_by, told_searched}
use Rattle.search.proofs.SearchBroken.{said}
use Rattle.search.proofs.Exact.{promised}
use Rattle.search.proofs.OneAnswer as search
use Rattle.promises.specs.Entries.{lent, flag, asked, tables}
use Rattle.promises.specs.Named.{Named, of_flags}
use Rattle.promises.specs.OfFlags.{FlagsTaken, FlagsRefuse, FlagsNamed, FlagsAnswer, FlagsOnce}
use Rattle.promises.proofs.Alike.{alike, any}
use Rattle.promises.proofs.Cases.{byte_flipped, sign_of_lem, byte_of_lem}
use Rattle.promises.proofs.Cases.{in_order, said_in_order, stays_past, said_stays_past}
use Rattle.promises.proofs.Firsts.{Tells, tells_or, tells_on}
use Rattle.promises.proofs.NamedTests.{closed_named}
use Rattle.promises.proofs.Refused.{Refused, named_tells, told_so}

pub flags_taken : FlagsTaken
flags_taken = record { flags = (any, any, any, any, any); search = any; events = (any, any, any, any, any) }

-- ---- which refusal comes when

-- the numbers of a change that is refused
refused_numbers : (m : Limits) (L : Listing) (f : List ℕ) (r : ℕ) → let c = changed_of m L f r in
    c.answer.no ≢ 0 → (c.flag ≡ replicate limits.ranks 0) × (c.taken ≡ 0) × (c.put ≡ 0)
refused_numbers m L f r h =
    let t = change_test m L f r in
    let z : t.no ≢ 0 = rw (changed_answer m L f r) at h in
    rw (← changed_none m L f r {a = t} refl z) (refl, refl, refl)

search_clear : (m : Limits) (L : Listing) (f : List ℕ) (mask room : ℕ) → Clear (search_test m L f mask room)
unfolding search_test
search_clear m L f mask room =
    clear_or (start_test m L f) (clear_or _ (clear_plain (found_by L f mask room).overflow 22))

pub flags_refuse : FlagsRefuse
flags_refuse = record {
  change_refuses = λ k a r x p. rw p (
    rw (changed_answer limits (lent a) (flag a) (asked a)) (change_broken limits (lent a) (flag a) (asked a)),
    refused_numbers limits (lent a) (flag a) (asked a),
  );
  search_searches = λ k a r x p. rw (p.0, p.1.0, p.1.1)
      (promised limits (lent a) (flag a) (asked a) (tables a).0 (tables a).1);
  answered_fine = (
    λ k a r x p. rw (p, changed_answer limits (lent a) (flag a) (asked a))
        (clear_exact (change_clear limits (lent a) (flag a) (asked a))),
    λ k a r x p. rw (p.0, said limits (lent a) (flag a) (asked a) (tables a).0 (tables a).1)
        (clear_exact (search_clear limits (lent a) (flag a) (asked a) _)),
  );
}

-- ---- what a refusal says

module _ (m : Limits) (L : Listing) (f : List ℕ) where
  abbrev N : Answer → Type 0
  N = Named (rank L) L

  flags_tells : (t : Bool) (n : ℕ) → 20 ≤ n → n ≤ 22 → Tells N (on t (plain n))
  flags_tells t n p q = tells_on N t (plain n) (λ e. of_flags n p q)

  start_tells : Tells N (start_test m L f)
  unfolding start_test
  start_tells =
      tells_or N (tests.closed m L) _ (closed_named m L)
      (λ _. flags_tells (not (flag_test L f)) 20 (omega arith) (omega arith))

  change_tells : (r : ℕ) → Tells N (change_test m L f r)
  unfolding change_test
  change_tells r =
      tells_or N (start_test m L f) _ start_tells
      (λ _. flags_tells (not (ltb 0 r && ltb r (rank L))) 21 (omega arith) (omega arith))

  search_tells : (mask room : ℕ) → Tells N (search_test m L f mask room)
  unfolding search_test
  search_tells mask room =
      let out = not (mask_fits (rank L) mask) in
      tells_or N (start_test m L f) _ start_tells (λ _.
      tells_or N (on out (plain 21)) (on (found_by L f mask room).overflow (plain 22))
      (flags_tells out 21 (omega arith) (omega arith))
      (λ _. flags_tells (found_by L f mask room).overflow 22 (omega arith) (omega arith)))

  -- where closed refuses, the refusal is closed's
  module _ (z : (tests.closed m L).no ≢ 0) where
    start_refused : start_test m L f ≡ tests.closed m L
    unfolding start_test
    start_refused = or_stop (tests.closed m L) _ z

    start_stops : (start_test m L f).no ≢ 0
    start_stops e = z (no_of start_refused e)

    change_refused : (r : ℕ) → change_test m L f r ≡ tests.closed m L
    unfolding change_test
    change_refused r = or_stop (start_test m L f) _ start_stops ∙ start_refused

    pub search_refused : (mask room : ℕ) → search_test m L f mask room ≡ tests.closed m L
    unfolding search_test
    search_refused mask room = or_stop (start_test m L f) _ start_stops ∙ start_refused

pub flags_named : FlagsNamed
flags_named = record {
  change_as_closed = λ k l a c r s x y p q e. rw (p, q, e, changed_answer limits (lent a) (flag c) (asked c))
      (λ z. change_refused limits (lent a) (flag c) z (asked c));
  search_as_closed = λ k l a c r s x y p q e. rw (p, q.0, e)
      (λ z. said limits (lent a) (flag c) (asked c) (tables c).0 (tables c).1
      ∙ search_refused limits (lent a) (flag c) z (asked c) _);
  change_names = λ k a r x p. rw (p, changed_answer limits (lent a) (flag a) (asked a))
      (change_tells limits (lent a) (flag a) (asked a));
  search_names = λ k a r x p. rw (p.0, said limits (lent a) (flag a) (asked a) (tables a).0 (tables a).1)
      (search_tells limits (lent a) (flag a) (asked a) _);
}

-- ---- what is answered

pub flags_answer : FlagsAnswer
flags_answer = record {
  change_by_the_book = λ k a r x p. rw p (change_changes limits (lent a) (flag a) (asked a));
  change_replaces = λ k a r x p. rw p (change_replaces limits (lent a) (flag a) (asked a));
  change_across = λ k a r x p. rw p (λ z t.
      let h = change_asked limits (lent a) (flag a) (asked a) z in
      across h.0 (asked a) t h.1 (change_replaces limits (lent a) (flag a) (asked a) z));
  change_back = λ k l a c r s x y p q e d n. rw (q, e, d, n, p) (change_twice limits (lent a) (flag a) (asked a));
  search_by_the_book = λ k a r x p z.
      let P = flags_refuse.search_searches k a r x p in
      (P.holds z, P.finds z);
  flip_by_byte = λ k a r x p. rw p (byte_flipped a.0);
  sign_by_byte = λ k a r x p. rw p (sign_of_lem a.0);
  byte_by_byte = λ k a r x p. p;
  of_byte_by_byte = λ k a r x p. rw p (byte_of_lem a.0);
  event_by_numbers = λ k a r x p. p;
  events_in_order = in_order;
  said_in_order = said_in_order;
  nothing_past_the_last = stays_past;
  nothing_said_past_the_last = said_stays_past;
}

-- an answer, a table and bytes
pub same_search : {B : Type 0} {b c d : B} {s t u v m n : List ℕ} → b ≡ d → s ≡ m → t ≡ n → c ≡ d → u ≡ m → v ≡ n
    → (b ≡ c) × (◌≡◌ {A = List ℕ × List ℕ} (s, t) (u, v))
same_search p s t q u v = (alike p q, λ i. (alike s u i, alike t v i))

-- a result that is told as a change answers, and as a search does
pub changed_so : (L : Listing) (f : List ℕ) (r : ℕ)
    → (d : Result Change Refusal) × (told_changed d ≡ changed_of limits L f r)
unfolding changed_as
changed_so L f r =
    let p = replaced_at L r f in
    let c : Change = record { flag = padded (change_at L r f); taken = p.taken; put = p.put } in
    let d = told_so (change_clear limits L f r) (named_tells (rank L) L (change_tells limits L f r)) told_changed
    (changed_of limits L f r) (λ c. Unit) (λ e. (c, tt, changed_some limits L f r (ap (λ t. t.no) e)))
    (λ d e h. changed_none limits L f r (sym e) (refuses d)) in
    (d.0, d.2)

pub found_so : {t : Answer} → Clear t → Refused t → (s : State (List ℕ))
    → (d : Result Found Refusal) × (told_searched d ≡ searched_of t s)
unfolding searched_of
found_so {t} clear some s =
    let n : Found = record { count = length s.found; place = s.place } in
    let d = told_so clear some told_searched (searched_of t s) (λ n. Unit) (λ e. (n, tt, rw e refl))
    (λ d e h. rw (if_not t.no _ _ h, e) refl) in
    (d.0, d.2)

pub search_refusals : (L : Listing) (f : List ℕ) (mask room : ℕ) → Refused (search_test limits L f mask room)
search_refusals L f mask room = named_tells (rank L) L (search_tells limits L f mask room)

pub searched_so : (L : Listing) (f : List ℕ) (mask : ℕ) (table bytes : List ℕ)
    → (d : Result Found Refusal) × (told_searched d ≡ searched_by limits L f mask table bytes)
unfolding searched_by
searched_so L f mask table bytes =
    let room = room_of limits L (length table) (length bytes) in
    found_so (search_clear limits L f mask room) (search_refusals L f mask room) (found_by L f mask room)

pub flags_once : FlagsOnce
flags_once = record {
  one_change = λ k a b c x y. alike;
  one_flip = λ k a b c x y. alike;
  one_sign = λ k a b c x y. alike;
  one_byte = λ k a b c x y. alike;
  one_of_byte = λ k a b c x y. alike;
  one_search = λ k a b c x y p q. same_search p.0 p.1.0 p.1.1 q.0 q.1.0 q.1.1;
  one_found = λ k a r x p z s u v Q e.
      let P = flags_refuse.search_searches k a r x p in
      search.one_found (P.holds z) (P.finds z) (Q.holds e) (Q.finds e);
  one_is_marked = λ k a b c x y. alike;
  one_event_at = λ k a b c x y. alike;
  one_events_in = λ k a b c x y. alike;
  one_next_at = λ k a b c x y. alike;
  one_numbers = λ k a b c x y. alike;
  one_next_event = λ at count place c d e f p q. (alike p.0 q.0, alike p.1 q.1);
}
