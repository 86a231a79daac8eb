-- What is promised of flags: their changes, orientations, the search and the events of a finished search. The events
-- are said of `Stepped` and `SaidStep`, of which the contracts of next_event and fd_next_event consist: these two are
-- lent a record, a form of which the prover makes no reading (proofs/Cursor.antt ties them to the contracts).
--
-- SignAt        x is the sign that goes with the byte b: 1.0 with 0, -1.0 with 1
-- ByteFor       c is the byte of the orientation that a byte b stands for: 0 for 0, 1 for any other
-- Calls         the calls of a cursor one after another, each from the place where the one before left it, answer l;
--               step says what one call answers and where it leaves the cursor
-- SearchSays    what a search answers and leaves, said of its listing, flag, mask, table and bytes, before and after
-- FlagsTaken    any slices and numbers are taken
-- FlagsRefuse   which refusal comes exactly when, and what is written
-- FlagsNamed    what each refusal says
-- FlagsAnswer   what changes, searches, orientations and events are
-- FlagsOnce     no second answer fits
use Rattle.std.specs.Prelude.{Option, Some, None}
use Rattle.std.specs.Prelude.{◌≡◌, ◌≢◌, ◌↔◌, List, [], ◌∷◌, ◌++◌, map, ℕ, ◌+◌, ◌-◌, ◌≤◌}
use Rattle.std.specs.Prelude.{pos, neg_ℤ, Float, length, get_or, take, replicate}
use Rattle.std.specs.Float.{binary64}
use Rattle.std.specs.Float.Ieee.{of_int}
use Rattle.order.specs.Diamond.{TheTwo}
use Rattle.listing.specs.Answers.{fine}
use Rattle.listing.specs.Listing.{Listing, limits, rank}
use Rattle.listing.specs.Rules.{FirstBroken}
use Rattle.flag_change.specs.Change.{Changes, Replaces, HasUnder, change_at, padded}
use Rattle.flag.specs.Orientations.{byte_of}
use Rattle.flag.specs.Rules.{change_rules}
use Rattle.search.specs.declared.Searched.{Searched}
use Rattle.search.specs.Exact.{Holds, Finds}
use Rattle.search.specs.Promised.{Promised}
use Rattle.search_events.specs.declared.Event.{Event}
use Rattle.search_events.specs.declared.Said.{Said}
use Rattle.search_events.specs.Events.{events, events_of, said_of, Stepped, SaidStep}
use Rattle.flag.proofs.Orientation.flip.Reads as flip
use Rattle.flag.proofs.Orientation.sign.Reads as sign
use Rattle.flag.proofs.U8FromOrientation.from.Reads as byte
use Rattle.flag.proofs.OrientationFromU8.from.Reads as of_byte
use Rattle.search_events.proofs.is_marked.Reads as is_marked
use Rattle.search_events.proofs.event_at.Reads as event_at
use Rattle.search_events.proofs.events_in.Reads as events_in
use Rattle.search_events.proofs.next_at.Reads as next_at
use Rattle.search_events.proofs.numbers.Reads as numbers
use Rattle.flumedrac.proofs.fd_closed.Reads as closed
use Rattle.flumedrac.proofs.fd_change.Reads as change
use Rattle.flumedrac.proofs.fd_search.Reads as search
use Rattle.promises.specs.Entries.{Takes, Says, SaysOfTwo, OneAnswer, OneOutcome, lent, flag, asked, tables}
use Rattle.promises.specs.Named.{Named}

pub record SignAt (b : ℕ) (x : Float) : Type 0 where
  pub even : b ≡ 0 → x ≡ of_int binary64 (pos 1)
  pub odd : b ≡ 1 → x ≡ of_int binary64 (neg_ℤ (pos 1))

pub record ByteFor (b c : ℕ) : Type 0 where
  pub even : b ≡ 0 → c ≡ 0
  pub odd : b ≢ 0 → c ≡ 1

module _ {E : Type 0} (step : ℕ → ℕ → E → Type 0) where
  unfoldable pub Calls : ℕ → List E → Type 0
  Calls at [] = Unit
  Calls at (e ∷ l) = (at' : ℕ) × step at at' e × Calls at' l

abbrev pub SearchSays : (Listing → List ℕ → ℕ → List ℕ → List ℕ → Searched → List ℕ → List ℕ → Type 0) → Type 0
SearchSays Q = Says search.Post
    (λ a r x. Q (lent a) (flag a) (asked a) (tables a).0 (tables a).1 r (tables x).0 (tables x).1)

pub record FlagsTaken : Type 0 where
  -- changes and orientations
  pub flags : Takes change.Asked × Takes flip.Asked × Takes sign.Asked × Takes byte.Asked × Takes of_byte.Asked
  -- the search
  pub search : Takes search.Asked
  -- events, but for next_event, of which it stands in proofs/Cursor.antt
  pub events : Takes is_marked.Asked × Takes event_at.Asked × Takes events_in.Asked × Takes next_at.Asked
      × Takes numbers.Asked

pub record FlagsRefuse : Type 0 where
  -- a change refuses as closed does, then with 20 and 21; where it is refused, all numbers beside its answer are 0
  pub change_refuses : Says change.Post
      (λ a r x. FirstBroken (change_rules limits (lent a) (flag a) (asked a)) r.answer.no
      × (r.answer.no ≢ 0 → (r.flag ≡ replicate limits.ranks 0) × (r.taken ≡ 0) × (r.put ≡ 0)))
  -- a search refuses as closed does, then with 20, 21 and 22; nothing is then written, but the first flags at 22
  pub search_searches : SearchSays (Promised limits)
  -- a change or a search that is answered carries nothing but 0s beside what it found
  pub answered_fine : Says change.Post (λ a r x. r.answer.no ≡ 0 ↔ r.answer ≡ fine)
      × Says search.Post (λ a r x. r.answer.no ≡ 0 ↔ r.answer ≡ fine)

pub record FlagsNamed : Type 0 where
  -- a change answers the refusal of closed, with its fields
  pub change_as_closed : SaysOfTwo closed.Post change.Post
      (λ a r x c s y. lent c ≡ lent a → r.no ≢ 0 → s.answer ≡ r)
  -- so does a search
  pub search_as_closed : SaysOfTwo closed.Post search.Post
      (λ a r x c s y. lent c ≡ lent a → r.no ≢ 0 → s.answer ≡ r)
  -- whatever a change refuses with is true of the listing; the numbers of its own carry nothing
  pub change_names : Says change.Post (λ a r x. r.answer.no ≢ 0 → Named (rank (lent a)) (lent a) r.answer)
  -- so with a search
  pub search_names : Says search.Post (λ a r x. r.answer.no ≢ 0 → Named (rank (lent a)) (lent a) r.answer)

pub record FlagsAnswer : Type 0 where
  -- a change puts in the other of exactly two elements: the only flag that differs there; the same change leads back
  pub change_by_the_book : Says change.Post (λ a r x. r.answer.no ≡ 0
      → Changes (lent a) (flag a) (asked a) × (r.flag ≡ padded (change_at (lent a) (asked a) (flag a))))
  -- it says what it took out and what it put in: the flag's index at its rank and the new flag's; these differ, lie
  -- between the flag's elements one rank lower and one rank higher, and no third does
  pub change_replaces : Says change.Post (λ a r x. r.answer.no ≡ 0
      → Replaces (lent a) (flag a) (asked a) r.flag r.taken r.put)
  -- right under the top they are, of all elements of the rank, the two that have the flag's element below directly
  -- under them; so of cells in a coast of rank 5: across a face of a cell lies exactly one other cell, and this is it
  pub change_across : Says change.Post (λ a r x. r.answer.no ≡ 0 → rank (lent a) ≡ asked a + 1
      → TheTwo (HasUnder (lent a) (asked a) (get_or (flag a) (asked a - 1) 0)) r.taken r.put)
  -- the change back is answered too; it gives the old flag, and exchanges the two
  pub change_back : SaysOfTwo change.Post change.Post
      (λ a r x c s y. lent c ≡ lent a → flag c ≡ take (rank (lent a) + 1) r.flag → asked c ≡ asked a
      → r.answer.no ≡ 0
      → s ≡ record { answer = fine; flag = padded (flag a); taken = r.put; put = r.taken })
  -- a search finds all flags that changes lead to, each once and in the order found, counts them, two-colours them
  -- where that can be done, and where not says the place of the event
  pub search_by_the_book : SearchSays (λ L f mask t b r t' b'. r.answer.no ≡ 0
      → Holds L f mask t' b' t b r.count × Finds L f mask t' b' r)
  -- the other orientation has the other byte
  pub flip_by_byte : Says flip.Post (λ a r x. byte_of r ≡ 1 - byte_of a.0)
  -- the sign is 1.0 at byte 0 and -1.0 at byte 1
  pub sign_by_byte : Says sign.Post (λ a r x. SignAt (byte_of a.0) r)
  -- an orientation is told by its byte: 0 even, 1 odd
  pub byte_by_byte : Says byte.Post (λ a r x. r ≡ byte_of a.0)
  -- byte 0 stands for the orientation of byte 0, and any other for that of byte 1
  pub of_byte_by_byte : Says of_byte.Post (λ a r x. ByteFor a.0 (byte_of r))
  -- an event is told by two numbers: kind 0 nothing, 1 a flag, with its number, 2 not orientable
  pub event_by_numbers : Says numbers.Post (λ a r x. r ≡ said_of a.0)
  -- a new cursor says the flags in order, NonOrientable after the first `place` of them, and None from then on
  pub events_in_order : (count place n : ℕ) (l : List (Option Event)) → length l ≡ events count place + n
      → Calls (λ at at' e. Stepped at count place at' e) 0 l → l ≡ map Some (events_of count place) ++ replicate n None
  -- so in numbers
  pub said_in_order : (count place n : ℕ) (l : List Said) → length l ≡ events count place + n
      → Calls (λ at at' s. SaidStep at count place at' s) 0 l
      → l ≡ map said_of (map Some (events_of count place) ++ replicate n None)
  -- at any place at or past the end of the events a cursor says None and stays
  pub nothing_past_the_last : (count place at at' : ℕ) (e : Option Event) → events count place ≤ at
      → Stepped at count place at' e → (e ≡ None) × (at' ≡ at)
  -- so in numbers
  pub nothing_said_past_the_last : (count place at at' : ℕ) (s : Said) → events count place ≤ at
      → SaidStep at count place at' s → (s ≡ said_of None) × (at' ≡ at)

pub record FlagsOnce : Type 0 where
  pub one_change : OneAnswer change.Post
  pub one_flip : OneAnswer flip.Post
  pub one_sign : OneAnswer sign.Post
  pub one_byte : OneAnswer byte.Post
  pub one_of_byte : OneAnswer of_byte.Post
  pub one_search : OneOutcome search.Post tables
  -- what a search found is determined by what is promised of it alone: no other answer s, table u and bytes v fit
  pub one_found : SearchSays (λ L f mask t b r t' b'. r.answer.no ≡ 0 → (s : Searched) (u v : List ℕ)
      → Promised limits L f mask t b s u v → s.answer.no ≡ 0
      → (r.count ≡ s.count) × (r.place ≡ s.place) × (r.orientable ≡ s.orientable) × (t' ≡ u) × (b' ≡ v))
  pub one_is_marked : OneAnswer is_marked.Post
  pub one_event_at : OneAnswer event_at.Post
  pub one_events_in : OneAnswer events_in.Post
  pub one_next_at : OneAnswer next_at.Post
  pub one_numbers : OneAnswer numbers.Post
  -- the event cursor, by what its contract cites
  pub one_next_event : (at count place c d : ℕ) (e f : Option Event) → Stepped at count place c e
      → Stepped at count place d f → (e ≡ f) × (c ≡ d)
