-- What the test for one body answers and leaves in its slices: where the closed test refuses, and where it does not.
-- Assumes nothing.
use mathlib.Core.Path.{◌≡◌, sym, ap, ◌∙◌}
use mathlib.Core.Bool.{true, true≢false}
use mathlib.Core.Logic.{◌≢◌}
use mathlib.Core.List.{List}
use Prim.Native.Nat.{ℕ, ◌*◌, ◌/◌, ◌≤◌, ◌<◌, min}
use native.Mathlib.Decide.{dec_lt}
use native.Mathlib.Omega.{arith}
use lib.ListN.{length}
use Rattle.std.specs.Prelude.{Result, Ok, Err}
use Rattle.listing.specs.declared.Answer.{Answer}
use Rattle.listing.specs.declared.Slices.{Slices}
use Rattle.listing.specs.Refusals.{more_flags}
use Rattle.listing.specs.Answers.{plain, ◌or_else◌}
use Rattle.listing.specs.Listing.{Listing, held, limits, rank}
use Rattle.listing.proofs.Answers.{or_fine, or_stop}
use Rattle.valid.specs.Tests.{closed}
use Rattle.valid.specs.Closed.{Closed}
use Rattle.valid.proofs.ClosedExact.{closed_exact}
use Rattle.valid.proofs.InClosed.{is_closed}
use Rattle.flag_change.specs.Flags.{start_test}
use Rattle.search_masks.specs.Masks.{every_rank}
use Rattle.search_store.specs.declared.Found.{Found}
use Rattle.search_store.specs.declared.Full.{Full}
use Rattle.search_store.specs.Held.{state_of}
use Rattle.search_walk.specs.Ready.{Ended}
use Rattle.search.specs.declared.Searched.{Searched}
use Rattle.search.specs.SearchedBy.{refused_as, searched_of, told_walk}
use Rattle.search.specs.Promised.{room_in}
use Rattle.search.proofs.Cases.{Ends, room_is, room_fits, answer_none, ends_start, count_found, full_is, ends_walk}
use Rattle.body_theory.specs.InAll.{flags_in_all}
use Rattle.body_theory.specs.First.{sups_flag}
use Rattle.body_theory.proofs.First.{sups_flag_lem}
use Rattle.body_count.specs.Capped.{capped}
use Rattle.body.specs.Body.{whole_search, judged_as, body_test, body_by, body_table_after, body_bytes_after}
use Rattle.body.proofs.FoundAll.{no_overflow, whole_searchable}
use Rattle.body.proofs.Judged.{parts_more, capped_test}

-- the answer and the two slices are what the test says
pub record BodyEnds (L : Listing) (table bytes : List ℕ) (r : Searched) (table' bytes' : List ℕ) : Type 0 where
  pub answer : r ≡ body_by limits L table bytes
  pub flags : table' ≡ body_table_after limits L table bytes
  pub turns : bytes' ≡ body_bytes_after limits L table bytes

module _ (L : Listing) (table bytes : List ℕ) where
  abbrev pub room : ℕ
  room = room_in limits L table bytes

  -- the closed test refuses
  pub body_stop : (a : Answer) → a ≡ closed limits L → a.no ≢ 0 → BodyEnds L table bytes (refused_as a) table bytes
  unfolding body_by body_test start_test
  body_stop a e h = record {
    answer =
        answer_none a (whole_search L room) h
        ∙ ap (λ t. searched_of t (whole_search L room)) (e ∙ sym (or_stop (closed limits L) _ (rw (← e) h)));
    flags = o.flags;
    turns = o.turns;
  }
    where
      o : Ends limits L (sups_flag L) (every_rank (rank L)) table bytes (refused_as a) table bytes
      o =
          ends_start limits L (sups_flag L) (every_rank (rank L)) table bytes a
          (e ∙ sym (or_stop (closed limits L) _ (rw (← e) h))) h

  -- it passes, and the search has come to its end
  module _ (C : Closed limits L)
      (fits : (room * length L.counts ≤ length table) × (room ≤ length bytes) × (room ≤ limits.flags)) where
    -- it answered r, and left the slices as table' and bytes'
    abbrev pub Walked : List ℕ → List ℕ → Result Found Full → Type 0
    Walked table' bytes' r = Ended (length L.counts) room table bytes table' bytes' r (whole_search L room)

    walked : {table' bytes' : List ℕ} (r : Result Found Full) → Walked table' bytes' r
        → Ends limits L (sups_flag L) (every_rank (rank L)) table bytes (told_walk r) table' bytes'
    walked r E = ends_walk (whole_searchable C) table bytes (fits.0, fits.1) r E

    closed_fine : (a : Answer) → closed limits L or_else a ≡ a
    closed_fine a = or_fine (closed limits L) a ((closed_exact limits L).1 C)

    -- that one more flag turned up than there is room for
    pub body_full : {table' bytes' : List ℕ} (d : Full) → Walked table' bytes' (Err d)
        → BodyEnds L table bytes (refused_as (plain more_flags)) table' bytes'
    unfolding body_by body_test
    body_full d E =
        let o = full_is (whole_searchable C) table bytes d E in
        let more : room < flags_in_all L = go o (dec_lt room (flags_in_all L)) in
        let t = closed_fine _ ∙ parts_more room (length (whole_search L room).found) (flags_in_all L) more in
        record {
          answer = rw t (answer_none (plain more_flags) (whole_search L room) (λ k. omega arith));
          flags = (walked (Err d) E).flags;
          turns = (walked (Err d) E).turns;
        }
      where
        go : (whole_search L room).overflow ≡ true → Dec (room < flags_in_all L) → room < flags_in_all L
        go o (yes l) = l
        go o (no l) =
            absurd (true≢false (sym o ∙ no_overflow C (sups_flag_lem C) room (omega arith)))

    -- that it found so many
    pub body_go : {table' bytes' : List ℕ} (f : Found) → Walked table' bytes' (Ok f) → (n : ℕ)
        → n ≡ capped (flags_in_all L) → (r : Searched) → r ≡ judged_as room n f.count f.place
        → BodyEnds L table bytes r table' bytes'
    unfolding body_by body_test searched_of state_of
    body_go f E n e r j =
        let count = count_found (whole_searchable C) table bytes f E in
        let place = sym (ap (λ s. s.place) E.state) in
        let test = capped_test room f.count (flags_in_all L) fits.2 (omega (arith, E.fits, fits.2)) in
        record {
          answer = j ∙ rw (e, test, closed_fine, count, place);
          flags = (walked (Ok f) E).flags;
          turns = (walked (Ok f) E).turns;
        }

-- ---- the same as the code meets it

module _ (s t : Slices) (same : t ≡ s) (C : (closed limits (held t)).no ≡ 0) where
  pub some_rank : 0 < length s.counts.now
  some_rank = rw same at (is_closed t C).shaped.some_rank

  pub the_room : (table bytes n : ℕ) → n ≡ min (min (table / length s.counts.now) bytes) limits.flags
      → (n * length t.counts.now ≤ table) × (n ≤ bytes) × (n ≤ limits.flags)
  the_room table bytes n z = rw same (room_fits limits table bytes (length s.counts.now) n z)

  closed_here : Closed limits (held s)
  closed_here = rw same at (is_closed t C)

  module _ (table bytes : List ℕ) (n : ℕ)
      (z : n ≡ min (min (length table / length s.counts.now) (length bytes)) limits.flags) where
    here : n ≡ room (held s) table bytes
    here = z ∙ room_is limits (held s) (length table) (length bytes) some_rank

    fits : (room (held s) table bytes * length s.counts.now ≤ length table)
        × (room (held s) table bytes ≤ length bytes) × (room (held s) table bytes ≤ limits.flags)
    fits = rw (same, here) at (the_room (length table) (length bytes) n z)

    -- the walk answered r
    abbrev pub Went : List ℕ → List ℕ → Result Found Full → Type 0
    Went table' bytes' r = Ended (length t.counts.now) n table bytes table' bytes' r (whole_search (held t) n)

    pub ends_full : {table' bytes' : List ℕ} (d : Full) → Went table' bytes' (Err d)
        → BodyEnds (held s) table bytes (refused_as (plain more_flags)) table' bytes'
    ends_full d E = body_full (held s) table bytes closed_here fits d (rw (same, here) at E)

    pub ends_judged : {table' bytes' : List ℕ} (f : Found) → Went table' bytes' (Ok f)
        → (all : ℕ) → all ≡ capped (flags_in_all (held t)) → (r : Searched) → r ≡ judged_as n all f.count f.place
        → BodyEnds (held s) table bytes r table' bytes'
    ends_judged f E all e r j =
        body_go (held s) table bytes closed_here fits f (rw (same, here) at E) all (rw same at e) r (rw here at j)

pub ruleset asked = (some_rank, the_room)
