-- What a search answers and writes, in each of its cases.
-- Assumes nothing.
use mathlib.Core.Path.{◌≡◌, refl, sym, ap, ◌∙◌}
use mathlib.Core.Bool.{true, false}
use mathlib.Core.Logic.{◌≢◌, ◌↔◌}
use mathlib.Core.List.{List}
use Prim.Native.Nat.{ℕ, zero, suc, ◌+◌, ◌-◌, ◌*◌, ◌/◌, ◌≤◌, ◌<◌, min}
use native.Mathlib.Nat.{mul-le-mul_right, div-mul-le_self}
use native.Mathlib.Omega.{arith}
use borrow.Author.Tests.{eq-eqb, ne_eqb}
use lib.ListN.{length, take}
use Rattle.std.specs.Prelude.{Result, Ok, Err, IsErrAnd}
use Rattle.std.proofs.lemmas.Result.{err_from_is_err_and}
use Rattle.order.specs.Lists.{over}
use Rattle.order.proofs.Over.{over_is}
use Rattle.listing.specs.Refusals.{outside_ranks, more_flags}
use Rattle.listing.specs.declared.Answer.{Answer}
use Rattle.listing.specs.declared.Slices.{Slices}
use Rattle.listing.specs.declared.Refusal.{Refusal}
use Rattle.listing.specs.Told.{answer_of}
use Rattle.listing.specs.Answers.{plain, fine, if_zero, on}
use Rattle.listing.specs.Listing.{Listing, Limits, limits, held, rank}
use Rattle.listing.proofs.Answers.{no_of, or_fine, or_stop}
use Rattle.flag_change.specs.Flags.{start_test, IsFlag}
use Rattle.flag_change.proofs.StartExact.{start_exact}
use Rattle.search_theory.specs.Search.{State}
use Rattle.search_store.specs.declared.Found.{Found}
use Rattle.search_store.specs.declared.Full.{Full}
use Rattle.search_index.specs.Rows.{rows, flatten}
use Rattle.search_store.specs.Held.{state_of, found_in, come_to}
use Rattle.search_index.proofs.Rows.{rows_length, rows_flat}
use Rattle.search_masks.specs.Masks.{mask_fits, InnerRanks}
use Rattle.search_masks.proofs.Ranks.{fits_exact}
use Rattle.search.specs.declared.Searched.{Searched}
use Rattle.search_walk.specs.Searched.{found_by}
use Rattle.search.specs.SearchedBy.{refused_as, found_as, room_of, search_test, searched_of, left_after, searched_by}
use Rattle.search.specs.SearchedBy.{table_after, bytes_after, told_searched, told_walk}
use Rattle.search.specs.Exact.{Searchable}
use Rattle.search.specs.Promised.{room_in}
use Rattle.search_walk.specs.Ready.{Ended}
use Rattle.search.proofs.Numbers.{start_most}

-- ---- room

pub room_is : (m : Limits) (L : Listing) (table bytes : ℕ) → 0 < length L.counts
    → min (min (table / length L.counts) bytes) m.flags ≡ room_of m L table bytes
unfolding room_of
room_is m L table bytes h = let z : length L.counts - 1 + 1 ≡ length L.counts = omega arith in rw z

pub room_fits : (m : Limits) (table bytes w n : ℕ) → n ≡ min (min (table / w) bytes) m.flags
    → (n * w ≤ table) × (n ≤ bytes) × (n ≤ m.flags)
room_fits m table bytes w n e =
    let h : n ≤ table / w = omega arith in
    (omega (arith, mul-le-mul_right w h, div-mul-le_self table w), omega arith, omega arith)

-- ---- what is answered, and what a slice holds afterwards

module _ (a : Answer) (S : State (List ℕ)) where
  pub answer_none : a.no ≢ 0 → refused_as a ≡ searched_of a S
  unfolding searched_of
  answer_none h = go a.no h
    where
      go : (k : ℕ) → k ≢ 0 → refused_as a ≡ if_zero k (found_as a (length S.found) S.place) (refused_as a)
      go zero n = absurd (n refl)
      go (suc k) n = refl

  pub answer_some : a.no ≡ 0 → found_as a (length S.found) S.place ≡ searched_of a S
  unfolding searched_of
  answer_some e = rw e

module _ (a : Answer) (new old : List ℕ) where
  after_none : a.no ≢ 0 → a.no ≢ more_flags → old ≡ left_after a new old
  unfolding left_after
  after_none h k = rw (ne_eqb a.no 0 h, ne_eqb a.no more_flags k)

  after_fine : a.no ≡ 0 → over new old ≡ left_after a new old
  unfolding left_after
  after_fine e = rw (eq-eqb a.no 0 e)

  after_full : a.no ≡ more_flags → over new old ≡ left_after a new old
  unfolding left_after
  after_full e = rw (ne_eqb a.no 0 (λ z. omega arith), eq-eqb a.no more_flags e)

-- ---- nothing is written

module _ (m : Limits) (L : Listing) (first : List ℕ) (mask : ℕ) (table bytes : List ℕ) where
  -- the answer and the two slices are what the search says
  pub record Ends (r : Searched) (table' bytes' : List ℕ) : Type 0 where
    pub answer : r ≡ searched_by m L first mask table bytes
    pub flags : table' ≡ table_after m L first mask table bytes
    pub turns : bytes' ≡ bytes_after m L first mask table bytes

  abbrev test : Answer
  test = search_test m L first mask (room_in m L table bytes)

  -- what was found, with the room that there is
  abbrev F : State (List ℕ)
  F = found_by L first mask (room_in m L table bytes)

  none : (a : Answer) → a ≡ test → a.no ≢ 0 → a.no ≢ more_flags → Ends (refused_as a) table bytes
  unfolding searched_by table_after bytes_after
  none a e h k = record {
    answer = rw (← e) (answer_none a F h);
    flags = rw (← e) (after_none a (flatten F.found) table h k);
    turns = rw (← e) (after_none a F.bytes bytes h k);
  }

  -- the tests before the mask refuse, and the mask does
  pub ends_start : (a : Answer) → a ≡ start_test m L first → a.no ≢ 0 → Ends (refused_as a) table bytes
  unfolding search_test
  ends_start a e h =
      none a (e ∙ sym (or_stop (start_test m L first) _ (rw (← e) h))) h
      (λ k. omega (arith, start_most m L first, ap (λ x. x.no) e))

  pub ends_mask : (start_test m L first).no ≡ 0 → mask_fits (rank L) mask ≡ false
      → Ends (refused_as (plain outside_ranks)) table bytes
  unfolding search_test
  ends_mask z f =
      none (plain outside_ranks)
      (sym (or_fine (start_test m L first) _ z ∙ rw f (or_stop (plain outside_ranks) _ (λ k. omega arith))))
      (λ k. omega arith) (λ k. omega arith)

-- ---- what was found is written

-- what a search asks is what the tests before it ask
pub searchable_exact : (m : Limits) (L : Listing) (first : List ℕ) (mask : ℕ)
    → (((start_test m L first).no ≡ 0) × (mask_fits (rank L) mask ≡ true)) ↔ Searchable m L first mask
searchable_exact m L first mask = (
  λ h.
      let p = (start_exact m L first).0 h.0 in
      record { closed = p.0; is_flag = p.1; inner = (fits_exact (rank L) mask).0 h.1 },
  λ T. ((start_exact m L first).1 (T.closed, T.is_flag), (fits_exact (rank L) mask).1 T.inner),
)

module _ {m : Limits} {L : Listing} {first : List ℕ} {mask : ℕ} (T : Searchable m L first mask) (table bytes : List ℕ)
  where
    abbrev S : State (List ℕ)
    S = found_by L first mask (room_in m L table bytes)

    -- what was found is written, and past it is what stood there
    abbrev pub Written : Searched → Type 0
    Written r = Ends m L first mask table bytes r (over (flatten S.found) table) (over S.bytes bytes)

    pub last_test : search_test m L first mask (room_in m L table bytes) ≡ on S.overflow (plain more_flags)
    unfolding search_test
    last_test =
        let t = (searchable_exact m L first mask).1 T in
        or_fine (start_test m L first) _ t.0 ∙ rw t.1 (or_fine fine _ refl)

    pub said_full : S.overflow ≡ true → Written (refused_as (plain more_flags))
    unfolding searched_by table_after bytes_after
    said_full o =
        let e : search_test m L first mask (room_in m L table bytes) ≡ plain more_flags = last_test ∙ rw o in
        record {
          answer = rw e (answer_none (plain more_flags) S (λ k. omega arith));
          flags = rw e (after_full (plain more_flags) (flatten S.found) table refl);
          turns = rw e (after_full (plain more_flags) S.bytes bytes refl);
        }

    pub said_fine : S.overflow ≡ false → Written (found_as fine (length S.found) S.place)
    unfolding searched_by table_after bytes_after
    said_fine o =
        let e : search_test m L first mask (room_in m L table bytes) ≡ fine = last_test ∙ rw o in
        record {
          answer = rw e (answer_some fine S refl);
          flags = rw e (after_fine fine (flatten S.found) table refl);
          turns = rw e (after_fine fine S.bytes bytes refl);
        }

-- ---- the walk has come to its end

-- the flags and bytes of the state that a table and its bytes stand for, whatever the result
come_found : (w : ℕ) (table bytes : List ℕ) (r : Result Found Full)
    → (come_to w table bytes r).found ≡ rows w table (found_in r).count
unfolding state_of
come_found w table bytes (Ok f) = refl
come_found w table bytes (Err d) = refl

come_bytes : (w : ℕ) (table bytes : List ℕ) (r : Result Found Full)
    → (come_to w table bytes r).bytes ≡ take (found_in r).count bytes
unfolding state_of
come_bytes w table bytes (Ok f) = refl
come_bytes w table bytes (Err d) = refl

module _ {m : Limits} {L : Listing} {first : List ℕ} {mask : ℕ} (T : Searchable m L first mask) (table bytes : List ℕ)
  where
    abbrev n : ℕ
    n = room_in m L table bytes

    abbrev w : ℕ
    w = length L.counts

    -- the walk answered r, and left the slices as table' and bytes'
    abbrev pub Walked : List ℕ → List ℕ → Result Found Full → Type 0
    Walked table' bytes' r = Ended w n table bytes table' bytes' r (S T table bytes)

    -- so many were found
    pub count_found : {table' bytes' : List ℕ} (f : Found) → Walked table' bytes' (Ok f)
        → length (S T table bytes).found ≡ f.count
    unfolding state_of
    count_found {table'} f E = rw (← ap (λ s. s.found) E.state) (rows_length w table' f.count)

    -- the walk stops where there are more flags than there is room for
    pub full_is : {table' bytes' : List ℕ} (d : Full) → Walked table' bytes' (Err d)
        → (S T table bytes).overflow ≡ true
    full_is d E = sym (ap (λ s. s.overflow) E.state)

    module _ {table' bytes' : List ℕ} (fits : (n * w ≤ length table) × (n ≤ length bytes)) (r : Result Found Full)
        (E : Walked table' bytes' r) where
      table_found : over (flatten (S T table bytes).found) table ≡ table'
      table_found =
          let k = (found_in r).count * w in
          let i : k ≤ length table' = omega (arith, mul-le-mul_right w E.fits, E.rest.long) in
          rw (
            sym (ap (λ s. s.found) E.state) ∙ come_found w table' bytes' r,
            rows_flat w table' (found_in r).count,
          ) (over_is k table' table i E.rest.past)

      bytes_found : over (S T table bytes).bytes bytes ≡ bytes'
      bytes_found =
          let i : (found_in r).count ≤ length bytes' = omega (arith, E.fits, E.rest.bytes_long) in
          rw (sym (ap (λ s. s.bytes) E.state) ∙ come_bytes w table' bytes' r)
          (over_is (found_in r).count bytes' bytes i E.rest.bytes_past)

    pub ends_walk : {table' bytes' : List ℕ} → (n * w ≤ length table) × (n ≤ length bytes)
        → (r : Result Found Full) → Walked table' bytes' r
        → Ends m L first mask table bytes (told_walk r) table' bytes'
    unfolding state_of
    ends_walk fits (Ok f) E =
        rw (table_found fits (Ok f) E, bytes_found fits (Ok f) E, count_found f E, sym (ap (λ s. s.place) E.state))
        at (said_fine T table bytes (sym (ap (λ s. s.overflow) E.state)))
    ends_walk fits (Err d) E =
        rw (table_found fits (Err d) E, bytes_found fits (Err d) E) at (said_full T table bytes (full_is d E))

-- ---- the same as the code meets it

-- what `?` returns is the refusal that it met
pub searched_err : (r : Result Found Refusal) (d : Refusal) → IsErrAnd r (λ x. x ≡ d)
    → told_searched r ≡ refused_as (answer_of d)
searched_err r d h = let p = err_from_is_err_and r h in rw (p.1, p.2) refl

module _ (s : Slices) (first : List ℕ) where
  pub some_rank : fine ≡ start_test limits (held s) first → 0 < length s.counts.now
  some_rank e = ((start_exact limits (held s) first).0 (no_of e refl)).0.shaped.some_rank

  module _ (t : Slices) (same : t ≡ s) (e : fine ≡ start_test limits (held s) first) where
    pub the_flag : IsFlag (held t) first
    the_flag = rw same ((start_exact limits (held s) first).0 (no_of e refl)).1

    pub the_mask : (mask : ℕ) → true ≡ mask_fits (rank (held s)) mask → InnerRanks (rank (held t)) mask
    the_mask mask h = rw same ((fits_exact (rank (held s)) mask).0 (sym h))

    pub the_room : (table bytes n : ℕ) → n ≡ min (min (table / length s.counts.now) bytes) limits.flags
        → (n * length t.counts.now ≤ table) × (n ≤ bytes) × (n ≤ limits.flags)
    the_room table bytes n h = rw same (room_fits limits table bytes (length s.counts.now) n h)

    -- the walk, with the room that there is
    pub ends_search : {table bytes table' bytes' : List ℕ} {mask n : ℕ} → true ≡ mask_fits (rank (held s)) mask
        → n ≡ min (min (length table / length s.counts.now) (length bytes)) limits.flags → (r : Result Found Full)
        → Ended (length t.counts.now) n table bytes table' bytes' r (found_by (held t) first mask n)
        → Ends limits (held s) first mask table bytes (told_walk r) table' bytes'
    ends_search {table} {bytes} {table'} {bytes'} {mask} {n} h z r E =
        let z' = z ∙ room_is limits (held s) (length table) (length bytes) (some_rank e) in
        let f = room_fits limits (length table) (length bytes) (length s.counts.now) _ (sym z' ∙ z) in
        ends_walk
        ((searchable_exact limits (held s) first mask).0 (no_of e refl, sym h)) table bytes (f.0, f.1) r
        (rw (same, z') at E)

pub ruleset asked = (some_rank, the_flag, the_mask, the_room)
