-- What six_volume answers and leaves in its slices: the mask of every change, a refusal, and where nothing is refused,
-- what the sum stands on.
-- Assumes nothing.
use mathlib.Core.Path.{◌≡◌, refl, sym, ap, ◌∙◌}
use mathlib.Core.Bool.{false, not, cond}
use mathlib.Core.Logic.{◌≢◌, ◌⊎◌, inl, inr}
use mathlib.Core.List.{List, Memᴰ}
use Prim.Native.Nat.{ℕ, zero, suc, ◌+◌, ◌-◌, ◌*◌, ◌≤◌}
use native.Mathlib.Nat.{mul-le-mul_right}
use native.Mathlib.Omega.{arith}
use borrow.Author.Tests.{eqb-true, eqb-false, ne_eqb, not-false}
use lib.Dec.{eqb}
use lib.ListN.{length}
use lib.Ieee.{Float}
use Rattle.order.specs.Lists.{over}
use Rattle.std.proofs.Common.{Result}
use Rattle.std.specs.Result.{IsErrAnd}
use Rattle.std.proofs.lemmas.Result.{err_from_is_err_and}
use Rattle.listing.specs.declared.Refusal.{Refusal}
use Rattle.listing.specs.Answers.{fine}
use Rattle.listing.specs.Told.{answer_of}
use Rattle.listing.specs.Listing.{Listing, limits, rank, count}
use Rattle.listing.proofs.Answers.{no_of, or_no, or_stop, on_no, on_or_no, if_not}
use Rattle.listing.proofs.Broken.{zero_or}
use Rattle.listing.proofs.Told.{refuses}
use Rattle.valid.specs.Closed.{Closed}
use Rattle.valid.specs.Tests.{closed}
use Rattle.valid.proofs.ClosedExact.{closed_exact}
use Rattle.flag_change.specs.Flags.{IsFlag, start_test}
use Rattle.flag_change.proofs.StartExact.{start_exact}
use Rattle.search_theory.specs.Search.{State, Neighbour, Proper, evens}
use Rattle.search_theory.proofs.Proper.{search_proper}
use Rattle.search_theory.proofs.Evens.{evens_over, evens_few}
use Rattle.search_index.specs.Rows.{rows, same_list, flatten}
use Rattle.search_index.proofs.Rows.{same_decides}
use Rattle.search_masks.specs.Masks.{every_rank}
use Rattle.search_walk.specs.Searched.{mask_changes, found_by}
use Rattle.search_walk.specs.Ready.{AllFlags}
use Rattle.search.specs.declared.Searched.{Searched}
use Rattle.search.specs.SearchedBy.{refused_as, found_as, room_of, searched_by, table_after, bytes_after}
use Rattle.search.specs.Exact.{Searchable, Holds}
use Rattle.search.specs.Promised.{room_in}
use Rattle.search.proofs.Cases.{Ends, room_fits, ends_start, said_fine}
use Rattle.search.proofs.Contents.{rows_are}
use Rattle.search.proofs.Exact.{fine_case, promised}
use Rattle.volume_metres.specs.Whole.{AllCoordinates, all_coordinates}
use Rattle.volume_metres.proofs.Coordinates.{all_exact}
use Rattle.volume_metres.specs.Formulas.{in_floats}
use Rattle.volume_theory.specs.Six.{cell_rank, even_flags, six_formula}
use Rattle.volume_theory.proofs.EvenFlags.{Oriented, even_flag}
use Rattle.volume_theory.proofs.Exactly.{six_exact}
use Rattle.volume.specs.Volumes.{measured, unmeasured, volume_test, volume_by}
use Rattle.volume.specs.Volumes.{told_volume}

-- ---- the mask

-- A search of a listing with no ranks or too many is refused before its mask is looked at.
pub any_mask : (L : Listing) (first : List ℕ) (mask : ℕ) (table bytes : List ℕ) {r : Searched} {t b : List ℕ}
    → (length L.counts ≤ limits.ranks → mask ≡ every_rank (length L.counts - 1))
    → Ends limits L first mask table bytes r t b → Ends limits L first (every_rank (rank L)) table bytes r t b
any_mask L first mask table bytes {r} {t} {b} e E = go (zero_or (start_test limits L first).no)
  where
    go : ((start_test limits L first).no ≡ 0) ⊎ ((start_test limits L first).no ≢ 0)
        → Ends limits L first (every_rank (rank L)) table bytes r t b
    go (inl z) =
        rw (e ((start_exact limits L first).0 z).0.shaped.few_ranks) at E
    go (inr h) =
        let A = ends_start limits L first mask table bytes (start_test limits L first) refl h in
        let B = ends_start limits L first (every_rank (rank L)) table bytes (start_test limits L first) refl h in
        record {
          answer = E.answer ∙ sym A.answer ∙ B.answer;
          flags = E.flags ∙ sym A.flags ∙ B.flags;
          turns = E.turns ∙ sym A.turns ∙ B.turns;
        }

-- ---- nothing is refused

record Passed (L : Listing) (xs : List Float) (s : Searched) : Type 0 where
  searched : s.answer.no ≡ 0
  is_cell : rank L ≡ cell_rank
  sides : s.orientable ≢ 0
  three_each : length xs ≡ 3 * count L 1
  metres : AllCoordinates xs

passed : (L : Listing) (xs : List Float) (s : Searched) → (volume_test L.counts xs s).no ≡ 0 → Passed L xs s
unfolding volume_test
passed L xs s z =
    let a = or_no s.answer _ z in
    let b = on_or_no (not (eqb (rank L) cell_rank)) _ _ (λ e. omega arith) a.1 in
    let c = on_or_no (eqb s.orientable 0) _ _ (λ e. omega arith) b.1 in
    let d = on_or_no (not (eqb (length xs) (3 * count L 1))) _ _ (λ e. omega arith) c.1 in
    let e = on_no (not (all_coordinates xs)) _ (λ e. omega arith) d.1 in
    record {
      searched = a.0;
      is_cell = eqb-true (rank L) cell_rank (not-false _ b.0);
      sides = eqb-false s.orientable 0 c.0;
      three_each = eqb-true (length xs) (3 * count L 1) (not-false _ d.0);
      metres = (all_exact xs).0 (not-false _ e);
    }

module _ (L : Listing) (first : List ℕ) (xs : List Float) (table bytes : List ℕ) where
  -- the search with every change: its answer, its room, what it finds, and what it leaves
  abbrev pub said : Searched
  said = searched_by limits L first (every_rank (rank L)) table bytes

  abbrev room : ℕ
  room = room_in limits L table bytes

  abbrev S : State (List ℕ)
  S = found_by L first (every_rank (rank L)) room

  abbrev pub left : List ℕ
  left = table_after limits L first (every_rank (rank L)) table bytes

  abbrev pub turns : List ℕ
  turns = bytes_after limits L first (every_rank (rank L)) table bytes

  proper : Proper room (Neighbour (mask_changes L (every_rank (rank L)))) first S
  unfolding found_by
  proper = search_proper same_list same_decides room (mask_changes L (every_rank (rank L))) first

  room_held : (room * (rank L + 1) ≤ length table) × (room ≤ length bytes) × (room ≤ limits.flags)
  unfolding room_of
  room_held = room_fits limits (length table) (length bytes) (rank L + 1) room refl

  pub record Answered : Type 0 where
    pub is_cell : rank L ≡ cell_rank
    pub three_each : length xs ≡ 3 * count L 1
    pub metres : AllCoordinates xs
    pub searched : said.answer.no ≡ 0
    pub searchable : Searchable limits L first (every_rank (rank L))
    pub all : S.overflow ≡ false
    pub orientable : S.place ≡ 0

  -- Where no test refuses.
  pub answered : (volume_test L.counts xs said).no ≡ 0 → Answered
  answered z =
      let p = passed L xs said z in
      let f = fine_case limits L first (every_rank (rank L)) table bytes p.searched in
      let e = (said_fine f.0 table bytes f.1).answer in
      record {
        is_cell = p.is_cell;
        three_each = p.three_each;
        metres = p.metres;
        searched = p.searched;
        searchable = f.0;
        all = f.1;
        orientable = still S.place (rw (← e) at p.sides);
      }
    where
      still : (n : ℕ) → ◌≢◌ {A = ℕ} (cond (eqb n 0) 1 0) 0 → n ≡ 0
      still zero h = refl
      still (suc n) h = absurd (h (rw (ne_eqb (suc n) 0 (λ e. omega arith))))

  module _ (A : Answered) where
    abbrev C : Closed limits L
    C = A.searchable.closed

    pub oriented : Oriented L first room
    oriented = record {
      closed = C;
      is_flag = A.searchable.is_flag;
      all = A.all;
      orientable = A.orientable;
    }

    ends : Ends limits L first (every_rank (rank L)) table bytes (found_as fine (length S.found) S.place)
        (over (flatten S.found) table) (over S.bytes bytes)
    ends = said_fine A.searchable table bytes A.all

    count_is : said.count ≡ length S.found
    count_is = ap (λ r. r.count) (sym ends.answer)

    holds : Holds L first (every_rank (rank L)) left turns table bytes said.count
    holds = (promised limits L first (every_rank (rank L)) table bytes).holds A.searched

    -- The even ones of the flags in the table are the even flags found.
    pub evens_left : evens (rows (rank L + 1) left said.count) turns ≡ even_flags L first room
    unfolding even_flags
    evens_left =
        rw (count_is, ← ends.flags, ← ends.turns, rows_are A.searchable room table bytes)
        (evens_over S.found S.bytes _ (omega (arith, proper.paired)))

    wide : length L.counts ≡ rank L + 1
    wide = omega (arith, C.shaped.some_rank)

    -- What the sum asks of the table and the bytes.
    rows_fit : (said.count * length L.counts ≤ length left) × (said.count ≤ length turns)
    rows_fit =
        let n : said.count ≤ room = omega (arith, count_is, proper.fits) in (
          omega (arith, holds.long, ap (λ k. room * k) wide, mul-le-mul_right (length L.counts) n, room_held),
          omega (arith, holds.bytes_long, room_held),
        )

    rows_flags : AllFlags L left said.count
    rows_flags k h = rw (sym wide) at (holds.flags k h)

    pub sum_asks : {s : Searched} {t b : List ℕ} → s ≡ said → t ≡ left → b ≡ turns
        → ((s.count * length L.counts ≤ length t) × (s.count ≤ length b)) × AllFlags L t s.count
    sum_asks e f g = rw (e, f, g) (rows_fit, rows_flags)

    -- The even flags are flags, and not too many.
    pub evens_flags : (f : List ℕ) → Memᴰ f (even_flags L first room) → IsFlag L f
    evens_flags = even_flag oriented

    pub few : length (even_flags L first room) ≤ limits.flags
    unfolding even_flags
    few = omega (arith, evens_few S.found S.bytes, proper.fits, room_held)

-- ---- what the code answers, where the search was asked for by any mask that will do

-- what `?` returns is the refusal that it met
pub volume_err : (result : Result Float Refusal) (d : Refusal) → IsErrAnd result (λ x. x ≡ d)
    → told_volume result ≡ unmeasured (answer_of d).no
volume_err result d h = let p = err_from_is_err_and result h in rw (p.1, p.2) refl

pub ends_every : (L : Listing) (first : List ℕ) (mask : ℕ) (table bytes : List ℕ) {s : Searched} {t b : List ℕ}
    → (length L.counts ≤ limits.ranks → mask ≡ every_rank (length L.counts - 1))
    → s ≡ searched_by limits L first mask table bytes → t ≡ table_after limits L first mask table bytes
    → b ≡ bytes_after limits L first mask table bytes
    → Ends limits L first (every_rank (rank L)) table bytes s t b
ends_every L first mask table bytes M V T B =
    any_mask L first mask table bytes M (record { answer = V; flags = T; turns = B })

module _ {L : Listing} {first : List ℕ} {table bytes : List ℕ} {s : Searched} {t b : List ℕ}
    (E : Ends limits L first (every_rank (rank L)) table bytes s t b) (xs : List Float) where
  -- a test refuses
  pub test_halts : (d : Refusal) → answer_of d ≡ volume_test L.counts xs s
      → unmeasured (answer_of d).no ≡ volume_by limits L first xs table bytes
  unfolding volume_by
  test_halts d e =
      let n = rw E.answer at e in
      rw (← n) (sym (if_not _ (measured _) (unmeasured _) (refuses d)))

  -- the search does
  pub search_halts : (d : Refusal) → s ≡ refused_as (answer_of d)
      → unmeasured (answer_of d).no ≡ volume_by limits L first xs table bytes
  unfolding volume_test
  search_halts d e = test_halts d (rw e (sym (or_stop (answer_of d) _ (refuses d))))

  -- nothing is refused
  module _ (z : fine ≡ volume_test L.counts xs s) where
    pub passes : Answered L first xs table bytes
    passes = answered L first xs table bytes (rw E.answer at (no_of z refl))

    pub is_closed : (closed limits L).no ≡ 0
    is_closed = (closed_exact limits L).1 passes.searchable.closed

    pub asks : ((s.count * length L.counts ≤ length t) × (s.count ≤ length b)) × AllFlags L t s.count
    asks = sum_asks L first xs table bytes passes E.answer E.flags E.turns

    -- the sum, as it was worked out from what the search left
    pub summed : (x : Float) → x ≡ in_floats xs (six_formula L (evens (rows (length L.counts) t s.count) b))
        → measured x ≡ volume_by limits L first xs table bytes
    unfolding volume_by
    summed x i =
        let A = passes in
        let h = rw E.answer at (no_of z refl) in
        let l =
        (λ j. evens (rows (wide L first xs table bytes A j) (E.flags j) (E.answer j).count) (E.turns j))
        ∙ evens_left L first xs table bytes A in
        let y =
        six_exact A.searchable.closed A.is_cell xs A.metres A.three_each
        (even_flags L first (room_in limits L table bytes)) (evens_flags L first xs table bytes A)
        (few L first xs table bytes A) in
        rw h (ap measured (i ∙ ap (λ q. in_floats xs (six_formula L q)) l ∙ y))
