-- What is promised of the test for one body holds: which refusal comes when, and what the slices then hold.
-- Assumes nothing.
use mathlib.Core.Path.{◌≡◌, refl, sym, ap, ◌∙◌}
use mathlib.Core.Logic.{◌≢◌}
use mathlib.Core.Bool.{false}
use mathlib.Core.List.{List, Memᴰ}
use Prim.Native.Nat.{ℕ, ◌+◌, ◌≤◌}
use native.Mathlib.Omega.{arith}
use lib.ListN.{length}
use Rattle.listing.specs.Answers.{fine}
use Rattle.listing.specs.Listing.{Listing, limits, rank}
use Rattle.valid.specs.Tests.{closed}
use Rattle.valid.specs.Closed.{Closed}
use Rattle.valid.proofs.ClosedExact.{closed_exact}
use Rattle.flag_change.specs.Flags.{IsFlag}
use Rattle.search_index.specs.Rows.{rows}
use Rattle.search_masks.specs.Masks.{every_rank}
use Rattle.search.specs.SearchedBy.{refused_as, found_as, searched_by}
use Rattle.search.specs.Promised.{room_in}
use Rattle.search.proofs.Cases.{answer_none, answer_some, said_fine}
use Rattle.search.proofs.Contents.{rows_are}
use Rattle.search.proofs.SearchBroken.{answer_of}
use Rattle.search.proofs.Exact.{promised}
use Rattle.search.proofs.EveryChange.{every_searchable}
use Rattle.body_theory.specs.Pieces.{OnePiece}
use Rattle.body_theory.specs.InAll.{flags_in_all}
use Rattle.body_theory.specs.First.{sups_flag}
use Rattle.body_theory.proofs.First.{sups_flag_lem}
use Rattle.body.specs.Body.{whole_search, body_test, body_by, body_table_after, body_bytes_after}
use Rattle.body.specs.Promised.{BodyPromised}
use Rattle.body.proofs.FoundAll.{whole_searchable, no_overflow, found_few, found_piece, found_all}
use Rattle.body.proofs.Cases.{body_stop}
use Rattle.body.proofs.Verdict.{Verdict, verdict, body_broken}
use Rattle.body.proofs.Verdict.Verdict.{not_closed, too_many, several, one_body}

module _ (L : Listing) (table bytes : List ℕ) where
  abbrev room : ℕ
  room = room_in limits L table bytes

  pub body_said : (body_by limits L table bytes).answer ≡ body_test limits L room
  unfolding body_by
  body_said = answer_of (body_test limits L room) (whole_search L room)

  body_numbers : (body_by limits L table bytes).answer.no ≢ 0
      → body_by limits L table bytes ≡ refused_as (body_by limits L table bytes).answer
  unfolding body_by
  body_numbers h =
      rw body_said (sym (answer_none (body_test limits L room) (whole_search L room) (rw body_said at h)))

  body_untouched : ¬ Closed limits L
      → (body_table_after limits L table bytes ≡ table) × (body_bytes_after limits L table bytes ≡ bytes)
  body_untouched n =
      let o = body_stop L table bytes (closed limits L) refl (λ z. n ((closed_exact limits L).0 z)) in
      (sym o.flags, sym o.turns)

  -- ---- answered with 0

  record Accepted : Type 0 where
    closed : Closed limits L
    fits : flags_in_all L ≤ room
    one_piece : OnePiece L
    is_fine : body_test limits L room ≡ fine

  accepted : (body_by limits L table bytes).answer.no ≡ 0 → Accepted
  accepted z = go (verdict L room)
    where
      no : (body_test limits L room).no ≡ 0
      no = rw body_said at z

      go : Verdict L room (body_test limits L room) → Accepted
      go (not_closed n h k) = absurd (h no)
      go (too_many C M e) = absurd (omega (arith, no, ap (λ x. x.no) e))
      go (several C n o e) = absurd (omega (arith, no, ap (λ x. x.no) e))
      go (one_body C h o e) = record { closed = C; fits = h; one_piece = o; is_fine = e }

  module _ (A : Accepted) where
    found_is : body_by limits L table bytes
        ≡ found_as fine (length (whole_search L room).found) (whole_search L room).place
    unfolding body_by
    found_is = rw A.is_fine (sym (answer_some fine (whole_search L room) refl))

    -- the search had room for all
    no_more : (whole_search L room).overflow ≡ false
    no_more = no_overflow A.closed (sups_flag_lem A.closed) room A.fits

    body_same : body_by limits L table bytes ≡ searched_by limits L (sups_flag L) (every_rank (rank L)) table bytes
    body_same = found_is ∙ (said_fine (whole_searchable A.closed) table bytes no_more).answer

    body_all : (f : List ℕ) → IsFlag L f
        → Memᴰ f (rows (rank L + 1) (body_table_after limits L table bytes) (body_by limits L table bytes).count)
    body_all f F =
        let T = whole_searchable A.closed in
        let i = found_all A.closed (sups_flag_lem A.closed) room A.fits A.one_piece f F in
        rw (found_is, ← (said_fine T table bytes no_more).flags, rows_are T room table bytes) i

  -- It then counts all flags.
  body_count : (body_by limits L table bytes).answer.no ≡ 0 → (body_by limits L table bytes).count ≡ flags_in_all L
  body_count z =
      let A = accepted z in
      let F = sups_flag_lem A.closed in
      let p = (found_piece A.closed F room A.fits).1 A.one_piece in
      ap (λ r. r.count) (found_is A) ∙ omega (arith, found_few A.closed F room)

  -- A search with every change from any flag, with room for as many, finds as many.
  pub from_any_flag : (body_by limits L table bytes).answer.no ≡ 0 → (f u v : List ℕ) → IsFlag L f
      → (body_by limits L table bytes).count ≤ room_in limits L u v
      → let s = searched_by limits L f (every_rank (rank L)) u v in
      (s.answer.no ≡ 0) × (s.count ≡ (body_by limits L table bytes).count)
  from_any_flag z f u v F h =
      let A = accepted z in
      let n = body_count z in
      let fits : flags_in_all L ≤ room_in limits L u v = omega arith in
      let e = (said_fine (every_searchable A.closed F) u v (no_overflow A.closed F _ fits)).answer in
      let p = (found_piece A.closed F _ fits).1 A.one_piece in
      let q = found_few A.closed F (room_in limits L u v) in
      rw (← e) (refl, omega arith)

  -- Answered with 0, it answers as that search does.
  pub body_as_search : (body_by limits L table bytes).answer.no ≡ 0
      → body_by limits L table bytes ≡ searched_by limits L (sups_flag L) (every_rank (rank L)) table bytes
  body_as_search z = body_same (accepted z)

  pub body_promised : BodyPromised limits L table bytes (body_by limits L table bytes)
      (body_table_after limits L table bytes) (body_bytes_after limits L table bytes)
  body_promised = record {
    refusals = rw body_said (body_broken L room);
    numbers = body_numbers;
    untouched = body_untouched;
    whole = whole_searchable;
    search = searched_by limits L (sups_flag L) (every_rank (rank L)) table bytes;
    searched = promised limits L (sups_flag L) (every_rank (rank L)) table bytes;
    same = body_as_search;
    all = λ z. body_all (accepted z);
  }
