-- What is promised of a search holds: which refusal comes when, and what the table and the bytes then hold.
-- Assumes nothing.
use mathlib.Core.Path.{◌≡◌, refl, sym, ap, ◌∙◌}
use mathlib.Core.Bool.{Bool, true, false}
use mathlib.Core.Logic.{◌≢◌, ◌⊎◌, inl, inr}
use mathlib.Core.List.{List}
use Prim.Native.Nat.{ℕ, ◌+◌, ◌*◌, ◌≤◌}
use native.Mathlib.Omega.{arith}
use lib.ListN.{length, take}
use Rattle.order.specs.Lists.{over}
use Rattle.listing.specs.Refusals.{more_flags}
use Rattle.listing.specs.Listing.{Listing, Limits, rank}
use Rattle.listing.proofs.Broken.{zero_or}
use Rattle.flag_change.specs.Flags.{start_test}
use Rattle.search_theory.specs.Search.{State}
use Rattle.search_theory.proofs.Found.{overflow_full}
use Rattle.search_theory.proofs.Prefix.{prefix}
use Rattle.search_index.specs.Rows.{rows, same_list, flatten}
use Rattle.search_index.proofs.Rows.{same_decides}
use Rattle.search_masks.specs.Masks.{mask_fits}
use Rattle.search_walk.specs.Searched.{mask_changes, found_by}
use Rattle.search.specs.declared.Searched.{Searched}
use Rattle.search.specs.SearchedBy.{room_of, searched_by, table_after, bytes_after}
use Rattle.search.specs.Exact.{Searchable, Holds, Finds}
use Rattle.search.specs.Promised.{room_in, Promised}
use Rattle.search.proofs.Cases.{Ends, room_fits, ends_start, ends_mask, searchable_exact, said_full, said_fine}
use Rattle.search.proofs.Contents.{rows_are, holds, finds}
use Rattle.search.proofs.Numbers.{start_most}
use Rattle.search.proofs.SearchBroken.{search_broken, said, refused_numbers}

module _ (m : Limits) (L : Listing) (first : List ℕ) (mask : ℕ) (table bytes : List ℕ) where
  abbrev room : ℕ
  room = room_in m L table bytes

  abbrev S : State (List ℕ)
  S = found_by L first mask room

  abbrev r : Searched
  r = searched_by m L first mask table bytes

  abbrev t : List ℕ
  t = table_after m L first mask table bytes

  abbrev b : List ℕ
  b = bytes_after m L first mask table bytes

  -- ---- refused, or what a search asks

  -- nothing is written, and the number is another than 0 and 22
  record Refused : Type 0 where
    other_0 : r.answer.no ≢ 0
    other_22 : r.answer.no ≢ more_flags
    untouched : (t ≡ table) × (b ≡ bytes)

  refused : (x : Searched) → Ends m L first mask table bytes x table bytes → x.answer.no ≢ 0
      → x.answer.no ≢ more_flags → Refused
  refused x o h k = record {
    other_0 = rw o.answer at h;
    other_22 = rw o.answer at k;
    untouched = (sym o.flags, sym o.turns);
  }

  view : Refused ⊎ Searchable m L first mask
  view = go (zero_or (start_test m L first).no) (mask_fits (rank L) mask) refl
    where
      go : ((start_test m L first).no ≡ 0) ⊎ ((start_test m L first).no ≢ 0) → (f : Bool) → mask_fits (rank L) mask ≡ f
          → Refused ⊎ Searchable m L first mask
      go (inr h) f e =
          inl (refused _ (ends_start m L first mask table bytes _ refl h) h
          (λ k. omega (arith, start_most m L first)))
      go (inl z) true e = inr ((searchable_exact m L first mask).0 (z, e))
      go (inl z) false e =
          inl (refused _ (ends_mask m L first mask table bytes z e) (λ k. omega arith) (λ k. omega arith))

  -- ---- the number says which

  full_number : Searchable m L first mask → S.overflow ≡ true → r.answer.no ≡ more_flags
  full_number T o = ap (λ x. x.answer.no) (sym (said_full T table bytes o).answer)

  pub fine_number : Searchable m L first mask → S.overflow ≡ false → r.answer.no ≡ 0
  fine_number T o = ap (λ x. x.answer.no) (sym (said_fine T table bytes o).answer)

  full_case : r.answer.no ≡ more_flags → Searchable m L first mask × (S.overflow ≡ true)
  full_case e = go view S.overflow refl
    where
      go : Refused ⊎ Searchable m L first mask → (v : Bool) → S.overflow ≡ v
          → Searchable m L first mask × (S.overflow ≡ true)
      go (inl R) v o = absurd (R.other_22 e)
      go (inr T) true o = (T, o)
      go (inr T) false o = absurd (omega (arith, e, fine_number T o))

  pub fine_case : r.answer.no ≡ 0 → Searchable m L first mask × (S.overflow ≡ false)
  fine_case e = go view S.overflow refl
    where
      go : Refused ⊎ Searchable m L first mask → (v : Bool) → S.overflow ≡ v
          → Searchable m L first mask × (S.overflow ≡ false)
      go (inl R) v o = absurd (R.other_0 e)
      go (inr T) true o = absurd (omega (arith, e, full_number T o))
      go (inr T) false o = (T, o)

  other_case : r.answer.no ≢ 0 → r.answer.no ≢ more_flags → (t ≡ table) × (b ≡ bytes)
  other_case h k = go view S.overflow refl
    where
      go : Refused ⊎ Searchable m L first mask → (v : Bool) → S.overflow ≡ v → (t ≡ table) × (b ≡ bytes)
      go (inl R) v o = R.untouched
      go (inr T) true o = absurd (k (full_number T o))
      go (inr T) false o = absurd (h (fine_number T o))

  -- ---- what the slices hold

  module _ (T : Searchable m L first mask) where
    -- the slices have the room
    fits : (room * (rank L + 1) ≤ length table) × (room ≤ length bytes)
    unfolding room_of
    fits =
        let f = room_fits m (length table) (length bytes) (rank L + 1) room refl in
        (f.0, f.1)

    held : Holds L first mask (over (flatten S.found) table) (over S.bytes bytes) table bytes (length S.found)
    held = holds T room table bytes fits.0 fits.1

    full_long : S.overflow ≡ true → length S.found ≡ room
    unfolding found_by
    full_long o = overflow_full same_list same_decides room (mask_changes L mask) first o

    full_holds : S.overflow ≡ true → Holds L first mask t b table bytes room
    full_holds o =
        let s = said_full T table bytes o in
        rw (full_long o) at (rw (s.flags, s.turns) at held)

    firsts : S.overflow ≡ true → (more : ℕ) → room ≤ more
        → rows (rank L + 1) t room ≡ take room (found_by L first mask more).found
    unfolding found_by
    firsts o more h =
        (rw (full_long o, (said_full T table bytes o).flags) at (rows_are T room table bytes))
        ∙ (prefix same_list same_decides room more h (mask_changes L mask) first).0

    fine_holds : S.overflow ≡ false → Holds L first mask t b table bytes r.count
    fine_holds o =
        let s = said_fine T table bytes o in
        rw (← s.answer) (rw (s.flags, s.turns) at held)

    fine_finds : S.overflow ≡ false → Finds L first mask t b r
    fine_finds o =
        let s = said_fine T table bytes o in
        rw (← s.answer, ← s.flags, ← s.turns) (finds T room table bytes o)

  -- For any listing, first flag, mask, table and bytes: what a search answers and writes. It answers 0 or 22 exactly if
  -- the listing is closed, the first is a flag of it and the mask asks for inner ranks: 22 if more flags are reachable
  -- than there is room for, and else 0, with all of them in the table in the order found, counted, and coloured by the
  -- bytes if they can be.
  pub promised : Promised m L first mask table bytes (searched_by m L first mask table bytes)
      (table_after m L first mask table bytes) (bytes_after m L first mask table bytes)
  promised = record {
    refusals = rw (said m L first mask table bytes) (search_broken m L first mask room);
    numbers = refused_numbers m L first mask table bytes;
    untouched = other_case;
    full = λ e. let c = full_case e in full_holds c.0 c.1;
    first_found = λ e. let c = full_case e in firsts c.0 c.1;
    holds = λ e. let c = fine_case e in fine_holds c.0 c.1;
    finds = λ e. let c = fine_case e in fine_finds c.0 c.1;
  }
