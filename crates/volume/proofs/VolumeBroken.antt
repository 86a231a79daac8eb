-- six_volume answers the number of the first rule that is broken: that of the search, or one from 50 to 53.
-- Assumes nothing.
use mathlib.Core.Path.{◌≡◌, refl, sym, ap, ◌∙◌}
use mathlib.Core.Logic.{◌≢◌, ◌⊎◌, inl, inr, ⊎_elim}
use mathlib.Core.Bool.{Bool, true, false, not, cond}
use mathlib.Core.List.{List, [], ◌∷◌}
use Prim.Native.Nat.{ℕ, zero, suc, ◌*◌, ◌≤◌, ◌<◌}
use native.Mathlib.Omega.{arith}
use borrow.Author.Tests.{eq-eqb, eqb-true, ne_eqb, eqb-false}
use lib.Dec.{eqb}
use lib.ListN.{length}
use lib.Ieee.{Float}
use Rattle.listing.specs.declared.Answer.{Answer}
use Rattle.listing.specs.Refusals.{outside_ranks, more_flags, not_rank_four, not_orientable, wrong_coordinates}
use Rattle.listing.specs.Refusals.{not_in_metres}
use Rattle.listing.specs.Answers.{plain, fine, if_zero, on, ◌or_else◌}
use Rattle.listing.specs.Listing.{Listing, limits, rank, count}
use Rattle.listing.specs.Rules.{FirstBroken, rule}
use Rattle.listing.proofs.Answers.{if_not, or_fine, or_stop, or_assoc}
use Rattle.listing.proofs.Broken.{zero_or, broken_last, broken_step, tests_on, tests_not}
use Rattle.valid.specs.Closed.{Closed}
use Rattle.flag_change.specs.Flags.{IsFlag, start_test}
use Rattle.flag_change.proofs.StartBroken.{start_then}
use Rattle.search_theory.specs.Search.{AtLeast, Colouring}
use Rattle.search_masks.specs.Masks.{mask_fits, every_rank}
use Rattle.search_masks.proofs.Ranks.{fits_exact}
use Rattle.search_walk.specs.Searched.{found_by}
use Rattle.search.specs.SearchedBy.{search_test}
use Rattle.search.specs.Exact.{Leads, Finds}
use Rattle.search.specs.Promised.{room_in}
use Rattle.search.proofs.Cases.{said_fine}
use Rattle.search.proofs.Leads.{overflow_more}
use Rattle.search.proofs.EveryChange.{every_searchable}
use Rattle.search.proofs.SearchBroken.{overflow_tested, search_most, said as search-said}
use Rattle.search.proofs.Exact.{fine_number, promised}
use Rattle.volume_metres.specs.Whole.{AllCoordinates, all_coordinates}
use Rattle.volume_metres.proofs.Coordinates.{all_exact}
use Rattle.volume_theory.specs.Six.{cell_rank}
use Rattle.volume.specs.Volumes.{measured, unmeasured, volume_test, volume_as, volume_by}
use Rattle.volume.specs.Rules.{volume_rules}
use Rattle.volume.proofs.Cases.{said, left, turns}

number_as : (a : Answer) (x : Float) → (volume_as a x).no ≡ a.no
number_as a x = go a.no
  where
    go : (n : ℕ) → (if_zero n (measured x) (unmeasured n)).no ≡ n
    go zero = refl
    go (suc n) = refl

-- an answer after the search: its number is 0 or at least 50
abbrev Late : Answer → Type 0
Late a = (a.no ≡ 0) ⊎ (not_rank_four ≤ a.no)

late_on : (b : Bool) (n : ℕ) → not_rank_four ≤ n → Late (on b (plain n))
late_on true n h = inr h
late_on false n h = inl refl

late_then : (b : Bool) (n : ℕ) → not_rank_four ≤ n → (y : Answer) → Late y → Late (on b (plain n) or_else y)
late_then true n h y m = rw (or_stop (plain n) y (λ z. omega arith)) (inr h)
late_then false n h y m = rw (or_fine fine y refl) m

module _ (L : Listing) (first : List ℕ) (xs : List Float) (table bytes : List ℕ) where
  abbrev every : ℕ
  every = every_rank (rank L)

  abbrev room : ℕ
  room = room_in limits L table bytes

  abbrev Said : Answer
  Said = (said L first xs table bytes).answer

  -- The number of the answer is that of the test.
  pub number_is : (volume_by limits L first xs table bytes).no
      ≡ (volume_test L.counts xs (said L first xs table bytes)).no
  unfolding volume_by
  number_is = number_as (volume_test L.counts xs (said L first xs table bytes)) _

  -- Beside a refusal stands the positive zero.
  pub none_measured : let r = volume_by limits L first xs table bytes in r.no ≢ 0 → r ≡ unmeasured r.no
  unfolding volume_by
  none_measured h =
      let t = volume_test L.counts xs (said L first xs table bytes) in
      if_not t.no (measured _) (unmeasured t.no) (rw number_is at h) ∙ ap unmeasured (sym number_is)

  -- ---- what comes after the search

  abbrev sides : ℕ
  sides = (said L first xs table bytes).orientable

  abbrev last : Answer
  last = on (not (all_coordinates xs)) (plain not_in_metres)

  abbrev from_52 : Answer
  from_52 = on (not (eqb (length xs) (3 * count L 1))) (plain wrong_coordinates) or_else last

  abbrev from_51 : Answer
  from_51 = on (eqb sides 0) (plain not_orientable) or_else from_52

  abbrev from_50 : Answer
  from_50 = on (not (eqb (rank L) cell_rank)) (plain not_rank_four) or_else from_51

  -- ---- the first rule that is broken

  module _ (C : Closed limits L) (F : IsFlag L first) (few : ¬ AtLeast (suc room) (Leads L every) first) where
    -- there is room, so that the search is answered
    all : (found_by L first every room).overflow ≡ false
    all = go (found_by L first every room).overflow refl
      where
        go : (b : Bool) → (found_by L first every room).overflow ≡ b → (found_by L first every room).overflow ≡ false
        go true o = absurd (few ((overflow_more (every_searchable C F) room).0 o))
        go false o = o

    found : Finds L first every (left L first xs table bytes) (turns L first xs table bytes)
        (said L first xs table bytes)
    found =
        (promised limits L first every table bytes).finds
        (fine_number limits L first every table bytes (every_searchable C F) all)

    -- orientable or not
    binary : (sides ≡ 0) ⊎ (sides ≡ 1)
    binary = ⊎_elim (λ z. inl (is ∙ z)) (λ o. inr (is ∙ o)) (go (found_by L first every room).place)
      where
        is : sides ≡ cond (eqb (found_by L first every room).place 0) 1 0
        is = ap (λ r. r.orientable) (sym (said_fine (every_searchable C F) table bytes all).answer)

        go : (n : ℕ) → (◌≡◌ {A = ℕ} (cond (eqb n 0) 1 0) 0) ⊎ (◌≡◌ {A = ℕ} (cond (eqb n 0) 1 0) 1)
        go zero = inr refl
        go (suc n) = inl (rw (ne_eqb (suc n) 0 (λ e. omega arith)))

    coloured : eqb sides 0 ≡ false → Colouring (Leads L every) first
    coloured e = ⊎_elim (λ z. absurd (eqb-false sides 0 e z)) (λ o. found.orientable.0 o) binary

    two_sided : Colouring (Leads L every) first → eqb sides 0 ≡ false
    two_sided c = ne_eqb sides 0 (λ z. found.not_orientable.0 z c)

    broken_52 : FirstBroken
        (rule wrong_coordinates (length xs ≡ 3 * count L 1) ∷ rule not_in_metres (AllCoordinates xs) ∷ []) from_52.no
    broken_52 =
        broken_step _
        (tests_not (eqb (length xs) (3 * count L 1)) wrong_coordinates (omega arith)
        (eqb-true (length xs) (3 * count L 1)) (eq-eqb (length xs) (3 * count L 1)))
        last
        (λ e.
        broken_last (tests_not (all_coordinates xs) not_in_metres (omega arith) (all_exact xs).0 (all_exact xs).1))

    broken_50 : FirstBroken
        (rule not_rank_four (rank L ≡ cell_rank) ∷ rule not_orientable (Colouring (Leads L every) first) ∷
        rule wrong_coordinates (length xs ≡ 3 * count L 1) ∷ rule not_in_metres (AllCoordinates xs) ∷ []) from_50.no
    broken_50 =
        broken_step _
        (tests_not (eqb (rank L) cell_rank) not_rank_four (omega arith) (eqb-true (rank L) cell_rank)
        (eq-eqb (rank L) cell_rank))
        from_51
        (λ r. broken_step _ (tests_on (eqb sides 0) not_orientable (omega arith) coloured two_sided) from_52
        (λ c. broken_52))

  -- with every change the mask always fits
  mask_fits_lem : Closed limits L → IsFlag L first
      → on (not (mask_fits (rank L) every)) (plain outside_ranks) ≡ fine
  mask_fits_lem C F = rw ((fits_exact (rank L) every).1 (every_searchable C F).inner)

  test_is : volume_test L.counts xs (said L first xs table bytes)
      ≡ start_test limits L first or_else
      (on (not (mask_fits (rank L) every)) (plain outside_ranks) or_else
      on (found_by L first every room).overflow (plain more_flags)) or_else from_50
  unfolding volume_test search_test
  test_is =
      ap (λ a. a or_else from_50) (search-said limits L first every table bytes)
      ∙ sym (or_assoc (start_test limits L first) _ from_50)

  -- The number that six_volume answers is that of the first rule that is broken.
  pub volume_broken : FirstBroken (volume_rules limits L first xs room)
      (volume_by limits L first xs table bytes).no
  volume_broken =
      rw (number_is, test_is)
      (start_then limits L first _ _ (λ C F.
      rw (mask_fits_lem C F, or_fine fine (on (found_by L first every room).overflow (plain more_flags)) refl)
      (broken_step _ (overflow_tested limits L first every room (every_searchable C F)) from_50
      (λ few. broken_50 C F few))))

  -- ---- the number says whether the search was refused

  late_50 : Late from_50
  late_50 =
      late_then (not (eqb (rank L) cell_rank)) not_rank_four (omega arith) from_51
      (late_then (eqb sides 0) not_orientable (omega arith) from_52
      (late_then (not (eqb (length xs) (3 * count L 1))) wrong_coordinates (omega arith) last
      (late_on (not (all_coordinates xs)) not_in_metres (omega arith))))

  abbrev Number : ℕ
  Number = (volume_by limits L first xs table bytes).no

  -- Where the search is refused, so is the volume.
  pub stopped : Said.no ≢ 0 → Number ≡ Said.no
  unfolding volume_test
  stopped h = number_is ∙ ap (λ a. a.no) (or_stop Said from_50 h)

  went_on : Said.no ≡ 0 → Number ≡ from_50.no
  unfolding volume_test
  went_on z = number_is ∙ ap (λ a. a.no) (or_fine Said from_50 z)

  -- Below 50 it is the search's.
  pub as_searched : Number < not_rank_four → Number ≡ Said.no
  as_searched h = go (zero_or Said.no)
    where
      go : (Said.no ≡ 0) ⊎ (Said.no ≢ 0) → Number ≡ Said.no
      go (inr n) = stopped n
      go (inl z) = ⊎_elim (λ y. went_on z ∙ y ∙ sym z) (λ y. absurd (omega (arith, went_on z))) late_50

  -- From 50 on the search was answered.
  pub searched_first : not_rank_four ≤ Number → Said.no ≡ 0
  searched_first h = go (zero_or Said.no)
    where
      go : (Said.no ≡ 0) ⊎ (Said.no ≢ 0) → Said.no ≡ 0
      go (inl z) = z
      go (inr n) =
          let e = ap (λ a. a.no) (search-said limits L first every table bytes) in
          absurd (omega (arith, stopped n, search_most limits L first every room))
