-- What a search holds in its slices: the flags that changes lead to from the first, none twice, in the order found, and
-- their bytes; and where there was no overflow, all such flags and their colours.
-- Assumes nothing.
use mathlib.Core.Path.{◌≡◌, refl, sym, ap, ◌∙◌}
use mathlib.Core.Bool.{false, cond}
use mathlib.Core.Logic.{◌↔◌}
use mathlib.Core.List.{List, [], ◌∷◌, Memᴰ}
use Prim.Native.Nat.{ℕ, zero, suc, ◌+◌, ◌-◌, ◌*◌, ◌≤◌, ◌<◌}
use native.Mathlib.Nat.{mul-le-mul_right}
use native.Mathlib.Decide.{ℕ_discrete}
use native.Mathlib.Omega.{arith}
use borrow.Author.Tests.{ne_eqb}
use lib.Dec.{eqb}
use lib.ListN.{length, get_or, get_or-append}
use lib.Seq.{ext_get_or}
use Rattle.order.specs.Lists.{over}
use Rattle.order.proofs.Over.{over_length, over_past}
use Rattle.order.specs.Steps.{Reach}
use Rattle.listing.specs.Answers.{fine}
use Rattle.listing.specs.Listing.{Listing, Limits, rank}
use Rattle.flag_change.specs.Flags.{IsFlag}
use Rattle.search_theory.specs.Search.{State, Neighbour, AtLeast, Proper, Colouring, tone}
use Rattle.search_theory.proofs.Once.{mem_at}
use Rattle.search_theory.proofs.Lookup.{index_only}
use Rattle.search_theory.proofs.Grown.{start_even, start_first}
use Rattle.search_theory.proofs.Proper.{search_proper}
use Rattle.search_theory.proofs.Found.{found_exact, found_count}
use Rattle.search_theory.proofs.Coloured.{coloured_bytes}
use Rattle.search_theory.proofs.Orientation.{bytes_flip, place_exact}
use Rattle.search_theory.proofs.Alike.{came_alike, clash_alike}
use Rattle.search_theory.proofs.Course.{search_came, search_clash}
use Rattle.search_index.specs.Rows.{row_of, rows, same_list, flatten}
use Rattle.search_index.proofs.Rows.{same_decides, rows_length, rows_at}
use Rattle.search_walk.specs.Searched.{mask_changes, found_by}
use Rattle.search.specs.SearchedBy.{found_as}
use Rattle.search.specs.Exact.{Searchable, Leads, FirstMet, Repeat, Holds, Finds}
use Rattle.search.proofs.Flat.{flat_length, flat_row}
use Rattle.search.proofs.Leads.{iff_trans, of_leads, to_reach, of_reach, reach_flag, least_leads, flips_leads}
use Rattle.search.proofs.Leads.{colours_leads}
use Rattle.search.proofs.InOrder.{came_first, clash_repeat}

-- ---- small facts

-- past which default does not matter
at_any : (l : List (List ℕ)) (d e : List ℕ) (k : ℕ) → k < length l → get_or l k d ≡ get_or l k e
at_any [] d e k h = absurd (omega arith)
at_any (x ∷ l) d e zero h = refl
at_any (x ∷ l) d e (suc k) h = at_any l d e k (omega arith)

-- orientable or not, by the place
abbrev side : ℕ → ℕ
side p = cond (eqb p 0) 1 0

orient_one : (p : ℕ) → (side p ≡ 1) ↔ (p ≡ 0)
orient_one zero = (λ e. refl, λ e. refl)
orient_one (suc p) = rw (ne_eqb (suc p) 0 (λ e. omega arith)) (λ e. absurd (omega arith), λ e. absurd (omega arith))

orient_none : (p : ℕ) → (side p ≡ 0) ↔ (0 < p)
orient_none zero = (λ e. absurd (omega arith), λ e. absurd (omega arith))
orient_none (suc p) = rw (ne_eqb (suc p) 0 (λ e. omega arith)) (λ e. omega arith, λ e. refl)

-- ---- what was found, in the slices

module _ {m : Limits} {L : Listing} {first : List ℕ} {mask : ℕ} (T : Searchable m L first mask) (room : ℕ)
    (table bytes : List ℕ) where
  abbrev S : State (List ℕ)
  S = found_by L first mask room

  abbrev w : ℕ
  w = rank L + 1

  abbrev t' : List ℕ
  t' = over (flatten S.found) table

  abbrev b' : List ℕ
  b' = over S.bytes bytes

  abbrev row : ℕ → List ℕ
  row = row_of w t'

  abbrev byte : ℕ → ℕ
  byte k = get_or b' k 0

  proper : Proper room (Neighbour (mask_changes L mask)) first S
  unfolding found_by
  proper = search_proper same_list same_decides room (mask_changes L mask) first

  flag_found : (f : List ℕ) → Memᴰ f S.found → IsFlag L f × (length f ≡ w)
  flag_found f i =
      let F = reach_flag T (proper.reached f i) in
      (F, omega (arith, F.one_each, T.closed.shaped.some_rank))

  row_is : (d : List ℕ) (k : ℕ) → k < length S.found → row k ≡ get_or S.found k d
  row_is d k h = flat_row w S.found _ (λ f i. (flag_found f i).1) k h ∙ at_any S.found [] d k h

  byte_is : (k : ℕ) → k < length S.found → byte k ≡ get_or S.bytes k 0
  byte_is k h = get_or-append S.bytes _ 0 k (omega (arith, proper.paired))

  pub rows_are : rows w t' (length S.found) ≡ S.found
  rows_are =
      let n = rows_length w t' (length S.found) in
      ext_get_or [] (rows w t' (length S.found)) S.found n
      (λ k h. rows_at w t' (length S.found) k [] (omega arith) ∙ row_is [] k (omega arith))

  reached : (k : ℕ) → k < length S.found → Reach (Neighbour (mask_changes L mask)) first (row k)
  reached k h = rw (row_is [] k h) (proper.reached _ (mem_at S.found [] k h))

  came : (k : ℕ) → 0 < k → k < length S.found → FirstMet L mask row byte k
  unfolding found_by
  came k z h =
      let t = search_came same_list same_decides room (mask_changes L mask) first k z h in
      came_first L mask first row byte t.0 t.1 k
      (came_alike (mask_changes L mask) first _ row _ byte (length S.found) (row_is first) byte_is t.0 t.1 k h
      t.2)

  begins : 0 < length S.found → 0 < room
  begins h = omega (arith, proper.fits)

  start : 0 < length S.found → (row 0 ≡ first) × (byte 0 ≡ 0)
  unfolding found_by
  start h = (
    row_is [] 0 h ∙ rw (start_first same_list room (mask_changes L mask) first (begins h)).1 refl,
    byte_is 0 h ∙ rw (start_even same_list room (mask_changes L mask) first (begins h)).1 refl,
  )

  -- as many numbers as the rows in use have
  flat : length (flatten S.found) ≡ length S.found * w
  flat = flat_length w S.found (λ f i. (flag_found f i).1)

  pub holds : room * w ≤ length table → room ≤ length bytes
      → Holds L first mask t' b' table bytes (length S.found)
  holds p q = record {
    once = rw rows_are proper.once;
    flags = λ k h. reach_flag T (reached k h);
    reached = λ k h. to_reach T (reached k h);
    binary = λ k h. rw (byte_is k h) (proper.binary k);
    start = start;
    came = came;
    long = over_length (flatten S.found) table (omega (arith, flat, mul-le-mul_right w proper.fits));
    past = over_past (flatten S.found) table (length S.found * w) flat;
    bytes_long = over_length S.bytes bytes (omega (arith, proper.paired, proper.fits));
    bytes_past = over_past S.bytes bytes (length S.found) proper.paired;
  }

  -- ---- no overflow: all that is reachable

  module _ (o : S.overflow ≡ false) where
    all_found : (f : List ℕ) → Reach (Leads L mask) first f → Memᴰ f S.found
    unfolding found_by
    all_found f h = (found_exact same_list same_decides room (mask_changes L mask) first o f).1 (of_reach T h)

    counted : AtLeast (length S.found) (Leads L mask) first
        × ((n : ℕ) → AtLeast n (Leads L mask) first → n ≤ length S.found)
    unfolding found_by
    counted =
        let c = found_count same_list same_decides room (mask_changes L mask) first o in
        ((least_leads T _).0 c.0, λ n q. c.1 n ((least_leads T n).1 q))

    coloured : (S.place ≡ 0) ↔ Colouring (Leads L mask) first
    unfolding found_by
    coloured = iff_trans (place_exact same_list same_decides room (mask_changes L mask) first o) (colours_leads T)

    uncoloured : (0 < S.place) ↔ (¬ Colouring (Leads L mask) first)
    uncoloured =
        (λ h c. omega (arith, coloured.1 c), λ n. go (ℕ_discrete S.place 0) n)
      where
        go : Dec (S.place ≡ 0) → (¬ Colouring (Leads L mask) first) → 0 < S.place
        go (yes z) n = absurd (n (coloured.0 z))
        go (no z) n = omega arith

    event : 0 < S.place → Repeat L mask row byte S.place
    unfolding found_by
    event z =
        clash_repeat L mask first row byte S.place
        (λ k h. rw (byte_is k (omega (arith, proper.placed))) (proper.binary k))
        (clash_alike (mask_changes L mask) first _ row _ byte (length S.found) (row_is first) byte_is S.place
        proper.placed (search_clash same_list same_decides room (mask_changes L mask) first z))

    -- the bytes, where there is a colouring
    turned : S.place ≡ 0 → (j k : ℕ) → j < length S.found → k < length S.found
        → Leads L mask (row j) (row k) → byte k ≡ 1 - byte j
    unfolding found_by
    turned z j k h i l =
        let n = of_leads T (row j) (row k) (reach_flag T (reached j h)) l in
        let b = bytes_flip same_list same_decides room (mask_changes L mask) first o z j h (row k)
        (rw (row_is first j h) at n) in
        let x = index_only same_list same_decides S.found [] (row k) k proper.once i
        ((same_decides _ _).1 (sym (row_is [] k i))) in
        byte_is k i ∙ sym (ap (λ p. get_or S.bytes p 0) x) ∙ b ∙ ap (λ p. 1 - p) (sym (byte_is j h))

    colours : (c : Colouring (Leads L mask) first) (k : ℕ) → k < length S.found
        → byte k ≡ tone (c.colour first) (c.colour (row k))
    unfolding found_by
    colours c k h =
        let e : Colouring (Neighbour (mask_changes L mask)) first =
        record { colour = c.colour; flips = flips_leads T c.colour c.flips } in
        rw (row_is first k h)
        (byte_is k h ∙ coloured_bytes same_list same_decides room (mask_changes L mask) first e k h)

    pub finds : Finds L first mask t' b' (found_as fine (length S.found) S.place)
    finds = record {
      all = λ f h. rw rows_are (all_found f h);
      count = counted;
      orientable = iff_trans (orient_one S.place) coloured;
      not_orientable = iff_trans (orient_none S.place) uncoloured;
      place = uncoloured;
      placed = proper.placed;
      event = event;
      exchanged = λ e j k h i l. turned ((orient_one S.place).0 e) j k h i l;
      colours = colours;
    }
