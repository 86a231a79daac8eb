-- Layers that have been noted down, flat: the lists of the listing, element after element, as they stand in the notes.
-- Assumes nothing.
use mathlib.Core.Path.{◌≡◌, sym, ap, subst, ◌∙◌}
use mathlib.Core.List.{List}
use Prim.Native.Nat.{ℕ, suc, ◌+◌, ◌*◌, ◌≤◌, ◌<◌}
use native.Mathlib.Omega.{arith}
use lib.ListN.{length, get_or}
use Rattle.order.specs.Sums.{sum}
use Rattle.order.proofs.Sums.{sum_same, part_ok}
use Rattle.listing.specs.Listing.{limits}
use Rattle.listing.specs.Layers.{Layers, derived}
use Rattle.listing.specs.Written.{list_at, nth, written}
use Rattle.listing.proofs.Sequences.{sum_add, sum_parts}
use Rattle.listing.proofs.Written.{joined_length, nth_at, written_counts_length, written_ends_length, written_elements}
use Rattle.listing_sups.specs.Filling.{starts}
use Rattle.text_theory.specs.Notes.{subs_to}
use Rattle.text_building.specs.Building.{Source, subs_before, Flat}

-- ---- the elements of layers, by rank and then index

module _ (M : Layers) where
  abbrev pub lists : ℕ → List ℕ
  lists = nth M (derived M)

  abbrev pub whole : ℕ
  whole = sum M.size (suc M.top)

  -- what holds of each element of each rank holds of all of them
  of_all : (P : ℕ → Type 0) → ((r k : ℕ) → r ≤ M.top → k < M.size r → P (sum M.size r + k))
      → (e : ℕ) → e < whole → P e
  of_all P f e h =
      let o = part_ok M.size (suc M.top) e h in
      subst P (sym o.2) (f _ _ (omega (arith, o.0)) o.1)

  module _ (r k : ℕ) (h : r ≤ M.top) (l : k < M.size r) where
    subs_is : lists (2 * (sum M.size r + k)) ≡ M.under r k
    unfolding list_at
    subs_is =
        let z : 2 * (sum M.size r + k) + 0 ≡ 2 * (sum M.size r + k) = omega arith in
        rw z at (nth_at M (derived M) 0 r k (omega arith) h l)

    sups_is : lists (2 * (sum M.size r + k) + 1) ≡ derived M r k
    unfolding list_at
    sups_is = nth_at M (derived M) 1 r k (omega arith) h l

  -- the subs before an element, over ranks and over all elements
  subs_to_flat : (r i : ℕ) → r ≤ M.top → i ≤ M.size r → subs_before lists (sum M.size r + i) ≡ subs_to M r i
  unfolding subs_to
  subs_to_flat r i h l =
      let f : ℕ → ℕ = λ k. length (lists (2 * k)) in
      let lower : sum f (sum M.size r) ≡ sum (λ q. sum (λ k. length (M.under q k)) (M.size q)) r =
      sum_parts f M.size r ∙ sum_same _ _ r (λ q a.
      sum_same _ _ (M.size q) (λ k b. ap length (subs_is q k (omega arith) b))) in
      let same : sum (λ k. f (sum M.size r + k)) i ≡ sum (λ k. length (M.under r k)) i =
      sum_same _ _ i (λ k b. ap length (subs_is r k h (omega arith))) in
      omega (arith, sum_add f (sum M.size r) i, lower, same)

-- ---- what is noted of them

module _ {M : Layers} {noted many subs up : List ℕ} {ranks n c e i : ℕ}
    (s : Source M noted many subs up ranks n c e i) where
  pub few_ranks : suc M.top ≤ limits.ranks
  few_ranks = omega (arith, s.shaped.few_ranks, written_counts_length M (derived M))

  pub few_elements : whole M ≤ limits.elements
  few_elements = omega (arith, s.shaped.few_elements, written_elements M (derived M) s.topped)

  pub room_counts : suc M.top ≤ c
  room_counts = omega (arith, s.room.0, written_counts_length M (derived M))

  room_ends : 2 * whole M ≤ e
  room_ends = omega (arith, s.room.1, written_ends_length M (derived M))

  room_inc : (starts (lists M) (2 * whole M) ≤ i) × (starts (lists M) (2 * whole M) ≤ limits.incidences)
  unfolding written
  room_inc = omega (arith, s.room.2, s.shaped.few_incidences, joined_length (lists M) (2 * whole M))

  subs_long : subs_before (lists M) (whole M) ≤ length subs
  unfolding sum
  subs_long = omega (arith, s.notes.room, subs_to_flat M M.top (M.size M.top) (omega arith) (omega arith))

  each : (r k : ℕ) → r ≤ M.top → k < M.size r
      → get_or many (sum M.size r + k) 0 ≡ length (lists M (2 * (sum M.size r + k)))
  each r k h l = s.notes.each r k l ∙ ap length (sym (subs_is M r k h l))

  sups : (r k : ℕ) → r ≤ M.top → k < M.size r
      → get_or up (sum M.size r + k) 0 ≡ length (lists M (2 * (sum M.size r + k) + 1))
  sups r k h l = s.counted.at r k l ∙ ap length (sym (sups_is M r k h l))

  sub : (r k : ℕ) → r ≤ M.top → k < M.size r → (j : ℕ) → j < length (lists M (2 * (sum M.size r + k)))
      → get_or subs (subs_before (lists M) (sum M.size r + k) + j) 0
      ≡ get_or (lists M (2 * (sum M.size r + k))) j 0
  sub r k h l j b =
      rw (subs_to_flat M r k h (omega arith), subs_is M r k h l)
      (s.notes.sub r k j l (rw (subs_is M r k h l) at b))

  pub flat : Flat (lists M) many subs up n e i
  flat =
      let m = room_inc in
      rw s.elements_are
      (record {
        many_long = s.notes.elements;
        up_long = s.counted.long;
        subs_long = subs_long;
        each = of_all M _ each;
        sups = of_all M _ sups;
        sub = of_all M _ sub;
        room_ends = room_ends;
        room_inc = m.0;
        few = omega (arith, m.1);
      })
