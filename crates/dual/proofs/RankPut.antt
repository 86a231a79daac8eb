-- A rank of the dual put behind those that stand: the rank with k ranks below it, of n elements (w is n, widened),
-- which begins n elements before place `here`.
-- Assumes nothing.
use mathlib.Core.Path.{◌≡◌, ap, ◌∙◌}
use mathlib.Core.List.{List}
use Prim.Native.Nat.{ℕ, suc, ◌+◌, ◌-◌, ◌*◌, ◌≤◌, ◌<◌}
use native.Mathlib.Omega.{arith}
use lib.ListN.{length, get_or}
use Rattle.order.specs.Sums.{sum}
use Rattle.order.specs.Lists.{over}
use Rattle.order.proofs.Sums.{sum_none, sum_le, sum_same}
use Rattle.listing.specs.Listing.{Listing, rank, before, width, limits}
use Rattle.listing.specs.Shape.{Shaped}
use Rattle.listing.specs.Written.{lengths, written}
use Rattle.listing.proofs.Listing.{before_next}
use Rattle.listing.proofs.Places.{rank_fits}
use Rattle.listing.proofs.Written.{lists}
use Rattle.dual_theory.specs.Dual.{dual_size, dual_layers, dual_of}
use Rattle.dual_theory.proofs.DualLists.{dual_next, dual_elements, dual_lists, dual_lengths}
use Rattle.dual.specs.declared.write.Place.{Place}
use Rattle.dual.specs.Writing.{turned_from, ListsPut}
use Rattle.dual.proofs.Putting.{none, lists_none, lists_as, lists_then, ends_room, inc_room, ends_over, inc_over}
use Rattle.dual.proofs.Turned.{dual_list, turned_dual}

-- how many lists stand where r ranks are left
abbrev pub put_of : Listing → ℕ → ℕ
put_of L r = 2 * sum (dual_size L) (length L.counts - r)

module _ (L : Listing) where
  pub ranks_none : (ends inc : List ℕ) (r : ℕ) → r ≡ length L.counts
      → ListsPut (dual_list L) (put_of L r) none ends inc ends inc none
  ranks_none ends inc r h =
      let z : length L.counts - r ≡ 0 = omega arith in
      let e : put_of L r ≡ 0 = omega (arith, ap (sum (dual_size L)) z, sum_none (dual_size L)) in
      rw e (lists_none _ _ _ _)

module _ (L : Listing) (S : Shaped limits L) (k here w n : ℕ) (h : k < length L.counts)
    (eh : here ≡ before L.counts (k + 1)) (ew : w ≡ n) (en : n ≡ get_or L.counts k 0) where
  pub begins : here - w ≡ before L.counts k
  begins = omega (arith, before_next L.counts k)

  pub stays : w ≤ here
  stays = omega (arith, before_next L.counts k)

  opposite : length L.counts - (k + 1) + k ≡ rank L
  opposite = omega arith

  -- the lists of that rank are the next ones of the dual
  own : (j : ℕ) → j < 2 * n → turned_from L.ends L.inc (here - w) j ≡ dual_list L (put_of L (k + 1) + j)
  own j l = rw begins (turned_dual L _ k j opposite (rw en at l))

  few : put_of L (k + 1) + 2 * n ≤ length L.ends
  few =
      let m = length L.counts - (k + 1) in
      omega (
        arith,
        dual_next L m k opposite,
        sum_le (dual_size L) (m + 1) (length L.counts) (omega arith),
        dual_elements L,
        S.two_ends_each,
      )

  module _ (ends inc ends' inc' : List ℕ) (p : Place)
      (a : ListsPut (dual_list L) (put_of L (k + 1)) none ends inc ends' inc' p) where
    -- there is room for it
    pub rank_there : 2 * (here - w + n) ≤ length L.ends
    rank_there = omega (arith, rank_fits L S k, begins)

    pub rank_ends_room : length L.ends ≤ length ends → p.ends + 2 * n ≤ length ends'
    rank_ends_room r = ends_room (dual_list L) _ _ _ _ _ _ _ a (2 * n) _ few (omega arith)

    pub rank_inc_room : length L.inc ≤ length inc
        → (p.inc + sum (lengths (turned_from L.ends L.inc (here - w))) (2 * n) ≤ length inc')
        × (p.inc + sum (lengths (turned_from L.ends L.inc (here - w))) (2 * n) < width)
    rank_inc_room r =
        let e = sum_same _ _ (2 * n) (λ j l. ap length (own j l)) in
        let i = inc_room (dual_list L) _ _ _ _ _ _ _ a (2 * n) _ few in
        let t = dual_lengths L S in
        (omega (arith, e, i, t, a.inc_laid.same_length), omega (arith, e, i, t, S.few_incidences))

    -- and then it stands with them
    pub rank_then : (ends'' inc'' : List ℕ) (q : Place)
        → ListsPut (turned_from L.ends L.inc (here - w)) (2 * n) p ends' inc' ends'' inc'' q
        → ListsPut (dual_list L) (put_of L k) none ends inc ends'' inc'' q
    rank_then ends'' inc'' q b =
        let m = length L.counts - (k + 1) in
        let z : length L.counts - k ≡ m + 1 = omega arith in
        let t = ap (sum (dual_size L)) z ∙ dual_next L m k opposite in
        let e : put_of L k ≡ put_of L (k + 1) + 2 * n = omega (arith, t) in
        let c = lists_as _ _ _ _ _ _ _ _ b (λ j. dual_list L (put_of L (k + 1) + j)) own in
        rw e (lists_then (dual_list L) _ _ _ _ _ _ _ a _ _ _ _ c)

-- all ranks
module _ (L : Listing) (S : Shaped limits L) (ends inc ends' inc' : List ℕ) (p : Place) (r : ℕ) (z : r ≡ 0)
    (a : ListsPut (dual_list L) (put_of L r) none ends inc ends' inc' p) where
  all : ListsPut (dual_list L) (lists (dual_layers L)) none ends inc ends' inc' p
  all =
      let k : suc (rank L) ≡ length L.counts - r = omega (arith, S.some_rank) in
      let e : lists (dual_layers L) ≡ put_of L r = ap (λ (n : ℕ). 2 * sum (dual_size L) n) k in
      rw e a

  pub ranks_ends : length L.ends ≤ length ends → ends' ≡ over (dual_of L).ends ends
  unfolding dual_of written
  ranks_ends room = ends_over (dual_list L) _ _ _ _ _ _ all (omega (arith, dual_lists L S))

  pub ranks_inc : length L.inc ≤ length inc → inc' ≡ over (dual_of L).inc inc
  unfolding dual_of written
  ranks_inc room =
      let t = ap (sum (lengths (dual_list L))) (dual_lists L S) ∙ dual_lengths L S in
      inc_over (dual_list L) _ _ _ _ _ _ all (omega arith)
