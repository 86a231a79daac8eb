-- The product as the builder leaves it: its counts, and with all elements laid, its ends and its incidences.
-- Assumes nothing.
use mathlib.Core.Path.{◌≡◌, sym, ap, ◌∙◌}
use mathlib.Core.List.{List}
use Prim.Native.Nat.{ℕ, suc, ◌*◌, ◌≤◌, ◌<◌}
use native.Mathlib.Omega.{arith}
use lib.ListN.{length}
use Rattle.order.specs.Sums.{sum}
use Rattle.listing.specs.Listing.{width, Listing}
use Rattle.listing.specs.Layers.{Layers, Topped, derived}
use Rattle.listing.specs.Laid.{LaidList}
use Rattle.listing.specs.Written.{nth}
use Rattle.listing_sups.specs.Filling.{starts, ElementsLaid}
use Rattle.listing_sups.proofs.Unfilled.{Unfilled}
use Rattle.product_places.specs.declared.Poles.{Poles}
use Rattle.product_places.proofs.Numbers.{bit_le}
use Rattle.product_element.specs.Pairs.{target, lists_of, product_lists, size_of, Plan}
use Rattle.product_writing.proofs.Target.{target_size, target_topped}
use Rattle.product_building.specs.Built.{counts_of, product_listing}
use Rattle.product_building.proofs.CountsLaid.{counts_length, target_counts}

-- the plan, and room for the counts
pub record Buildable (poles : Poles) (P Q : Listing) (counts₀ ends₀ inc₀ : List ℕ) : Type 0 where
  pub plan : Plan poles.min poles.max P Q (length ends₀) (length inc₀)
  pub room : length (product_listing poles P Q).counts ≤ length counts₀

module _ {poles : Poles} {P Q : Listing} {counts₀ ends₀ inc₀ : List ℕ}
    (r : Buildable poles P Q counts₀ ends₀ inc₀) where
  abbrev W : Listing
  W = product_listing poles P Q

  abbrev T : Layers
  T = target poles.min poles.max P Q

  abbrev N : ℕ
  N = sum T.size (suc T.top)

  topped : Topped T
  topped = target_topped poles.min poles.max P Q

  size : N ≡ size_of poles.min poles.max P.counts Q.counts
  size = target_size P Q r.plan.ranks_p.0 r.plan.ranks_q.0 poles.min poles.max

  counts_are : W.counts ≡ counts_of poles.min poles.max P.counts Q.counts
  counts_are = target_counts P Q r.plan.ranks_p.0 r.plan.ranks_q.0 poles.min poles.max

  pub counts_room : length (counts_of poles.min poles.max P.counts Q.counts) ≤ length counts₀
  counts_room = rw (← counts_are) r.room

  few_counts : length W.counts < width
  few_counts =
      let p = r.plan in
      rw counts_are (omega (
        arith,
        counts_length poles.min poles.max P.counts Q.counts,
        bit_le poles.min,
        bit_le poles.max,
        p.ranks_p.1,
        p.ranks_q.1,
      ))

  -- there is room, by the layers
  room_ends : 2 * N ≤ length ends₀
  room_ends = omega (arith, size, r.plan.room_for_ends)

  room_inc : starts (nth T (derived T)) (2 * N) ≤ length inc₀
  unfolding lists_of
  room_inc = rw size r.plan.room_for_inc

-- what is written before the sups are filled in: k counts, and n elements
pub record BeforeFill (poles : Poles) (P Q : Listing) (counts₀ ends₀ inc₀ counts₁ ends₁ inc₁ : List ℕ) (k n : ℕ)
    : Type 0 where
  pub ready : Buildable poles P Q counts₀ ends₀ inc₀
  pub k_is : k ≡ length (counts_of poles.min poles.max P.counts Q.counts)
  pub counts : LaidList 0 (counts_of poles.min poles.max P.counts Q.counts) counts₀ counts₁
  pub n_is : n ≡ size_of poles.min poles.max P.counts Q.counts
  pub elements : ElementsLaid (product_lists poles P Q) (size_of poles.min poles.max P.counts Q.counts)
      ends₀ inc₀ ends₁ inc₁

module _ {poles : Poles} {P Q : Listing} {counts₀ ends₀ inc₀ counts₁ ends₁ inc₁ : List ℕ} {k n : ℕ}
    (l : BeforeFill poles P Q counts₀ ends₀ inc₀ counts₁ ends₁ inc₁ k n) where
  abbrev r : Buildable poles P Q counts₀ ends₀ inc₀
  r = l.ready

  number_is : n ≡ N r
  number_is = l.n_is ∙ sym (size r)

  laid_t : ElementsLaid (nth (T r) (derived (T r))) (N r) ends₀ inc₀ ends₁ inc₁
  unfolding lists_of
  laid_t = rw (size r) l.elements

  pub product_unfilled : Unfilled (T r) counts₀ ends₀ inc₀ counts₁ ends₁ inc₁ k n
  product_unfilled = record {
    topped = topped r;
    k_is = l.k_is ∙ ap length (sym (counts_are r));
    counts = rw (counts_are r) l.counts;
    n_is = number_is;
    elements = laid_t;
    few_counts = few_counts r;
    few_elements = omega (arith, size r, r.plan.elements);
    room_counts = r.room;
    room_ends = room_ends r;
    room_inc = room_inc r;
  }
