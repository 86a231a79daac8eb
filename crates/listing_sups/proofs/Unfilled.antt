-- Any layers being written: with their counts and all elements in place their sups can be filled in, and then the
-- listing stands over what was there before.
-- Assumes nothing.
use mathlib.Core.Path.{◌≡◌}
use mathlib.Core.List.{List}
use Prim.Native.Nat.{ℕ, suc, ◌*◌, ◌≤◌, ◌<◌}
use lib.ListN.{length, take}
use Rattle.order.specs.Lists.{over}
use Rattle.order.specs.Sums.{sum}
use Rattle.listing.specs.Listing.{Listing, listing, width, limits}
use Rattle.listing.specs.Layers.{Layers, Topped, derived}
use Rattle.listing.specs.Laid.{LaidList}
use Rattle.listing.specs.Written.{nth, written}
use Rattle.listing.proofs.Laying.{list_over, take_over}
use Rattle.listing_sups.specs.Sups.{Fillable, SupsFilled}
use Rattle.listing_sups.specs.Filling.{starts, ElementsLaid}
use Rattle.listing_sups.proofs.Whole.{whole_fillable, whole_ends, whole_inc}

-- what is written before the sups are filled in: k counts, and n elements
pub record Unfilled (M : Layers) (counts₀ ends₀ inc₀ counts₁ ends₁ inc₁ : List ℕ) (k n : ℕ) : Type 0 where
  pub topped : Topped M
  pub k_is : k ≡ length (written M (derived M)).counts
  pub counts : LaidList 0 (written M (derived M)).counts counts₀ counts₁
  pub n_is : n ≡ sum M.size (suc M.top)
  pub elements : ElementsLaid (nth M (derived M)) (sum M.size (suc M.top)) ends₀ inc₀ ends₁ inc₁
  pub few_counts : length (written M (derived M)).counts < width
  pub few_elements : sum M.size (suc M.top) ≤ limits.elements
  pub room_counts : length (written M (derived M)).counts ≤ length counts₀
  pub room_ends : 2 * sum M.size (suc M.top) ≤ length ends₀
  pub room_inc : starts (nth M (derived M)) (2 * sum M.size (suc M.top)) ≤ length inc₀

module _ {M : Layers} {counts₀ ends₀ inc₀ counts₁ ends₁ inc₁ : List ℕ} {k n : ℕ}
    (u : Unfilled M counts₀ ends₀ inc₀ counts₁ ends₁ inc₁ k n) where
  abbrev W : Listing
  W = written M (derived M)

  -- the listing before its sups are filled in
  abbrev pub unfilled : Listing
  unfilled = listing (take k counts₁) (take (2 * n) ends₁) inc₁

  part_is : take k counts₁ ≡ W.counts
  part_is = rw u.k_is (take_over W.counts counts₀ counts₁ u.room_counts u.counts)

  -- what is asked of the code that fills in the sups
  pub fill_asked : Fillable unfilled
  fill_asked =
      rw (part_is, u.n_is)
      (whole_fillable M u.topped ends₀ inc₀ ends₁ inc₁ u.elements u.room_ends u.room_inc u.few_elements
      u.few_counts)

  -- and what that leaves
  pub filled_all : (inc₂ : List ℕ) → SupsFilled unfilled (length (take k counts₁)) inc₂
      → (counts₁ ≡ over W.counts counts₀) × ((ends₁ ≡ over W.ends ends₀) × (inc₂ ≡ over W.inc inc₀))
  filled_all inc₂ f = (
    list_over W.counts counts₀ counts₁ u.room_counts u.counts,
    (
      whole_ends M u.topped ends₀ inc₀ ends₁ inc₁ u.elements u.room_ends u.room_inc,
      whole_inc M u.topped ends₀ inc₀ ends₁ inc₁ u.elements u.room_ends u.room_inc inc₂
          (rw (part_is, u.n_is) at f),
    ),
  )
