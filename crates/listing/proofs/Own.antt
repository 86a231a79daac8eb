-- A shaped listing is what its own layers are written as, with its own sups.
-- Assumes nothing.
use mathlib.Core.Path.{◌≡◌, refl, sym, ap, ◌∙◌}
use mathlib.Core.List.{List}
use Prim.Native.Nat.{ℕ, suc, ◌*◌, ◌/◌, ◌%◌, ◌<◌}
use native.Mathlib.Omega.{arith}
use lib.ListN.{length, get_or}
use lib.Seq.{take_all, ext_get_or}
use Rattle.order.specs.Sums.{sum}
use Rattle.order.proofs.Sums.{sum_same, part_ok}
use Rattle.listing.specs.Listing.{Listing, Limits, rank, count, before, start, entries, side, sups}
use Rattle.listing.specs.Shape.{Shaped}
use Rattle.listing.specs.Layers.{layers}
use Rattle.listing.specs.Written.{joined, tabulated, lengths, list_at, nth, written}
use Rattle.listing.proofs.Entries.{entries_start, entries_joined}
use Rattle.listing.proofs.Places.{at_sides}
use Rattle.listing.proofs.ShapeExact.{shaped_ranks, shaped_ends}
use Rattle.listing.proofs.Written.{joined_same, tabulated_length, tabulated_at, lists}

module _ {m : Limits} (L : Listing) (S : Shaped m L) where
  -- its own sups
  abbrev above : ℕ → ℕ → List ℕ
  above r i = sups L r i

  all_lists : lists (layers L) ≡ length L.ends
  unfolding before
  all_lists = ap (λ (n : ℕ). 2 * before L.counts n) (shaped_ranks L S) ∙ sym S.two_ends_each

  -- the kth list
  side_own : (s r i : ℕ) → s < 2 → list_at (layers L) above s (r, i) ≡ side L s r i
  unfolding list_at
  side_own s r i = at_sides (λ t. list_at (layers L) above t (r, i) ≡ side L t r i) refl refl s

  nth_own : (k : ℕ) → k < length L.ends → nth (layers L) above k ≡ entries L.ends L.inc k
  unfolding nth before
  nth_own k h =
      let p = part_ok (λ r. count L r) (suc (rank L)) (k / 2) (omega (arith, all_lists)) in
      side_own (k % 2) _ _ (omega arith) ∙ ap (entries L.ends L.inc) (omega (arith, p.2))

  counts_own : tabulated (λ r. count L r) (suc (rank L)) ≡ L.counts
  counts_own =
      let n = tabulated_length (λ r. count L r) (suc (rank L)) in
      ext_get_or 0 _ L.counts (n ∙ shaped_ranks L S)
      (λ i h. tabulated_at (λ r. count L r) (suc (rank L)) i (omega arith))

  end_own : (i : ℕ) → i < length L.ends → sum (lengths (nth (layers L) above)) (suc i) ≡ get_or L.ends i 0
  end_own i h =
      sum_same _ _ (suc i) (λ k l. ap length (nth_own k (omega arith)))
      ∙ entries_start L.ends L.inc (shaped_ends L S) (suc i) h

  ends_own : (written (layers L) above).ends ≡ L.ends
  unfolding written
  ends_own =
      let f : ℕ → ℕ = λ n. sum (lengths (nth (layers L) above)) (suc n) in
      let n = tabulated_length f (lists (layers L)) in
      ext_get_or 0 _ L.ends (n ∙ all_lists)
      (λ i h. tabulated_at f (lists (layers L)) i (omega arith) ∙ end_own i (omega (arith, n, all_lists)))

  inc_own : (written (layers L) above).inc ≡ L.inc
  unfolding written
  inc_own =
      ap (joined (nth (layers L) above)) all_lists
      ∙ joined_same _ _ (length L.ends) nth_own
      ∙ entries_joined L.ends L.inc (shaped_ends L S) (length L.ends) (omega arith)
      ∙ take_all (start L.ends (length L.ends)) L.inc (omega (arith, S.full))

  pub written_own : written (layers L) above ≡ L
  unfolding written
  written_own = λ t. record { counts = counts_own t; ends = ends_own t; inc = inc_own t }
