-- The lists of the dual: how many elements its ranks have, which list of the listing each of its lists is, and that it
-- takes as much room as the listing.
-- Assumes nothing.
use mathlib.Core.Path.{◌≡◌, refl, sym, ap, ◌∙◌}
use Prim.Native.Nat.{ℕ, ◌+◌, ◌-◌, ◌*◌, ◌≤◌, ◌<◌}
use native.Mathlib.Decide.{dec_lt}
use native.Mathlib.Omega.{arith}
use lib.ListN.{length}
use Rattle.order.specs.Sums.{sum}
use Rattle.order.proofs.Sums.{choose_yes, choose_no, sum_next, sum_same, sum_reversed}
use Rattle.listing.specs.Listing.{Listing, Limits, rank, count, before, side, subs, sups}
use Rattle.listing.specs.Shape.{elements, Shaped}
use Rattle.listing.specs.Layers.{Topped, layers}
use Rattle.listing.specs.Written.{tabulated, lengths, list_at, nth, written}
use Rattle.listing.proofs.Own.{written_own}
use Rattle.listing.proofs.Places.{at_sides}
use Rattle.listing.proofs.ShapeExact.{shaped_ranks}
use Rattle.listing.proofs.Written.{joined_length, tabulated_same, lists, total, nth_at}
use Rattle.listing.proofs.Written.{written_counts_length, written_ends_length, written_inc_length}
use Rattle.dual_theory.specs.Dual.{dual_size, dual_layers, dual_over, dual_of}

-- ---- the elements and their lists

module _ (L : Listing) where
  pub dual_size_lem : (r : ℕ) → r ≤ rank L → dual_size L r ≡ count L (rank L - r)
  unfolding dual_size
  dual_size_lem r h = choose_no (dec_lt (rank L) r) 0 (count L (rank L - r)) (λ l. omega arith)

  pub dual_topped : Topped (dual_layers L)
  unfolding Topped dual_size
  dual_topped r h = choose_yes (dec_lt (rank L) r) 0 (count L (rank L - r)) h

  -- the elements up to rank r of the dual, which comes from rank q of the listing
  pub dual_next : (r q : ℕ) → r + q ≡ rank L → sum (dual_size L) (r + 1) ≡ sum (dual_size L) r + count L q
  dual_next r q e =
      let k : rank L - r ≡ q = omega arith in
      omega (arith, sum_next (dual_size L) r, dual_size_lem r (omega arith), ap (λ (n : ℕ). count L n) k)

  -- it has as many elements
  pub dual_elements : sum (dual_size L) (length L.counts) ≡ elements L
  unfolding before
  dual_elements =
      let n = length L.counts in
      sum_same (dual_size L) (λ q. count L (n - 1 - q)) n (λ q l. dual_size_lem q (omega arith))
      ∙ sum_reversed (λ q. count L q) n

  -- a list of an element of the dual is the other list of that one of the listing
  pub dual_nth : (s r i : ℕ) → s < 2 → r ≤ rank L → i < count L (rank L - r)
      → nth (dual_layers L) (dual_over L) (2 * (sum (dual_size L) r + i) + s) ≡ side L (1 - s) (rank L - r) i
  unfolding list_at
  dual_nth s r i hs hr hi =
      nth_at (dual_layers L) (dual_over L) s r i hs hr (omega (arith, dual_size_lem r hr))
      ∙ at_sides (λ t. list_at (dual_layers L) (dual_over L) t (r, i) ≡ side L (1 - t) (rank L - r) i) refl refl s hs

-- ---- the room

-- how much an element of a listing lists
abbrev listed : Listing → ℕ → ℕ → ℕ
listed L r i = length (subs L r i) + length (sups L r i)

module _ {m : Limits} (L : Listing) (S : Shaped m L) where
  -- as many lists as the listing
  pub dual_lists : lists (dual_layers L) ≡ length L.ends
  dual_lists = omega (arith, ap (sum (dual_size L)) (shaped_ranks L S), dual_elements L, S.two_ends_each)

  -- the counts are those of the listing, the last first
  pub dual_counts : (dual_of L).counts ≡ tabulated (λ r. count L (rank L - r)) (length L.counts)
  unfolding dual_of written
  dual_counts =
      ap (tabulated (dual_size L)) (shaped_ranks L S)
      ∙ tabulated_same _ _ (length L.counts) (λ r h. dual_size_lem L r (omega arith))

  pub dual_counts_length : length (dual_of L).counts ≡ length L.counts
  unfolding dual_of
  dual_counts_length = written_counts_length (dual_layers L) (dual_over L) ∙ shaped_ranks L S

  pub dual_ends_length : length (dual_of L).ends ≡ length L.ends
  unfolding dual_of
  dual_ends_length = written_ends_length (dual_layers L) (dual_over L) ∙ dual_lists

  own_total : length L.inc ≡ sum (λ r. sum (listed L r) (count L r)) (length L.counts)
  own_total =
      ap (λ (R : Listing). length R.inc) (sym (written_own L S))
      ∙ written_inc_length (layers L) (λ r i. sups L r i)
      ∙ ap (sum (λ r. sum (listed L r) (count L r))) (shaped_ranks L S)

  -- the same of the dual, rank by rank
  dual_listed : (r : ℕ) → r ≤ rank L
      → sum (λ i. length (sups L (rank L - r) i) + length (subs L (rank L - r) i)) (dual_size L r)
      ≡ sum (listed L (rank L - r)) (count L (rank L - r))
  dual_listed r h =
      sum_same _ (listed L (rank L - r)) (dual_size L r) (λ i l. omega arith)
      ∙ ap (sum (listed L (rank L - r))) (dual_size_lem L r h)

  dual_total : total (dual_layers L) (dual_over L) ≡ sum (λ r. sum (listed L r) (count L r)) (length L.counts)
  dual_total =
      ap (sum _) (shaped_ranks L S)
      ∙ sum_same _ _ (length L.counts) (λ r l. dual_listed r (omega arith))
      ∙ sum_reversed (λ r. sum (listed L r) (count L r)) (length L.counts)

  pub dual_inc_length : length (dual_of L).inc ≡ length L.inc
  unfolding dual_of
  dual_inc_length = written_inc_length (dual_layers L) (dual_over L) ∙ dual_total ∙ sym own_total

  -- what all lists of the dual hold together
  pub dual_lengths : sum (lengths (nth (dual_layers L) (dual_over L))) (length L.ends) ≡ length L.inc
  unfolding dual_of written
  dual_lengths =
      let f = nth (dual_layers L) (dual_over L) in
      ap (sum (lengths f)) (sym dual_lists) ∙ sym (joined_length f (lists (dual_layers L))) ∙ dual_inc_length
