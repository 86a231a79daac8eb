-- A factor's ranks in use: which counts are left, and where the lists of its elements stand.
-- Assumes nothing.
use mathlib.Core.Path.{◌≡◌, ap, ◌∙◌}
use mathlib.Core.Bool.{Bool, true, false}
use mathlib.Core.List.{List}
use Prim.Native.Nat.{ℕ, suc, ◌+◌, ◌-◌, ◌*◌, ◌≤◌, ◌<◌}
use native.Mathlib.Decide.{dec_lt}
use native.Mathlib.Omega.{arith}
use lib.ListN.{length, get_or, drop, length-drop, get_or-eq_default}
use lib.Seq.{get_or-take, get_or-drop, length-take-le}
use Rattle.order.specs.Ends.{need}
use Rattle.order.specs.Sums.{choose}
use Rattle.order.proofs.Sums.{sum_same}
use Rattle.listing.specs.Listing.{Listing, limits, rank, count, before, entries}
use Rattle.listing.specs.Shape.{Shaped}
use Rattle.listing.specs.Layers.{layers}
use Rattle.listing.proofs.Listing.{before_zero, before_next}
use Rattle.listing.proofs.Sequences.{sum_add}
use Rattle.valid.specs.Bounds.{Bounded}
use Rattle.valid.proofs.ClosedExact.{valid_exact}
use Rattle.product_pairs.specs.Trimmed.{bit, trim_size, trim_under}
use Rattle.product_pairs.proofs.Trimmed.{raised_used}
use Rattle.product_sizes.specs.Sizing.{Usable, counts_in_use}

high_bits : (min max : Bool) (n : ℕ) → need min max ≤ n → bit min + bit max ≤ n
high_bits true true n h = h
high_bits true false n h = h
high_bits false true n h = h
high_bits false false n h = h

-- the element of rank 0 is the one that is left out
left_out : (min : Bool) (counts : List ℕ) → get_or counts 0 0 ≡ 1 → before counts (bit min) ≡ bit min
left_out true counts e = omega (arith, before_next counts 0, before_zero counts)
left_out false counts e = before_zero counts

module _ (min max : Bool) (L : Listing) (u : Usable min max L) where
  pub usable_shaped : Shaped limits L
  usable_shaped = ((valid_exact limits L).0 u.valid).0

  pub usable_bounded : Bounded L
  usable_bounded = ((valid_exact limits L).0 u.valid).1

  pub usable_high : bit min + bit max ≤ rank L
  usable_high = high_bits min max (rank L) u.high

  abbrev p : List ℕ
  p = counts_in_use min max L.counts

  -- ---- the counts

  pub in_use_length : length p ≡ suc (rank L - bit min - bit max)
  unfolding counts_in_use
  in_use_length =
      let h = usable_high in
      let s = usable_shaped.some_rank in
      let d = length-drop (bit min) L.counts in
      length-take-le (length L.counts - bit max - bit min) (drop (bit min) L.counts) (omega arith) ∙ omega arith

  pub in_use_at : (i : ℕ) → i < length p → get_or p i 0 ≡ count L (i + bit min)
  unfolding counts_in_use
  in_use_at i h =
      let e : bit min + i ≡ i + bit min = omega arith in
      get_or-take (length L.counts - bit max - bit min) (drop (bit min) L.counts) i 0
      (omega (arith, in_use_length, usable_high, usable_shaped.some_rank))
      ∙ get_or-drop (bit min) L.counts i 0 ∙ ap (λ (k : ℕ). get_or L.counts k 0) e

  pub in_use_size : (i : ℕ) → get_or p i 0 ≡ trim_size min max (layers L) i
  unfolding trim_size choose
  in_use_size i = go (dec_lt (rank L) (i + bit min + bit max))
    where
      go : (d : Dec (rank L < i + bit min + bit max)) → get_or p i 0 ≡ choose d 0 (count L (i + bit min))
      go (yes l) = get_or-eq_default p 0 (omega (arith, in_use_length, usable_high))
      go (no l) = in_use_at i (omega (arith, in_use_length, usable_high))

  -- the elements before a rank, with the one that is left out
  pub in_use_before : (i : ℕ) → i ≤ length p → bit min + before p i ≡ before L.counts (bit min + i)
  unfolding before
  in_use_before i h =
      omega (
        arith,
        sum_add (λ k. count L k) (bit min) i,
        left_out min L.counts usable_bounded.one_minimal,
        sum_same (λ k. get_or p k 0) (λ k. count L (bit min + k)) i at,
      )
    where
      at : (k : ℕ) → k < i → get_or p k 0 ≡ count L (bit min + k)
      at k l =
          let e : k + bit min ≡ bit min + k = omega arith in
          rw e at (in_use_at k (omega arith))

  -- ---- the lists

  -- above the lowest rank in use the subs in use are the list
  pub in_use_subs : (i a : ℕ) → a < trim_size min max (layers L) (suc i)
      → entries L.ends L.inc (2 * (bit min + before p (suc i) + a) + 0) ≡ trim_under min (layers L) (suc i) a
  unfolding trim_under
  in_use_subs i a h =
      let r = raised_used min max (layers L) (suc i) a h in
      let b = in_use_before (suc i) (omega (arith, in_use_length, r.2)) in
      let e : bit min + suc i ≡ suc i + bit min = omega arith in
      rw (b, e)
