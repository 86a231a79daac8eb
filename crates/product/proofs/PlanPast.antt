-- Lists past the last element of a product: they are empty, or hold the numbers of the rank below.
-- Assumes nothing.
use mathlib.Core.Path.{◌≡◌, refl, ap, ◌∙◌}
use mathlib.Core.Logic.{inl, inr}
use mathlib.Core.Bool.{Bool, true, false}
use mathlib.Core.List.{List, []}
use Prim.Native.Nat.{ℕ, zero, suc, ◌+◌, ◌-◌, ◌*◌, ◌/◌, ◌≤◌, ◌<◌}
use native.Mathlib.Decide.{dec_lt}
use native.Mathlib.Nat.{div-lt_iff_lt-mul}
use native.Mathlib.Omega.{arith}
use lib.ListN.{length, get_or, get_or-eq_default}
use Rattle.order.specs.Lists.{In}
use Rattle.order.specs.Sums.{sum}
use Rattle.listing.specs.Listing.{limits, Listing, count, before, start, entries, rank}
use Rattle.listing.specs.Shape.{elements}
use Rattle.listing.specs.Layers.{Layers, Topped}
use Rattle.listing.proofs.Listing.{before_next, before_le}
use Rattle.valid_incidence.specs.Incidence.{Incident}
use Rattle.valid.specs.Bounds.{Bounded}
use Rattle.valid.proofs.ClosedExact.{valid_exact}
use Rattle.product_pairs.specs.Trimmed.{bit}
use Rattle.product_pairs.specs.Paired.{block, pair_of, pair_at, left_subs, right_subs, paired}
use Rattle.product_pairs.specs.Grown.{min_size, min_under, grown}
use Rattle.product_pairs.proofs.Sequences.{up_to_in}
use Rattle.product_pairs.proofs.Grown.{grown_size, grown_max_under}
use Rattle.product_element.specs.Pairs.{subs_in_use, factor_layers, target}
use Rattle.product_sizes.specs.Sizing.{Usable, counts_in_use, factor_of}
use Rattle.product_sizes.proofs.Parts.{usable_shaped, usable_bounded, usable_high}
use Rattle.product_sizes.proofs.Parts.{in_use_length, in_use_at, in_use_before}
use Rattle.product.proofs.PlanFactors.{subs_above}
use Rattle.product.proofs.PlanIndices.{place_past, exists_few}

entries_past : (ends inc : List ℕ) (k : ℕ) → length ends ≤ k → entries ends inc k ≡ []
unfolding entries
entries_past ends inc k h =
    let d : get_or ends k 0 ≡ 0 = get_or-eq_default ends 0 h in
    let z : get_or ends k 0 - start ends k ≡ 0 = omega arith in
    rw z

-- ---- a factor

-- some elements are of rank 1, if there is such a rank
lowest_count : (min : Bool) (L : Listing) → Bounded L → Incident L → bit min ≤ rank L → 0 < count L (bit min)
unfolding Incident
lowest_count false L b i h = omega (arith, b.one_minimal)
lowest_count true L b i h =
    let a = (i 0 0 (omega (arith, b.one_minimal))).upper in
    let s = a.some (omega arith) in
    omega (arith, (a.each s.0 s.1).0)

module _ (min max : Bool) (L : Listing) (u : Usable min max L) where
  lowest_some : 0 < get_or (counts_in_use min max L.counts) 0 0
  lowest_some =
      let h = usable_high min max L u in
      let e : 0 + bit min ≡ bit min = omega arith in
      let c = lowest_count min L (usable_bounded min max L u) ((valid_exact limits L).0 u.valid).2 (omega arith) in
      omega (arith, in_use_at min max L u 0 (omega (arith, in_use_length min max L u)), ap (λ (r : ℕ). count L r) e)

module _ (min : Bool) (L : Listing) (u : Usable min false L) where
  abbrev p : List ℕ
  p = counts_in_use min false L.counts

  all_in_use : bit min + before p (length p) ≡ elements L
  all_in_use =
      let h = usable_high min false L u in
      let s = (usable_shaped min false L u).some_rank in
      let e : bit min + length p ≡ length L.counts = omega (arith, in_use_length min false L u) in
      in_use_before min false L u (length p) (omega arith) ∙ ap (before L.counts) e

  subs_past : (i a : ℕ) → length p ≤ suc i → get_or p i 0 ≤ a → subs_in_use min (factor_of min false L) i a ≡ []
  unfolding subs_in_use
  subs_past zero a h g = refl
  subs_past (suc i) a h g =
      subs_above min (factor_of min false L) i a
      ∙ entries_past L.ends L.inc (2 * (bit min + before p (suc i) + a) + 0)
      (omega (
        arith,
        all_in_use,
        before_next p (suc i),
        before_le p (length p) (suc i + 1) (omega arith),
        (usable_shaped min false L u).two_ends_each,
      ))

-- ---- pairs

module _ (A B : Layers) (R k : ℕ) (h : (paired A B).size R ≤ k) (c : 0 < B.size 0)
    (a : (i : ℕ) → A.size R ≤ i → A.under R i ≡ []) (b : (j : ℕ) → B.under 0 j ≡ []) where
  abbrev m : ℕ
  m = k - sum (block A B R) R

  -- what stands there is no pair: its first member is past the last
  past_first : A.size R ≤ m / B.size (R - R)
  unfolding block sum
  past_first = go (dec_lt (m / B.size (R - R)) (A.size R))
    where
      d : 0 < B.size (R - R)
      d = let e : R - R ≡ 0 = omega arith in rw e c

      go : Dec (m / B.size (R - R) < A.size R) → A.size R ≤ m / B.size (R - R)
      go (yes l) = let q = (div-lt_iff_lt-mul d).0 l in absurd (omega arith)
      go (no l) = omega arith

  pairs_past : (paired A B).under R k ≡ []
  unfolding pair_at pair_of left_subs right_subs
  pairs_past =
      let e : R - R ≡ 0 = omega arith in
      let r : (j : ℕ) → B.under (R - R) j ≡ [] = λ j. rw e (b j) in
      rw (place_past (block A B R) R k h, a (m / B.size (R - R)) past_first, r)

-- ---- the product

min_past : (M : Layers) (r k x : ℕ) → M.under r k ≡ [] → In x (min_under M (suc r) k) → x ≡ 0
unfolding min_under In
min_past M zero k x e (inl q) = q
min_past M zero k x e (inr n) = absurd n
min_past M (suc r) k x e n = absurd (rw e at n)

-- with no maximal element added
low_past : (min : Bool) (M : Layers) (k x : ℕ) → (M.size M.top ≤ k → M.under M.top k ≡ [])
    → (grown min false M).size (grown min false M).top ≤ k
    → In x ((grown min false M).under (grown min false M).top k) → x ≡ 0
unfolding min_size In
low_past true M k x e h n = min_past M M.top k x (e h) n
low_past false M k x e h n = absurd (rw (e h) at n)

abbrev M : (min max : Bool) (A B : Listing) → Layers
M min max A B = paired (factor_layers min (factor_of min max A)) (factor_layers min (factor_of min max B))

abbrev T : (min max : Bool) (A B : Listing) → Layers
T min max A B = target min max (factor_of min max A) (factor_of min max B)

-- what the highest rank lists past its last element is small
pub highest_past : (min max : Bool) (A B : Listing) → Usable min max A → Usable min max B → Topped (T min max A B)
    → sum (T min max A B).size (suc (T min max A B).top) ≤ limits.elements
    → (k x : ℕ) → (T min max A B).size (T min max A B).top ≤ k → In x ((T min max A B).under (T min max A B).top k)
    → x < limits.elements
unfolding target subs_in_use
highest_past min true A B u_a u_b t few k x h n =
    let m = M min true A B in
    let l = up_to_in x (m.size m.top) (rw (grown_max_under min m k) at n) in
    let s = rw (← grown_size min true m m.top (omega arith)) at l in
    omega (arith, exists_few (T min true A B) t (m.top + bit min) x s)
highest_past min false A B u_a u_b t few k x h n =
    let m = M min false A B in
    let o = low_past min m k x (λ g. pairs_past _ _ m.top k g (lowest_some min false B u_b)
    (λ i l. subs_past min A u_a m.top i (omega arith) l) (λ j. refl)) h n in
    omega arith
