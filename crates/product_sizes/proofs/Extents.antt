-- What a factor has in use, counted; and how large the product of two factors is.
-- Assumes nothing.
use mathlib.Core.Path.{◌≡◌, ap, ◌∙◌}
use mathlib.Core.Bool.{Bool}
use mathlib.Core.List.{List}
use Prim.Native.Nat.{ℕ, suc, ◌+◌, ◌-◌, ◌*◌, ◌≤◌, ◌<◌}
use native.Mathlib.Omega.{arith}
use lib.ListN.{length, get_or}
use Rattle.order.specs.Sums.{sum}
use Rattle.order.proofs.Sums.{sum_same, sum_first}
use Rattle.listing.specs.Listing.{Listing, limits, before, entries}
use Rattle.listing.specs.Shape.{elements}
use Rattle.listing.specs.Layers.{Layers, layers}
use Rattle.listing.proofs.Entries.{entries_few}
use Rattle.listing.proofs.Listing.{before_zero, before_all, count_le}
use Rattle.listing.proofs.Sequences.{sum_add, sum_parts}
use Rattle.product_pairs.specs.Trimmed.{bit, trim_size, trimmed}
use Rattle.product_pairs.specs.Product.{product_of}
use Rattle.product_pairs.specs.Lengths.{rank_subs, all_subs}
use Rattle.product_pairs.proofs.Trimmed.{trimmed_sound}
use Rattle.product_pairs.proofs.Lengths.{rank_subs_lowest}
use Rattle.product_closure.specs.Sizes.{all_elements, sizes_of}
use Rattle.product_closure.proofs.Sizes.{product_of_ranks, product_of_elements, product_of_ends, product_of_incidences}
use Rattle.product_closure.proofs.Valid.{valid_sound}
use Rattle.product_places.specs.declared.Poles.{Poles}
use Rattle.product_sizes.specs.declared.sizes.Extent.{Extent}
use Rattle.product_sizes.specs.declared.sizes.Totals.{Totals}
use Rattle.product_sizes.specs.Sizing.{Usable, counts_in_use, subs_between, extent_of, Little, totals_of, Measures}
use Rattle.product_sizes.proofs.Parts.{usable_shaped, in_use_length, in_use_size, in_use_before, in_use_subs}

-- ---- lists, one after another

module _ (ends inc : List ℕ) where
  pub listed_none : (from : ℕ) → 0 ≡ subs_between ends inc from from
  unfolding subs_between sum
  listed_none from =
      let e : from - from ≡ 0 = omega arith in
      rw e

  -- the subs of one element more
  pub listed_next : (from e n : ℕ) (list : List ℕ) → from ≤ e
      → n ≡ subs_between ends inc from e → list ≡ entries ends inc (2 * e)
      → n + length list ≡ subs_between ends inc from (e + 1)
  unfolding subs_between sum
  listed_next from e n list h en el =
      let d : e + 1 - from ≡ suc (e - from) = omega arith in
      let k : from + (e - from) ≡ e = omega arith in
      rw (d, k, el, en)

  pub listed_few : (from e n : ℕ) (list : List ℕ) → from ≤ e → n ≤ limits.incidences * (e - from)
      → length inc ≤ limits.incidences → list ≡ entries ends inc (2 * e)
      → n + length list ≤ limits.incidences * (e + 1 - from)
  listed_few from e n list h k few el = omega (arith, ap length el, entries_few ends inc (2 * e))

-- a loop over elements, which adds up how many subs they list
pub ruleset listed = (listed_none, listed_next, listed_few)

-- ---- a factor

module _ (min max : Bool) (L : Listing) (u : Usable min max L) where
  abbrev p : List ℕ
  p = counts_in_use min max L.counts

  abbrev M : Layers
  M = trimmed min max (layers L)

  -- the length of the subs of the kth element in use
  abbrev g : ℕ → ℕ
  g k = length (entries L.ends L.inc (2 * (bit min + k)))

  elements_in_use : before p (length p) ≡ all_elements M
  unfolding before all_elements
  elements_in_use = rw (in_use_length min max L u) (sum_same _ _ (suc M.top) (λ i h. in_use_size min max L u i))

  rank_in_use : (r : ℕ) → sum (λ i. g (before p (suc r) + i)) (get_or p (suc r) 0) ≡ rank_subs M (suc r)
  unfolding rank_subs
  rank_in_use r = rw (in_use_size min max L u (suc r)) (sum_same _ _ (trim_size min max (layers L) (suc r)) at)
    where
      at : (i : ℕ) → i < trim_size min max (layers L) (suc r) → g (before p (suc r) + i) ≡ length (M.under (suc r) i)
      at i h =
          let e : 2 * (bit min + before p (suc r) + i) + 0 ≡ 2 * (bit min + (before p (suc r) + i)) = omega arith in
          ap length (rw e at (in_use_subs min max L u r i h))

  -- no more than the limits allow
  pub in_use_few : bit min + before p (length p) ≤ elements L
  in_use_few =
      let b = in_use_before min max L u (length p) (omega arith) in
      omega (arith, before_all L.counts (bit min + length p))

  -- the subs of the elements of a rank
  abbrev h : ℕ → ℕ
  h r = sum (λ i. g (before p r + i)) (get_or p r 0)

  lowest_alone : h 0 ≡ sum g (get_or p 0 0)
  lowest_alone = sum_same _ _ (get_or p 0 0) (λ i l. ap g (omega (arith, before_zero p)))

  -- rank by rank
  by_ranks : sum g (before p (length p)) ≡ h 0 + sum (λ r. rank_subs M (suc r)) M.top
  unfolding before
  by_ranks =
      rw (in_use_length min max L u)
      (sum_parts g (λ r. get_or p r 0) (suc M.top) ∙ sum_first h M.top
      ∙ ap (λ n. h 0 + n) (sum_same _ _ M.top (λ r l. rank_in_use r)))

  -- the elements of the lowest rank in use, and the others
  lowest_first : sum g (before p (length p))
      ≡ sum g (get_or p 0 0) + sum (λ k. g (get_or p 0 0 + k)) (before p (length p) - get_or p 0 0)
  lowest_first =
      let e : before p (length p) ≡ get_or p 0 0 + (before p (length p) - get_or p 0 0) = omega (arith, count_le p 0) in
      ap (sum g) e ∙ sum_add g (get_or p 0 0) (before p (length p) - get_or p 0 0)

  subs_in_use : sum (λ k. length (entries L.ends L.inc (2 * (bit min + get_or p 0 0 + k))))
      (bit min + before p (length p) - (bit min + get_or p 0 0)) ≡ all_subs M
  unfolding all_subs
  subs_in_use =
      let n : bit min + before p (length p) - (bit min + get_or p 0 0) ≡ before p (length p) - get_or p 0 0 =
      omega arith in
      let s = sum_same (λ k. length (entries L.ends L.inc (2 * (bit min + get_or p 0 0 + k))))
      (λ k. g (get_or p 0 0 + k)) (before p (length p) - get_or p 0 0)
      (λ k l. ap (λ (t : ℕ). length (entries L.ends L.inc (2 * t))) (omega arith)) in
      let z = rank_subs_lowest M (trimmed_sound min max (layers L) (valid_sound limits L u.valid)) in
      rw n (omega (arith, s, by_ranks, lowest_first, lowest_alone, z, sum_first (rank_subs M) M.top))

  -- what is asked to count, of the counts x that the code has in hand
  pub room : (x : List ℕ) → x ≡ p → (0 < length x) × (length x ≤ limits.ranks) × (get_or x 0 0 ≤ before x (length x))
      × (bit min + before x (length x) ≤ limits.elements) × (2 * (bit min + before x (length x)) ≤ length L.ends)
  room x e =
      let S = usable_shaped min max L u in
      rw e (
        omega (arith, in_use_length min max L u),
        omega (arith, in_use_length min max L u, S.few_ranks),
        count_le p 0,
        omega (arith, in_use_few, S.few_elements),
        omega (arith, in_use_few, S.two_ends_each),
      )

  module _ (x : List ℕ) (e : x ≡ p) (U : Extent) (er : U.ranks ≡ length x)
      (ee : U.elements ≡ before x (length x)) (el : U.lowest ≡ get_or x 0 0)
      (eh : U.highest ≡ get_or x (length x - 1) 0) (b : ℕ) (eb : b ≡ bit min) where
    all : U.elements ≡ before p (length p)
    all = omega (arith, (room x e).3, ap (λ (l : List ℕ). before l (length l)) e)

    top : length p - 1 ≡ M.top
    top = omega (arith, in_use_length min max L u)

    pub extent_is : U.subs ≡ subs_between L.ends L.inc (b + U.lowest) (b + U.elements) → U ≡ extent_of M
    unfolding subs_between
    extent_is es =
        let ranks = er ∙ ap length e ∙ in_use_length min max L u in
        let elements = all ∙ elements_in_use in
        let subs = rw (eb, el, all, e) at es ∙ subs_in_use in
        let lowest = rw e at el ∙ in_use_size min max L u 0 in
        let highest = rw (e, top) at eh ∙ in_use_size min max L u M.top in
        λ i.
        record {
          ranks = ranks i;
          elements = elements i;
          subs = subs i;
          lowest = lowest i;
          highest = highest i;
        }

    pub little : U.subs ≤ limits.incidences * (b + U.elements - (b + U.lowest)) → Little U
    little h =
        let f = room x e in
        record {
          some_rank = omega (arith, f.0);
          ranks = omega (arith, f.1);
          elements = omega (arith, f.3);
          subs = omega (arith, f.3);
          lowest = omega (arith, f.2, f.3);
          highest = omega (arith, f.3, count_le x (length x - 1));
        }

-- ---- the product

ranks_add : (a b m n : ℕ) → suc (a + b + m + n) ≡ suc a + suc b - 1 + m + n
ranks_add a b m n = omega arith

-- Its three numbers are what the sizes are computed to.
pub measured : (poles : Poles) (A B : Listing) → Usable poles.min poles.max A → Usable poles.min poles.max B
    → Measures (product_of poles.min poles.max A B)
    (totals_of poles (extent_of (trimmed poles.min poles.max (layers A)))
    (extent_of (trimmed poles.min poles.max (layers B))))
unfolding sizes_of
measured poles A B u_a u_b =
    let min = poles.min in
    let max = poles.max in
    let s_a = valid_sound limits A u_a.valid in
    let s_b = valid_sound limits B u_b.valid in
    record {
      ranks = product_of_ranks min max A B ∙ ranks_add _ _ _ _;
      elements = product_of_elements min max A B;
      ends = product_of_ends min max A B;
      incidences = product_of_incidences min max A B s_a s_b ∙ omega arith;
    }

-- the same, of the numbers that the code has in hand
pub measured_by : (poles : Poles) {A B : Listing} {p q : Extent} {t : Totals} → Usable poles.min poles.max A
    → Usable poles.min poles.max B → p ≡ extent_of (trimmed poles.min poles.max (layers A))
    → q ≡ extent_of (trimmed poles.min poles.max (layers B)) → t ≡ totals_of poles p q
    → Measures (product_of poles.min poles.max A B) t
measured_by poles {A} {B} u_a u_b ep eq et = rw (et, ep, eq) (measured poles A B u_a u_b)
