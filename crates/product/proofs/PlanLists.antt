-- The lists of what the builder is asked to write: where those of a pair stand, what it has under it and how many over.
-- Assumes nothing.
use mathlib.Core.Path.{◌≡◌, refl, ap, ◌∙◌}
use mathlib.Core.Bool.{Bool, true, false, cond, ◌&&◌}
use mathlib.Core.List.{List, ◌++◌, map}
use Prim.Native.Nat.{ℕ, suc, pred, ◌+◌, ◌-◌, ◌*◌, ◌≤◌, ◌<◌}
use native.Mathlib.Decide.{dec_lt}
use native.Mathlib.Nat.{add-zero}
use native.Mathlib.Numerals.{add-one}
use native.Mathlib.Omega.{arith}
use borrow.Author.Tests.{eq-eqb, ne_eqb}
use lib.Dec.{eqb}
use lib.ListN.{length}
use Rattle.order.specs.Sums.{sum}
use Rattle.order.proofs.Sums.{sum_same, sum_first}
use Rattle.listing.specs.Listing.{Listing, count}
use Rattle.listing.specs.Layers.{Layers, Topped, derived}
use Rattle.listing.specs.Written.{list_at}
use Rattle.listing.proofs.Listing.{some_rank}
use Rattle.listing.proofs.Layers.{in_range, derived_length}
use Rattle.listing.proofs.Written.{nth_at}
use Rattle.product_pairs.specs.Sound.{Sound}
use Rattle.product_pairs.specs.Trimmed.{bit}
use Rattle.product_pairs.specs.Paired.{El, block, offset, position, left_subs, right_subs, pair_subs, paired}
use Rattle.product_pairs.specs.Grown.{min_size, add_max_if, grown}
use Rattle.product_pairs.proofs.Positions.{position_exists, paired_under, paired_topped}
use Rattle.product_pairs.proofs.AddMax.{max_size_low}
use Rattle.product_pairs.proofs.Grown.{grown_top, grown_size, grown_under, grown_min_under}
use Rattle.product_pairs.proofs.PairedLengths.{paired_sups}
use Rattle.product_pairs.proofs.GrownLengths.{grown_sups, grown_max_sups}
use Rattle.product_places.specs.Places.{pairs_to, offset_in, pair_number, subs_of}
use Rattle.product_element.specs.Pairs.{subs_in_use, factor_layers, target, lists_of, pair_shift, under_pair, over_pair}
use Rattle.product_writing.proofs.Target.{factor_topped}
use Rattle.product.proofs.PlanFactors.{factor_derived}

-- where no rank is higher there is nothing over an element
none_over : (min : Bool) (P : Listing) (i a : ℕ) → (factor_layers min P).top ≤ i
    → length (derived (factor_layers min P) i a) ≡ 0
unfolding Topped sum
none_over min P i a h = derived_length (factor_layers min P) i a ∙ rw (factor_topped min P (suc i) (omega arith))

-- ---- how many elements come before a rank

max_before : (max : Bool) (M : Layers) (r : ℕ) → r ≤ suc M.top → sum (add_max_if max M).size r ≡ sum M.size r
max_before true M r h = sum_same _ _ r (λ k l. max_size_low M k (omega arith))
max_before false M r h = refl

grown_before : (min max : Bool) (M : Layers) (r : ℕ) → r ≤ suc M.top
    → sum (grown min max M).size (r + bit min) ≡ bit min + sum M.size r
unfolding min_size
grown_before true max M r h =
    rw add-one (sum_first (min_size (add_max_if max M)) r ∙ ap (λ n. 1 + n) (max_before max M r h))
grown_before false max M r h = rw add-zero (max_before max M r h ∙ omega arith)

-- ---- a pair

module _ (min max : Bool) (P Q : Listing) where
  abbrev A : Layers
  A = factor_layers min P

  abbrev B : Layers
  B = factor_layers min Q

  abbrev T : Layers
  T = target min max P Q

  abbrev lists : ℕ → List ℕ
  lists = lists_of min max P Q

  module _ (i a j b : ℕ) (ha : a < count P i) (hb : b < count Q j) where
    abbrev x : El × El
    x = ((i, a), (j, b))

    abbrev k : ℕ
    k = (position A B x).1

    abbrev e : ℕ
    e = pair_number min P.counts Q.counts i a j b

    there : k < (paired A B).size (i + j)
    unfolding position
    there = position_exists A B x (ha, hb)

    low_enough : i + j ≤ (paired A B).top
    low_enough = in_range (paired A B) (paired_topped A B (factor_topped min P) (factor_topped min Q)) (i + j) k there

    -- its number is the elements before its rank, and its place there
    number_is : e ≡ sum T.size (i + j + bit min) + k
    unfolding pair_number pairs_to offset_in position offset block target
    number_is = omega (arith, grown_before min max (paired A B) (i + j) (omega (arith, low_enough)))

    pair_lists : (s : ℕ) → s < 2 → lists (2 * e + s) ≡ list_at T (derived T) s (i + j + bit min, k)
    unfolding lists_of target
    pair_lists s h =
        rw number_is
        (nth_at T (derived T) s (i + j + bit min) k h (omega (arith, low_enough, grown_top min max (paired A B)))
        (rw (grown_size min max (paired A B) (i + j) low_enough) there))

    -- ---- what it has under it

    pair_subs_lem : pair_subs A B x
        ≡ subs_of (pair_shift false P Q i a j b) (subs_in_use min P i a) (subs_in_use min Q j b)
    unfolding left_subs right_subs position offset block subs_of offset_in
    pair_subs_lem = λ t. map (λ y. left y t) (subs_in_use min P i a) ++ map (λ z. right z t) (subs_in_use min Q j b)
      where
        left : (y : ℕ) → (position A B ((pred i, y), (j, b))).1
            ≡ offset_in P.counts Q.counts (pred i) j + b + y * count Q j
        left y = omega arith

        right : (z : ℕ) → (position A B ((i, a), (pred j, z))).1
            ≡ offset_in P.counts Q.counts i (pred j) + a * count Q (pred j) + z * 1
        right z = omega arith

    high_under : bit min ≤ i + j → T.under (i + j + bit min) k
        ≡ subs_of (pair_shift false P Q i a j b) (subs_in_use min P i a) (subs_in_use min Q j b)
    unfolding target position
    high_under h =
        grown_under min max (paired A B) (i + j) k h low_enough ∙ paired_under A B x (ha, hb) ∙ pair_subs_lem

    -- ---- how many it has over it

    inner_over : Sound A → Sound B → i + j + bit max ≤ (paired A B).top
        → length (derived T (i + j + bit min) k) ≡ length (derived A i a) + length (derived B j b)
    unfolding target position
    inner_over s_a s_b h =
        ap length (grown_sups min max (paired A B) (i + j) k h) ∙ paired_sups A B s_a s_b x (ha, hb)

    -- the elements of the highest rank in use have none over them
    highest : i + j ≡ (paired A B).top → (length (derived A i a) ≡ 0) × (length (derived B j b) ≡ 0)
    highest h =
        let p = in_range A (factor_topped min P) i a ha in
        let q = in_range B (factor_topped min Q) j b hb in
        (none_over min P i a (omega arith), none_over min Q j b (omega arith))

-- where a pair stands in its rank
abbrev stand : Bool → Listing → Listing → ℕ → ℕ → ℕ → ℕ → ℕ
stand min P Q i a j b = (position (factor_layers min P) (factor_layers min Q) ((i, a), (j, b))).1

-- how many lie over it, and over its members
abbrev over_place : Bool → Bool → Listing → Listing → ℕ → ℕ → ℕ → ℕ → ℕ
over_place min max P Q i a j b = length (derived (target min max P Q) (i + j + bit min) (stand min P Q i a j b))

abbrev over_members : Bool → Listing → Listing → ℕ → ℕ → ℕ → ℕ → ℕ
over_members min P Q i a j b = length (derived (factor_layers min P) i a) + length (derived (factor_layers min Q) j b)

-- a pair of the lowest ranks has the added minimal element under it
low_under : (max : Bool) (P Q : Listing) (a b k : ℕ) → (target true max P Q).under 1 k ≡ under_pair true P Q 0 a 0 b
unfolding target subs_in_use under_pair subs_of
low_under max P Q a b k = grown_min_under max (paired (factor_layers true P) (factor_layers true Q)) k

under_at : (min max : Bool) (P Q : Listing) (i a j b : ℕ) → a < count P i → b < count Q j
    → (target min max P Q).under (i + j + bit min) (stand min P Q i a j b) ≡ under_pair min P Q i a j b
unfolding under_pair
under_at false max P Q i a j b ha hb = high_under false max P Q i a j b ha hb (omega arith)
under_at true max P Q i a j b ha hb = go (dec_lt 0 (i + j))
  where
    go : Dec (0 < i + j)
        → (target true max P Q).under (i + j + 1) (stand true P Q i a j b) ≡ under_pair true P Q i a j b
    go (yes l) = rw (ne_eqb (i + j) 0 (λ z. omega arith)) (high_under true max P Q i a j b ha hb (omega arith))
    go (no l) =
        let p : i ≡ 0 = omega arith in
        let q : j ≡ 0 = omega arith in
        rw (p, q) (low_under max P Q a b _)

-- a pair of the highest ranks has the added maximal element alone over it
highest_over : (min : Bool) (P Q : Listing) (i a j b : ℕ) → a < count P i → b < count Q j
    → i + j ≡ (paired (factor_layers min P) (factor_layers min Q)).top → over_place min true P Q i a j b ≡ 1
unfolding target
highest_over min P Q i a j b ha hb e =
    rw e (ap length (grown_max_sups min _ _ (rw e at (there min true P Q i a j b ha hb))))

-- with a maximal element added
over_max : (min : Bool) (P Q : Listing) → Sound (factor_layers min P) → Sound (factor_layers min Q) → (i a j b : ℕ)
    → a < count P i → b < count Q j
    → over_place min true P Q i a j b
    ≡ over_members min P Q i a j b + cond (eqb (i + j + 2) (length P.counts + length Q.counts)) 1 0
over_max min P Q s_p s_q i a j b ha hb = go (dec_lt (i + j) (length P.counts - 1 + (length Q.counts - 1)))
  where
    p : i < length P.counts
    p = some_rank P.counts i a ha

    q : j < length Q.counts
    q = some_rank Q.counts j b hb

    go : Dec (i + j < length P.counts - 1 + (length Q.counts - 1)) → over_place min true P Q i a j b
        ≡ over_members min P Q i a j b + cond (eqb (i + j + 2) (length P.counts + length Q.counts)) 1 0
    go (yes l) =
        rw (ne_eqb (i + j + 2) (length P.counts + length Q.counts) (λ z. omega (arith, p, q)))
        (inner_over min true P Q i a j b ha hb s_p s_q (omega arith) ∙ omega arith)
    go (no l) =
        let t : i + j ≡ length P.counts - 1 + (length Q.counts - 1)
        = omega (arith, low_enough min true P Q i a j b ha hb) in
        let z = highest min true P Q i a j b ha hb t in
        rw (eq-eqb (i + j + 2) (length P.counts + length Q.counts) (omega (arith, p, q)))
        (highest_over min P Q i a j b ha hb t ∙ omega (arith, z))

over_at : (min max : Bool) (P Q : Listing) → Sound (factor_layers min P) → Sound (factor_layers min Q) → (i a j b : ℕ)
    → a < count P i → b < count Q j
    → over_place min max P Q i a j b
    ≡ over_members min P Q i a j b + cond (max && eqb (i + j + 2) (length P.counts + length Q.counts)) 1 0
over_at min false P Q s_p s_q i a j b ha hb =
    let l = low_enough min false P Q i a j b ha hb in
    inner_over min false P Q i a j b ha hb s_p s_q (omega arith) ∙ omega arith
over_at min true P Q s_p s_q i a j b ha hb = over_max min P Q s_p s_q i a j b ha hb

-- ---- the same, as a plan has it

module _ (min max : Bool) (P Q : Listing) (i a j b : ℕ) (ha : a < count P i) (hb : b < count Q j)
  where
    abbrev n : ℕ
    n = pair_number min P.counts Q.counts i a j b

    pub pair_under : lists_of min max P Q (2 * n) ≡ under_pair min P Q i a j b
    unfolding list_at
    pair_under =
        let z : 2 * n ≡ 2 * n + 0 = omega arith in
        rw z (pair_lists min max P Q i a j b ha hb 0 (omega arith) ∙ under_at min max P Q i a j b ha hb)

    pub pair_over : Sound (factor_layers min P) → Sound (factor_layers min Q)
        → length (lists_of min max P Q (2 * n + 1)) ≡ over_pair min max P Q i a j b
    unfolding list_at over_pair
    pair_over s_p s_q =
        ap length (pair_lists min max P Q i a j b ha hb 1 (omega arith)) ∙ over_at min max P Q s_p s_q i a j b ha hb
        ∙ rw (factor_derived min P i a, factor_derived min Q j b)
