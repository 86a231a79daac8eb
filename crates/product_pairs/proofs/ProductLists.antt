-- How a product is laid out: where its pairs stand, and what their lists and those of the added ends hold.
-- Assumes nothing.
use mathlib.Core.Path.{◌≡◌, refl, ap, ◌∙◌}
use mathlib.Core.Logic.{◌≢◌, inl, inr}
use mathlib.Core.Bool.{Bool, true, false}
use mathlib.Core.List.{List, [], ◌∷◌, ◌++◌, map}
use Prim.Native.Nat.{ℕ, zero, suc, pred, ◌+◌, ◌-◌, ◌≤◌, ◌<◌}
use native.Mathlib.Nat.{mul-le-mul_right}
use native.Mathlib.Decide.{dec_lt}
use native.Mathlib.Omega.{arith}
use lib.Dec.{T}
use Rattle.order.specs.Lists.{occurs}
use Rattle.order.specs.Sums.{choose}
use Rattle.order.specs.Pairs.{Pairs}
use Rattle.order.proofs.Sums.{choose_yes, choose_no, sum_lt}
use Rattle.listing.specs.Layers.{Layers, order, gather, derived}
use Rattle.listing.proofs.Layers.{in_range}
use Rattle.listing.proofs.Sequences.{occurs_same}
use Rattle.product_pairs.specs.Trimmed.{bit, trim_under, trimmed}
use Rattle.product_pairs.specs.Paired.{El, block, offset, position, Sooner, left_subs, right_subs}
use Rattle.product_pairs.specs.Grown.{up_to}
use Rattle.product_pairs.specs.Product.{used_pairs, layer_product, UsedPair, at, used_subs}
use Rattle.product_pairs.proofs.Trimmed.{lowered, lowered_exists, trimmed_under}
use Rattle.product_pairs.proofs.Positions.{in_block, position_exists, paired_under}
use Rattle.product_pairs.proofs.Grown.{grown_top, grown_size, grown_under, grown_min_under, grown_max_under}
use Rattle.product_pairs.proofs.Product.{used_pairs_topped}

-- ---- the order of places

module _ (A B : Layers) where
  position_sooner : (x y : El × El) → (Pairs (order A) (order B)).Exists x → x.0.0 + x.1.0 ≡ y.0.0 + y.1.0
      → Sooner x y → (position A B x).1 < (position A B y).1
  unfolding position offset
  position_sooner x y e r (inl (inl l)) =
      let n = in_block A B x.0.0 x.0.1 x.1.0 x.1.1 e.0 e.1 in
      rw r (omega (arith, rw r at (sum_lt (block A B (x.0.0 + x.1.0)) x.0.0 y.0.0 _ l n)))
  position_sooner x y e r (inl (inr p)) =
      let s : x.1.0 ≡ y.1.0 = omega (arith, p.0) in
      rw (p.0, s) (omega (arith, rw s at e.1, mul-le-mul_right (B.size y.1.0) p.1))
  position_sooner x y e r (inr p) =
      let i : x.0.0 ≡ y.0.0 = ap (λ (z : El). z.0) p.0 in
      let a : x.0.1 ≡ y.0.1 = ap (λ (z : El). z.1) p.0 in
      let s : x.1.0 ≡ y.1.0 = omega arith in
      rw (i, a, s) (omega (arith, p.1))

-- A pair of elements in use, with their ranks counted from the lowest in use.
abbrev lowered_pair : Bool → El × El → El × El
lowered_pair min x = (lowered min x.0, lowered min x.1)

lowered_sooner : (min : Bool) (x y : El × El) → bit min ≤ x.0.0 → Sooner x y
    → Sooner (lowered_pair min x) (lowered_pair min y)
lowered_sooner min x y h (inl (inl l)) = inl (inl (omega arith))
lowered_sooner min x y h (inl (inr p)) = inl (inr (ap (λ n. n - bit min) p.0, p.1))
lowered_sooner min x y h (inr p) = inr (ap (lowered min) p.0, p.1)

module _ (min max : Bool) (A B : Layers) where
  lowered_there : (x : El × El) → UsedPair min max A B x
      → (Pairs (order (trimmed min max A)) (order (trimmed min max B))).Exists (lowered_pair min x)
  lowered_there x u =
      (lowered_exists min max A x.0.0 x.0.1 u.0, lowered_exists min max B x.1.0 x.1.1 u.1)

  -- of two pairs of one rank, the one that comes sooner stands before the other
  pub at_sooner : (x y : El × El) → UsedPair min max A B x → UsedPair min max A B y
      → x.0.0 + x.1.0 ≡ y.0.0 + y.1.0 → Sooner x y → (at min max A B x).1 < (at min max A B y).1
  unfolding at
  at_sooner x y u v r s =
      position_sooner (trimmed min max A) (trimmed min max B) (lowered_pair min x) (lowered_pair min y)
      (lowered_there x u) (omega (arith, u.0.1, u.1.1, v.0.1, v.1.1)) (lowered_sooner min x y u.0.1 s)

-- ---- the subs of a pair

-- what trimmed layers list are the subs in use
trimmed_used : (min max : Bool) (M : Layers) (x : El) → trim_under min M (x.0 - bit min) x.1 ≡ used_subs min M x
unfolding used_subs trim_under
trimmed_used min max M x = go (dec_lt (bit min) x.0)
  where
    go : (d : Dec (bit min < x.0)) → trim_under min M (x.0 - bit min) x.1 ≡ choose d (M.under x.0 x.1) []
    go (yes l) =
        let e : x.0 - bit min + bit min ≡ x.0 = omega arith in
        rw (choose_yes (yes l) (M.under x.0 x.1) [] l)
        (trimmed_under min max M (x.0 - bit min) x.1 (omega arith) ∙ ap (λ r. M.under r x.1) e)
    go (no l) =
        let e : x.0 - bit min ≡ 0 = omega arith in
        rw (choose_no (no l) (M.under x.0 x.1) [] l, e)

-- one rank lower, counted either way
one_less : (r m : ℕ) → pred (r - m) ≡ r - 1 - m
one_less r m = omega arith

above_lowest : (min : Bool) (r : ℕ) → (T min → r + bit min ≢ 1) → bit min ≤ r
above_lowest true zero h = absurd (h tt refl)
above_lowest true (suc r) h = omega arith
above_lowest false r h = omega arith

module _ (min max : Bool) (A B : Layers) (x : El × El) (u : UsedPair min max A B x) where
  -- those of the first member, each with the second, and then those of the second with the first
  pub at_subs : (T min → (at min max A B x).0 ≢ 1)
      → (layer_product min max A B).under (at min max A B x).0 (at min max A B x).1
      ≡ map (λ a. (at min max A B ((x.0.0 - 1, a), x.1)).1) (used_subs min A x.0)
      ++ map (λ b. (at min max A B (x.0, (x.1.0 - 1, b))).1) (used_subs min B x.1)
  unfolding at layer_product left_subs right_subs
  at_subs h =
      let P = trimmed min max A in
      let Q = trimmed min max B in
      let y = lowered_pair min x in
      let e = lowered_there min max A B x u in
      let t = in_range _ (used_pairs_topped min max A B) _ (position P Q y).1 (position_exists P Q y e) in
      grown_under min max (used_pairs min max A B) _ _ (above_lowest min _ h) t ∙ paired_under P Q y e
      ∙ (λ s. map (λ a. (position P Q ((one_less x.0.0 (bit min) s, a), y.1)).1) (trimmed_used min max A x.0 s)
      ++ map (λ b. (position P Q (y.0, (one_less x.1.0 (bit min) s, b))).1) (trimmed_used min max B x.1 s))

-- the lowest pairs list an added minimal element alone
pub at_lowest : (min max : Bool) (A B : Layers) (x : El × El) → T min → (at min max A B x).0 ≡ 1
    → (layer_product min max A B).under (at min max A B x).0 (at min max A B x).1 ≡ 0 ∷ []
unfolding layer_product
at_lowest true max A B x t e = rw e (grown_min_under max (used_pairs true max A B) (at true max A B x).1)
at_lowest false max A B x t e = absurd t

-- ---- the lists of the added ends

gather_each : (f : ℕ → List ℕ) (x n : ℕ) → ((k : ℕ) → k < n → occurs x (f k) ≡ 1) → gather f x n ≡ up_to n
unfolding gather up_to
gather_each f x zero h = refl
gather_each f x (suc n) h = rw (gather_each f x n (λ k l. h k (omega arith)), h n (omega arith))

-- the sups of the minimal one are all lowest pairs, each once
pub product_min_sups : (max : Bool) (A B : Layers)
    → derived (layer_product true max A B) 0 0 ≡ up_to ((layer_product true max A B).size 1)
unfolding derived layer_product
product_min_sups max A B =
    gather_each _ 0 _ (λ k l. ap (occurs 0) (grown_min_under max (used_pairs true max A B) k) ∙ occurs_same 1 0)

-- the subs of the maximal one are all elements of the rank below
pub product_max_subs : (min : Bool) (A B : Layers)
    → (layer_product min true A B).under (layer_product min true A B).top 0
    ≡ up_to ((layer_product min true A B).size ((layer_product min true A B).top - 1))
unfolding layer_product
product_max_subs min A B =
    let M = used_pairs min true A B in
    let e : (layer_product min true A B).top - 1 ≡ M.top + bit min = omega (arith, grown_top min true M) in
    rw (e, grown_size min true M M.top (omega arith)) (grown_max_under min M 0)
