-- The added ends of a product in plain numbers: one minimal element under the pairs of two elements of rank 1, one
-- maximal element over the pairs of two facets; all other elements are pairs.
-- Assumes nothing.
use mathlib.Core.Path.{◌≡◌}
use mathlib.Core.Logic.Iff
use mathlib.Core.Logic.{◌↔◌, ◌⊎◌, inl, inr}
use mathlib.Core.Bool.{Bool, true, false}
use Prim.Native.Nat.{ℕ, suc, ◌+◌, ◌-◌, ◌≤◌, ◌<◌}
use native.Mathlib.Decide.{dec_lt}
use native.Mathlib.Omega.{arith}
use lib.Dec.{T}
use Rattle.order.proofs.Pairs.{pair_path}
use Rattle.listing.specs.Layers.{Layers, Topped}
use Rattle.listing.proofs.Layers.{in_range}
use Rattle.product_pairs.specs.Sound.{Sound, Listed}
use Rattle.product_pairs.specs.Trimmed.{bit, Used}
use Rattle.product_pairs.specs.Paired.{El, position}
use Rattle.product_pairs.specs.Product.{used_pairs, layer_product, UsedPair, at}
use Rattle.product_pairs.proofs.Grown.{grown_top, grown_min_size, grown_min_listed, grown_max_size}
use Rattle.product_pairs.proofs.Grown.{grown_max_listed}
use Rattle.product_pairs.proofs.Product.{product_topped}
use Rattle.product_pairs.proofs.ProductPairs.{at_used}

-- ranks of pairs in use, as plain numbers
lowest_pair : (p q : ℕ) → 1 ≤ p → 1 ≤ q → (p - 1 + (q - 1) + 1 ≡ 1) ↔ ((p ≡ 1) × (q ≡ 1))
lowest_pair p q hp hq = (λ e. (omega arith, omega arith), λ e. omega (arith, e.0, e.1))

highest_pair : (m a b p q : ℕ) → m ≤ p → m ≤ q → p + 1 ≤ a → q + 1 ≤ b
    → (suc (p - m + (q - m) + m) ≡ a - m - 1 + (b - m - 1) + m + 1) ↔ ((suc p ≡ a) × (suc q ≡ b))
highest_pair m a b p q hp hq ha hb = (λ e. (omega arith, omega arith), λ e. omega (arith, e.0, e.1))

module _ (min max : Bool) (A B : Layers) where
  pub at_rank : (x : El × El) → UsedPair min max A B x → (at min max A B x).0 + bit min ≡ x.0.0 + x.1.0
  unfolding at position
  at_rank x u = omega (arith, u.0.1, u.1.1)

module _ (max : Bool) (A B : Layers) where
  pub product_min_size : (layer_product true max A B).size 0 ≡ 1
  unfolding layer_product
  product_min_size = grown_min_size max (used_pairs true max A B)

  -- the added minimal element lies directly under the pairs of two elements of rank 1
  pub product_min : (x : El × El) → UsedPair true max A B x
      → Listed (layer_product true max A B) (0, 0) (at true max A B x) ↔ ((x.0.0 ≡ 1) × (x.1.0 ≡ 1))
  unfolding layer_product at position
  product_min x u =
      Iff.trans (grown_min_listed max (used_pairs true max A B) (at true max A B x))
      (lowest_pair x.0.0 x.1.0 u.0.1 u.1.1)

  -- and under nothing that is not a pair (at_onto says which)
  pub product_min_only : (y : El) → y.1 < (layer_product true max A B).size y.0
      → Listed (layer_product true max A B) (0, 0) y → Used true max (layer_product true max A B) y
  unfolding layer_product
  product_min_only y e l = (e, omega (arith, l.0), omega (arith, l.0, grown_top true max (used_pairs true max A B)))

module _ (min : Bool) (A B : Layers) where
  pub product_max_size : (layer_product min true A B).size (layer_product min true A B).top ≡ 1
  unfolding layer_product
  product_max_size = grown_max_size min (used_pairs min true A B)

  -- the added maximal element lies directly over the pairs of two facets
  pub product_max : Topped A → Topped B → Sound A → Sound B → (x : El × El) → UsedPair min true A B x
      → Listed (layer_product min true A B) (at min true A B x) ((layer_product min true A B).top, 0)
      ↔ ((suc x.0.0 ≡ A.top) × (suc x.1.0 ≡ B.top))
  unfolding layer_product at position
  product_max t_a t_b s_a s_b x u =
      let e = (at_used min true A B t_a t_b s_a s_b x u).0 in
      Iff.trans (grown_max_listed min (used_pairs min true A B) (at min true A B x) e)
      (rw (grown_top min true (used_pairs min true A B))
      (highest_pair (bit min) A.top B.top x.0.0 x.1.0 u.0.1 u.1.1 u.0.2 u.1.2))

  -- and over nothing that is not a pair
  pub product_max_only : (y : El) → y.1 < (layer_product min true A B).size y.0
      → Listed (layer_product min true A B) y ((layer_product min true A B).top, 0)
      → Used min true (layer_product min true A B) y
  unfolding layer_product
  product_max_only y e l =
      let h = grown_top min true (used_pairs min true A B) in
      (e, omega (arith, l.0), omega (arith, l.0))

-- an element that is not in use is an added one
low_end : (min max : Bool) (A B : Layers) (y : El) → y.1 < (layer_product min max A B).size y.0 → y.0 < bit min
    → T min × (y ≡ (0, 0))
low_end true max A B y e l =
    let z : y.0 ≡ 0 = omega arith in
    (tt, pair_path z (omega (arith, rw z at e, product_min_size max A B)))
low_end false max A B y e l = absurd (omega arith)

high_end : (min max : Bool) (A B : Layers) (y : El) → y.1 < (layer_product min max A B).size y.0
    → (layer_product min max A B).top < y.0 + bit max → T max × (y ≡ ((layer_product min max A B).top, 0))
high_end min true A B y e l =
    let c = in_range _ (product_topped min true A B) y.0 y.1 e in
    let z : y.0 ≡ (layer_product min true A B).top = omega arith in
    (tt, pair_path z (omega (arith, rw z at e, product_max_size min A B)))
high_end min false A B y e l = absurd (omega (arith, in_range _ (product_topped min false A B) y.0 y.1 e))

-- An element is a pair in use or an added end.
abbrev pub Kind : Bool → Bool → Layers → El → Type 0
Kind min max P y = Used min max P y ⊎ ((T min × (y ≡ (0, 0))) ⊎ (T max × (y ≡ (P.top, 0))))

pub product_kinds : (min max : Bool) (A B : Layers) (y : El) → y.1 < (layer_product min max A B).size y.0
    → Kind min max (layer_product min max A B) y
product_kinds min max A B y e = go (dec_lt y.0 (bit min)) (dec_lt (layer_product min max A B).top (y.0 + bit max))
  where
    go : Dec (y.0 < bit min) → Dec ((layer_product min max A B).top < y.0 + bit max)
        → Kind min max (layer_product min max A B) y
    go (yes l) d = inr (inl (low_end min max A B y e l))
    go (no l) (yes h) = inr (inr (high_end min max A B y e h))
    go (no l) (no h) = inl (e, omega arith, omega arith)
