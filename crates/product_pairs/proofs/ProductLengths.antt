-- How many elements a product has, and how many incidences, by the sizes and the subs of the trimmed factors.
-- Assumes nothing.
use mathlib.Core.Path.{◌≡◌, ap, ◌∙◌}
use mathlib.Core.Logic.{◌≢◌}
use mathlib.Core.Bool.{Bool}
use Prim.Native.Nat.{ℕ, suc, ◌+◌, ◌-◌, ◌*◌, ◌<◌}
use native.Mathlib.Nat.{mul-zero, zero-mul}
use native.Mathlib.Decide.{dec_lt}
use native.Mathlib.Omega.{arith}
use Rattle.order.specs.Sums.{sum}
use Rattle.order.proofs.Sums.{sum_same}
use Rattle.listing.specs.Layers.{Layers, Topped, derived}
use Rattle.listing.proofs.Written.{total}
use Rattle.product_pairs.specs.Sound.{Sound}
use Rattle.product_pairs.specs.Trimmed.{bit, trimmed}
use Rattle.product_pairs.specs.Paired.{block, paired}
use Rattle.product_pairs.specs.Product.{used_pairs, layer_product}
use Rattle.product_pairs.specs.Lengths.{all_subs, paired_subs, product_subs}
use Rattle.product_pairs.proofs.Sequences.{sum_one}
use Rattle.product_pairs.proofs.Trimmed.{trimmed_topped, trimmed_sound}
use Rattle.product_pairs.proofs.Paired.{paired_sound}
use Rattle.product_pairs.proofs.Product.{product_topped, product_sound}
use Rattle.product_pairs.proofs.Lengths.{total_derived}
use Rattle.product_pairs.proofs.PairedLengths.{paired_rank_subs}
use Rattle.product_pairs.proofs.GrownLengths.{grown_subs, grown_count}

-- ---- the lowest and the highest pairs

paired_lowest : (A B : Layers) → (paired A B).size 0 ≡ A.size 0 * B.size 0
unfolding sum block
paired_lowest A B = omega arith

paired_highest : (A B : Layers) → Topped A → Topped B
    → (paired A B).size (A.top + B.top) ≡ A.size A.top * B.size B.top
unfolding block Topped
paired_highest A B t_a t_b =
    let e : A.top + B.top - A.top ≡ B.top = omega arith in
    sum_one _ (suc (A.top + B.top)) A.top (omega arith) (λ i h d. other i d (dec_lt A.top i)) ∙ rw e
  where
    other : (i : ℕ) → i ≢ A.top → Dec (A.top < i) → A.size i * B.size (A.top + B.top - i) ≡ 0
    other i d (yes l) = rw (t_a i l, zero-mul)
    other i d (no l) = rw (t_b (A.top + B.top - i) (omega arith), mul-zero)

-- ---- elements

pub product_count : (min max : Bool) (A B : Layers)
    → sum (layer_product min max A B).size (suc (layer_product min max A B).top)
    ≡ sum (used_pairs min max A B).size (suc (used_pairs min max A B).top) + bit min + bit max
unfolding layer_product
product_count min max A B = grown_count min max (used_pairs min max A B)

-- ---- incidences

paired_all_subs : (A B : Layers) → all_subs (paired A B) ≡ sum (paired_subs A B) (suc (A.top + B.top))
unfolding all_subs
paired_all_subs A B = sum_same _ _ (suc (A.top + B.top)) (λ R h. paired_rank_subs A B R)

module _ (min max : Bool) (A B : Layers) (s_a : Sound A) (s_b : Sound B) where
  product_subs_lem : all_subs (layer_product min max A B) ≡ product_subs min max (trimmed min max A) (trimmed min max B)
  unfolding layer_product product_subs
  product_subs_lem =
      let A' = trimmed min max A in
      let B' = trimmed min max B in
      let t_a = trimmed_topped min max A in
      let t_b = trimmed_topped min max B in
      grown_subs min max (paired A' B')
      (paired_sound A' B' t_a t_b (trimmed_sound min max A s_a) (trimmed_sound min max B s_b))
      ∙ rw (paired_all_subs A' B', paired_lowest A' B', paired_highest A' B' t_a t_b)

  -- each sub has its sup
  pub product_total : total (layer_product min max A B) (derived (layer_product min max A B))
      ≡ 2 * product_subs min max (trimmed min max A) (trimmed min max B)
  product_total =
      total_derived _ (product_topped min max A B) (product_sound min max A B s_a s_b) ∙ ap (λ n. 2 * n) product_subs_lem
