-- How large a product is, by the sizes of its factors; and that it has a good shape exactly within the limits.
-- Assumes nothing.
use mathlib.Core.Path.{◌≡◌, ap, ◌∙◌}
use mathlib.Core.Logic.{◌↔◌}
use mathlib.Core.Bool.{Bool}
use Prim.Native.Nat.{suc, ◌+◌, ◌*◌}
use lib.ListN.{length}
use Rattle.order.specs.Sums.{sum}
use Rattle.order.proofs.Sums.{sum_same, sum_plus}
use Rattle.listing.specs.Listing.{Listing, Limits}
use Rattle.listing.specs.Shape.{elements, Shaped}
use Rattle.listing.specs.Layers.{Layers, Topped, layers, derived}
use Rattle.listing.proofs.Written.{total, written_counts_length, written_ends_length}
use Rattle.listing.proofs.Written.{written_elements, written_inc_length}
use Rattle.product_pairs.specs.Sound.{Sound}
use Rattle.product_pairs.specs.Trimmed.{bit}
use Rattle.product_pairs.specs.Paired.{block, paired}
use Rattle.product_pairs.specs.Product.{used_pairs, layer_product, product_of}
use Rattle.product_pairs.specs.Lengths.{rank_subs, all_subs, paired_subs, product_subs}
use Rattle.product_pairs.proofs.Trimmed.{trimmed_topped}
use Rattle.product_pairs.proofs.Grown.{grown_top}
use Rattle.product_pairs.proofs.Product.{product_topped}
use Rattle.product_pairs.proofs.Lengths.{rank_subs_above}
use Rattle.product_pairs.proofs.ProductLengths.{product_count, product_total}
use Rattle.product_pairs.proofs.Listings.{product_of_shaped}
use Rattle.product_closure.specs.Sizes.{all_elements, sizes_of, WithinLimits}
use Rattle.product_closure.proofs.Sums.{sum_product}

-- ---- pairs

module _ (A B : Layers) (t_a : Topped A) (t_b : Topped B) where
  -- as many as one of each
  paired_elements : all_elements (paired A B) ≡ all_elements A * all_elements B
  unfolding all_elements block Topped
  paired_elements = sum_product A.size B.size A.top B.top t_a t_b

  -- the subs of each first member for each second, and the other way round
  paired_subs_lem : sum (paired_subs A B) (suc (A.top + B.top)) ≡ all_subs A * all_elements B + all_elements A * all_subs B
  unfolding all_elements all_subs paired_subs Topped
  paired_subs_lem =
      sum_same _ _ (suc (A.top + B.top)) (λ R h. sum_plus _ _ (suc R)) ∙ sum_plus _ _ (suc (A.top + B.top))
      ∙ (λ i. sum_product (rank_subs A) B.size A.top B.top (rank_subs_above A t_a) t_b i
      + sum_product A.size (rank_subs B) A.top B.top t_a (rank_subs_above B t_b) i)

-- ---- the product of layers

module _ (min max : Bool) (A B : Layers) where
  product_ranks : suc (layer_product min max A B).top ≡ (sizes_of min max A B).ranks
  unfolding layer_product sizes_of
  product_ranks = ap suc (grown_top min max (used_pairs min max A B))

  product_elements : sum (layer_product min max A B).size (suc (layer_product min max A B).top)
      ≡ (sizes_of min max A B).elements
  unfolding all_elements sizes_of
  product_elements =
      product_count min max A B
      ∙ ap (λ n. n + bit min + bit max) (paired_elements _ _ (trimmed_topped min max A) (trimmed_topped min max B))

  product_incidences : Sound A → Sound B
      → total (layer_product min max A B) (derived (layer_product min max A B)) ≡ (sizes_of min max A B).incidences
  unfolding product_subs sizes_of
  product_incidences s_a s_b =
      let n = paired_subs_lem _ _ (trimmed_topped min max A) (trimmed_topped min max B) in
      product_total min max A B s_a s_b ∙ rw n

-- ---- the product of listings

module _ (min max : Bool) (A B : Listing) where
  pub product_of_ranks : length (product_of min max A B).counts ≡ (sizes_of min max (layers A) (layers B)).ranks
  unfolding product_of
  product_of_ranks = written_counts_length _ _ ∙ product_ranks min max (layers A) (layers B)

  pub product_of_elements : elements (product_of min max A B) ≡ (sizes_of min max (layers A) (layers B)).elements
  unfolding product_of
  product_of_elements =
      written_elements _ _ (product_topped min max (layers A) (layers B))
      ∙ product_elements min max (layers A) (layers B)

  pub product_of_ends : length (product_of min max A B).ends ≡ 2 * (sizes_of min max (layers A) (layers B)).elements
  unfolding product_of
  product_of_ends = written_ends_length _ _ ∙ ap (λ n. 2 * n) (product_elements min max (layers A) (layers B))

module _ (min max : Bool) (A B : Listing) (s_a : Sound (layers A)) (s_b : Sound (layers B)) where
  pub product_of_incidences : length (product_of min max A B).inc ≡ (sizes_of min max (layers A) (layers B)).incidences
  unfolding product_of
  product_of_incidences = written_inc_length _ _ ∙ product_incidences min max (layers A) (layers B) s_a s_b

  -- The product has a good shape exactly if its sizes are within the limits.
  pub product_of_within : (m : Limits)
      → Shaped m (product_of min max A B) ↔ WithinLimits m (sizes_of min max (layers A) (layers B))
  product_of_within m = (
    λ h. record {
      few_ranks = rw (product_of_ranks min max A B) at h.few_ranks;
      few_elements = rw (product_of_elements min max A B) at h.few_elements;
      few_incidences = rw product_of_incidences at h.few_incidences;
    },
    λ w.
        product_of_shaped min max A B m (rw (product_ranks min max (layers A) (layers B)) w.few_ranks)
        (rw (product_elements min max (layers A) (layers B)) w.few_elements)
        (rw (product_incidences min max (layers A) (layers B) s_a s_b) w.few_incidences),
  )
