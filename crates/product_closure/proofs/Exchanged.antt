-- Exchanging the factors changes no size of a product, and not whether it is a refused duocomb.
-- Assumes nothing.
use mathlib.Core.Path.{◌≡◌, refl, sym, ap, ◌∙◌}
use mathlib.Core.Bool.{Bool, true, false, not, ◌&&◌, or_comm}
use Prim.Native.Nat.{ℕ, ◌*◌}
use native.Mathlib.Omega.{arith}
use lib.Dec.{eqb}
use lib.ListN.{length}
use Rattle.listing.specs.Listing.{Listing, rank}
use Rattle.listing.specs.Shape.{elements}
use Rattle.listing.specs.Layers.{Layers, layers}
use Rattle.product_pairs.specs.Sound.{Sound}
use Rattle.product_pairs.specs.Product.{product_of}
use Rattle.product_closure.specs.Result.{first_factor, second_factor, null_case, comb_case, result_of}
use Rattle.product_closure.specs.Sizes.{Sizes, sizes_of}
use Rattle.product_closure.proofs.Sizes.{product_of_ranks, product_of_elements, product_of_ends}
use Rattle.product_closure.proofs.Sizes.{product_of_incidences}
use Rattle.product_closure.proofs.Results.{result_product, result_null, null_exchanged, exchanged, both}

-- Two listings of the same sizes.
pub record SameSizes (R Q : Listing) : Type 0 where
  pub counts : length R.counts ≡ length Q.counts
  pub elements : elements R ≡ elements Q
  pub ends : length R.ends ≡ length Q.ends
  pub inc : length R.inc ≡ length Q.inc

sizes_exchanged : (min max : Bool) (A B : Layers) → sizes_of min max A B ≡ sizes_of min max B A
unfolding sizes_of
sizes_exchanged min max A B =
    let r : (sizes_of min max A B).ranks ≡ (sizes_of min max B A).ranks = omega arith in
    let e : (sizes_of min max A B).elements ≡ (sizes_of min max B A).elements = omega arith in
    let i : (sizes_of min max A B).incidences ≡ (sizes_of min max B A).incidences = omega arith in
    λ t. record { ranks = r t; elements = e t; incidences = i t }

module _ (min max : Bool) (A B : Listing) (s_a : Sound (layers A)) (s_b : Sound (layers B)) where
  -- what is said of the sizes, and so of the product either way round
  either_way : (f : Sizes → ℕ) {m n : ℕ} → m ≡ f (sizes_of min max (layers A) (layers B))
      → n ≡ f (sizes_of min max (layers B) (layers A)) → m ≡ n
  either_way f p q = p ∙ ap f (sizes_exchanged min max (layers A) (layers B)) ∙ sym q

  product_of_exchanged : SameSizes (product_of min max A B) (product_of min max B A)
  product_of_exchanged = record {
    counts = either_way (λ s. s.ranks) (product_of_ranks min max A B) (product_of_ranks min max B A);
    elements = either_way (λ s. s.elements) (product_of_elements min max A B) (product_of_elements min max B A);
    ends = either_way (λ s. 2 * s.elements) (product_of_ends min max A B) (product_of_ends min max B A);
    inc = either_way (λ s. s.incidences) (product_of_incidences min max A B s_a s_b)
        (product_of_incidences min max B A s_b s_a);
  }

module _ (min max : Bool) (A B : Listing) where
  pub comb_exchanged : comb_case min max A B ≡ comb_case min max B A
  unfolding comb_case
  comb_exchanged = λ t.
      (min && max) && (not (null_exchanged min max A B t) && or_comm (eqb (rank A) 1) (eqb (rank B) 1) t)

  pub result_exchanged : Sound (layers A) → Sound (layers B)
      → SameSizes (result_of min max A B) (result_of min max B A)
  result_exchanged s_a s_b = go (null_case min max A B) refl
    where
      go : (n : Bool) → null_case min max A B ≡ n → SameSizes (result_of min max A B) (result_of min max B A)
      go true n =
          rw (result_null min max A B n, result_null min max B A (null_exchanged min max B A ∙ n))
          (record { counts = refl; elements = refl; ends = refl; inc = refl })
      go false n =
          let F = first_factor min A B in
          let S = second_factor min A B in
          let s = both (λ L. Sound (layers L)) min A B s_a s_b in
          rw (result_product min max A B n, result_product min max B A (null_exchanged min max B A ∙ n))
          (exchanged (λ C D. SameSizes (product_of min max F S) (product_of min max C D)) min A B
          (product_of_exchanged min max F S s.0 s.1))
