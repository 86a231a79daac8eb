-- An answered product: its factors are valid, its shape is good, and it is closed where its factors are.
-- Assumes nothing.
use mathlib.Core.Path.{◌≡◌, refl}
use mathlib.Core.Bool.{Bool, true, false}
use Prim.Native.Nat.{ℕ}
use lib.ListN.{length}
use Rattle.listing.specs.declared.Built.{Built}
use Rattle.listing.specs.Listing.{Listing, limits, rank}
use Rattle.listing.specs.Shape.{Shaped}
use Rattle.listing.specs.Layers.{layers}
use Rattle.listing_outputs.specs.Output.{prefix}
use Rattle.listing.proofs.Answers.{no_of}
use Rattle.listing_outputs.proofs.Output.{made_answer, made_prefix}
use Rattle.valid.specs.Tests.{is_valid}
use Rattle.valid.specs.Closed.{Closed}
use Rattle.product_pairs.specs.Sound.{Sound}
use Rattle.product_pairs.specs.Product.{product_of}
use Rattle.product_closure.specs.Result.{first_factor, second_factor, null_case, comb_case, result_of, HighEnough}
use Rattle.product_closure.proofs.Results.{result_product, result_null, nullitope_closed, both}
use Rattle.product_closure.proofs.Sizes.{product_of_ranks, product_of_elements, product_of_incidences}
use Rattle.product_closure.proofs.Sizes.{product_of_within}
use Rattle.product_closure.proofs.Valid.{valid_sound}
use Rattle.product_closure.proofs.Products.{four_closed}
use Rattle.product.specs.Outcome.{Outcome}
use Rattle.product_sizes.proofs.Tested.{Passed}
use Rattle.product.proofs.Chain.{chain_passed}

-- a product within the limits has a good shape
pairs_shaped : (min max : Bool) (A B : Listing) {c e i : ℕ} → Sound (layers A) → Sound (layers B)
    → Passed limits (product_of min max A B) c e i → Shaped limits (product_of min max A B)
pairs_shaped min max A B s_a s_b p =
    (product_of_within min max A B s_a s_b limits).1
    (record {
      few_ranks = rw (product_of_ranks min max A B) at p.few_ranks;
      few_elements = rw (product_of_elements min max A B) at p.few_elements;
      few_incidences = rw (product_of_incidences min max A B s_a s_b) at p.few_incidences;
    })

result_shaped : (min max : Bool) (A B : Listing) {c e i : ℕ} → (is_valid limits A).no ≡ 0 → (is_valid limits B).no ≡ 0
    → Passed limits (result_of min max A B) c e i → Shaped limits (result_of min max A B)
result_shaped min max A B v_a v_b p = go (null_case min max A B) refl
  where
    go : (n : Bool) → null_case min max A B ≡ n → Shaped limits (result_of min max A B)
    go true n = rw (result_null min max A B n) nullitope_closed.shaped
    go false n =
        let s = both (λ L. Sound (layers L)) min A B (valid_sound limits A v_a) (valid_sound limits B v_b) in
        let q = rw (result_product min max A B n) at p in
        rw (result_product min max A B n)
        (pairs_shaped min max (first_factor min A B) (second_factor min A B) s.0 s.1 q)

module _ (min max : Bool) {A B old new : Listing} {r : Built} (o : Outcome limits min max A B old new r)
    (z : r.answer.no ≡ 0) where
  abbrev R : Listing
  R = result_of min max A B

  -- The factors of an answered product are valid, it is no refused duocomb, and its sizes have passed.
  pub answered_passed : ((is_valid limits A).no ≡ 0) × ((is_valid limits B).no ≡ 0) × (comb_case min max A B ≡ false)
      × Passed limits R (length old.counts) (length old.ends) (length old.inc)
  answered_passed = chain_passed limits min max A B _ _ _ (no_of (made_answer o.made) z)

  -- its shape is good
  pub answered_shaped : Shaped limits R
  answered_shaped =
      let p = answered_passed in
      result_shaped min max A B p.0 p.1 p.3

  -- Of two closed factors, high enough, an answered product has written a closed listing.
  pub answered_closed : Closed limits A → Closed limits B → HighEnough min max (rank A) (rank B)
      → Closed limits (prefix new r)
  answered_closed c_a c_b h = rw (made_prefix o.made z) (four_closed min max limits A B c_a c_b h answered_shaped)
