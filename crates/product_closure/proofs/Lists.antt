-- The lists of a product of two listings: where its pairs stand, and what each list holds.
-- Assumes nothing.
use mathlib.Core.Path.{◌≡◌, sym, ap, ◌∙◌}
use mathlib.Core.Bool.{Bool, true, false}
use Prim.Native.Nat.{◌-◌}
use native.Mathlib.Omega.{arith}
use lib.Dec.{T}
use Rattle.listing.specs.Listing.{Listing, rank, count, subs, sups}
use Rattle.listing.specs.Layers.{layers}
use Rattle.product_pairs.specs.Sound.{Sound}
use Rattle.product_pairs.specs.Paired.{El}
use Rattle.product_pairs.specs.Grown.{up_to}
use Rattle.product_pairs.specs.Product.{product_of}
use Rattle.product_pairs.proofs.Listings.{product_layers, product_of_count, product_of_subs, product_of_sups}
use Rattle.product_pairs.proofs.ProductEnds.{product_min_size, product_max_size}
use Rattle.product_pairs.proofs.ProductLists.{at_sooner, at_subs, at_lowest, product_min_sups, product_max_subs}
use Rattle.product_closure.specs.Result.{first_factor, second_factor, null_case, result_of}
use Rattle.product_closure.specs.Pairs.{InnerPair, place_of}
use Rattle.product_closure.specs.Lists.{Arranged}
use Rattle.product_closure.proofs.Alike.{product_of_alike, product_of_derived}
use Rattle.product_closure.proofs.Results.{result_product, both}
use Rattle.product_closure.proofs.Pairs.{place_used}

-- ---- the added ends

minimal_sups : (min max : Bool) (A B : Listing) → T min
    → sups (product_of min max A B) 0 0 ≡ up_to (count (product_of min max A B) 1)
minimal_sups true max A B t =
    let s = product_min_size max (layers A) (layers B) in
    product_of_sups true max A B 0 0 (omega arith) ∙ product_min_sups max (layers A) (layers B)
    ∙ ap up_to (sym (product_of_count true max A B 1))
minimal_sups false max A B t = absurd t

maximal_subs : (min max : Bool) (A B : Listing) → T max
    → subs (product_of min max A B) (rank (product_of min max A B)) 0
    ≡ up_to (count (product_of min max A B) (rank (product_of min max A B) - 1))
maximal_subs min true A B t =
    let s = product_max_size min (layers A) (layers B) in
    let n = (product_layers min true A B).top in
    rw (product_of_alike min true A B).same_top
    (product_of_subs min true A B n 0 (omega arith) ∙ product_max_subs min (layers A) (layers B)
    ∙ ap up_to (sym (product_of_count min true A B (n - 1))))
maximal_subs min false A B t = absurd t

-- ---- all lists

module _ (min max : Bool) (A B : Listing) (s_a : Sound (layers A)) (s_b : Sound (layers B)) where
  -- what is listed where a pair in use stands
  subs_at : (x : El × El) → InnerPair min max A B x → let p = place_of min max A B x in
      subs (product_of min max A B) p.0 p.1 ≡ (product_layers min max A B).under p.0 p.1
  subs_at x u = product_of_subs min max A B _ _ (place_used min max A B s_a s_b x u).0

  product_of_arranged : Arranged min max A B (product_of min max A B)
  product_of_arranged = record {
    places = at_sooner min max (layers A) (layers B);
    pairs = λ x u h. subs_at x u ∙ at_subs min max (layers A) (layers B) x u h;
    lowest = λ x u t e. subs_at x u ∙ at_lowest min max (layers A) (layers B) x t e;
    minimal = minimal_sups min max A B;
    maximal = maximal_subs min max A B;
    sups = product_of_derived min max A B;
  }

-- The same of each of the four products, unless it is the nullitope.
pub result_arranged : (min max : Bool) (A B : Listing) → Sound (layers A) → Sound (layers B)
    → null_case min max A B ≡ false
    → Arranged min max (first_factor min A B) (second_factor min A B) (result_of min max A B)
result_arranged min max A B s_a s_b n =
    let s = both (λ L. Sound (layers L)) min A B s_a s_b in
    rw (result_product min max A B n)
    (product_of_arranged min max (first_factor min A B) (second_factor min A B) s.0 s.1)
