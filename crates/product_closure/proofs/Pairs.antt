-- The elements of a product of two listings are the pairs of elements in use, and the added ends: which lies directly
-- under which, and that exchanging the factors only swaps the pairs.
-- Assumes nothing.
use mathlib.Core.Path.{◌≡◌, ap, ◌∙◌}
use mathlib.Core.Logic.Iff
use mathlib.Core.Bool.{Bool, true, false}
use native.Mathlib.Omega.{arith}
use lib.Dec.{T}
use Rattle.order.specs.Structure.{Renumbering}
use Rattle.listing.specs.Listing.{Listing, count}
use Rattle.listing.specs.Layers.{layers, order}
use Rattle.listing.proofs.Layers.{layers_topped}
use Rattle.product_pairs.specs.Sound.{Sound}
use Rattle.product_pairs.specs.Trimmed.{Used}
use Rattle.product_pairs.specs.Paired.{El}
use Rattle.product_pairs.specs.Product.{product_of}
use Rattle.product_pairs.proofs.Listings.{product_layers}
use Rattle.product_pairs.proofs.ProductPairs.{at_used, at_one, at_onto, at_under}
use Rattle.product_pairs.proofs.ProductEnds.{at_rank, product_min_size, product_min, product_min_only, product_kinds}
use Rattle.product_pairs.proofs.ProductEnds.{product_max_size, product_max, product_max_only}
use Rattle.product_pairs.proofs.ProductSwap.{product_swap, product_swap_pair, product_swap_min, product_swap_max}
use Rattle.product_closure.specs.Result.{first_factor, second_factor, null_case, result_of}
use Rattle.product_closure.specs.Pairs.{InnerPair, place_of, Matched, LowEnd, HighEnd, Swapped}
use Rattle.product_closure.proofs.Alike.{alike_exists, alike_used, alike_listed, alike_renumbered}
use Rattle.product_closure.proofs.Alike.{product_of_alike}
use Rattle.product_closure.proofs.Results.{result_product, null_exchanged, exchanged, both}

-- ---- the product of two listings

module _ (min max : Bool) (A B : Listing) (s_a : Sound (layers A)) (s_b : Sound (layers B)) where
  -- where a pair in use stands there is an element
  pub place_used : (x : El × El) → InnerPair min max A B x
      → Used min max (product_layers min max A B) (place_of min max A B x)
  place_used = at_used min max (layers A) (layers B) (layers_topped A) (layers_topped B) s_a s_b

  product_of_matched : Matched min max A B (product_of min max A B)
  product_of_matched =
      let t_a = layers_topped A in
      let t_b = layers_topped B in
      let k = product_of_alike min max A B in
      record {
        there = λ x u. (alike_used k min max _).1 (place_used x u);
        once = at_one min max (layers A) (layers B) t_a t_b s_a s_b;
        all = λ y i. at_onto min max (layers A) (layers B) t_a t_b s_a s_b y ((alike_used k min max y).0 i);
        ranks = at_rank min max (layers A) (layers B);
        others = λ y e.
            rw (k.same_size y.0, k.same_top)
            (product_kinds min max (layers A) (layers B) y ((alike_exists k y).0 e));
        under = λ x y p q.
            Iff.trans (alike_listed k _ _ (place_used y q).0)
            (at_under min max (layers A) (layers B) t_a t_b s_a s_b x y p q);
      }

module _ (max : Bool) (A B : Listing) (s_a : Sound (layers A)) (s_b : Sound (layers B)) where
  product_of_low : LowEnd max A B (product_of true max A B)
  product_of_low =
      let k = product_of_alike true max A B in
      record {
        one = k.same_size 0 ∙ product_min_size max (layers A) (layers B);
        pairs = λ x u.
            Iff.trans (alike_listed k _ _ (place_used true max A B s_a s_b x u).0)
            (product_min max (layers A) (layers B) x u);
        no_other = λ y e l.
            let h = (alike_exists k y).0 e in
            (alike_used k true max y).1 (product_min_only max (layers A) (layers B) y h ((alike_listed k _ y h).0 l));
      }

module _ (min : Bool) (A B : Listing) (s_a : Sound (layers A)) (s_b : Sound (layers B)) where
  product_of_high : HighEnd min A B (product_of min true A B)
  product_of_high =
      let k = product_of_alike min true A B in
      let s = product_max_size min (layers A) (layers B) in
      record {
        one = ap (count (product_of min true A B)) k.same_top ∙ k.same_size _ ∙ s;
        pairs = λ x u.
            rw k.same_top
            (Iff.trans (alike_listed k _ ((product_layers min true A B).top, 0) (omega arith))
            (product_max min (layers A) (layers B) (layers_topped A) (layers_topped B) s_a s_b x u));
        no_other = λ y e l.
            let h = (alike_exists k y).0 e in
            let m = (alike_listed k y ((product_layers min true A B).top, 0) (omega arith)).0 (rw k.same_top at l) in
            (alike_used k min true y).1 (product_max_only min (layers A) (layers B) y h m);
      }

-- ---- exchanging the factors

module _ (min max : Bool) (A B : Listing) (s_a : Sound (layers A)) (s_b : Sound (layers B)) where
  swapping : Renumbering (order (product_layers min max A B)) (order (product_layers min max B A))
  swapping = product_swap min max (layers A) (layers B) (layers_topped A) (layers_topped B) s_a s_b

swap_min : (min max : Bool) (A B : Listing) (s_a : Sound (layers A)) (s_b : Sound (layers B)) → T min
    → (swapping min max A B s_a s_b).to (0, 0) ≡ (0, 0)
unfolding swapping
swap_min true max A B s_a s_b t = product_swap_min max (layers A) (layers B) (layers_topped A) (layers_topped B) s_a s_b
swap_min false max A B s_a s_b t = absurd t

swap_max : (min max : Bool) (A B : Listing) (s_a : Sound (layers A)) (s_b : Sound (layers B)) → T max
    → (swapping min max A B s_a s_b).to ((product_layers min max A B).top, 0) ≡ ((product_layers min max B A).top, 0)
unfolding swapping
swap_max min true A B s_a s_b t = product_swap_max min (layers A) (layers B) (layers_topped A) (layers_topped B) s_a s_b
swap_max min false A B s_a s_b t = absurd t

pub product_of_swapped : (min max : Bool) (A B : Listing) → Sound (layers A) → Sound (layers B)
    → Swapped min max A B (product_of min max A B) (product_of min max B A)
unfolding alike_renumbered swapping
product_of_swapped min max A B s_a s_b =
    let k = product_of_alike min max A B in
    let l = product_of_alike min max B A in
    record {
      renumbering = alike_renumbered k l (swapping min max A B s_a s_b);
      pairs = product_swap_pair min max (layers A) (layers B) (layers_topped A) (layers_topped B) s_a s_b;
      minimal = swap_min min max A B s_a s_b;
      maximal = λ t. rw (k.same_top, l.same_top) (swap_max min max A B s_a s_b t);
    }

-- ---- the four products

module _ (min max : Bool) (A B : Listing) (s_a : Sound (layers A)) (s_b : Sound (layers B))
    (n : null_case min max A B ≡ false) where
  sound : Sound (layers (first_factor min A B)) × Sound (layers (second_factor min A B))
  sound = both (λ L. Sound (layers L)) min A B s_a s_b

  -- Apart from the added ends the elements are the pairs in use, and directly under is a step of one member.
  pub result_matched : Matched min max (first_factor min A B) (second_factor min A B) (result_of min max A B)
  result_matched =
      rw (result_product min max A B n)
      (product_of_matched min max (first_factor min A B) (second_factor min A B) sound.0 sound.1)

  -- Exchanging the factors only swaps the pairs.
  pub result_swapped : Swapped min max (first_factor min A B) (second_factor min A B) (result_of min max A B)
      (result_of min max B A)
  result_swapped =
      let F = first_factor min A B in
      let S = second_factor min A B in
      rw (result_product min max A B n, result_product min max B A (null_exchanged min max B A ∙ n))
      (exchanged (λ C D. Swapped min max F S (product_of min max F S) (product_of min max C D)) min A B
      (product_of_swapped min max F S sound.0 sound.1))

-- The added minimal element of duoprism and duocomb lies directly under the pairs of two elements of rank 1.
pub result_low : (max : Bool) (A B : Listing) → Sound (layers A) → Sound (layers B) → null_case true max A B ≡ false
    → LowEnd max A B (result_of true max A B)
result_low max A B s_a s_b n = rw (result_product true max A B n) (product_of_low max A B s_a s_b)

-- The added maximal element of duotegum and duocomb lies directly over the pairs of two facets.
pub result_high : (min : Bool) (A B : Listing) → Sound (layers A) → Sound (layers B) → null_case min true A B ≡ false
    → HighEnd min (first_factor min A B) (second_factor min A B) (result_of min true A B)
result_high min A B s_a s_b n =
    let s = both (λ L. Sound (layers L)) min A B s_a s_b in
    rw (result_product min true A B n) (product_of_high min (first_factor min A B) (second_factor min A B) s.0 s.1)
