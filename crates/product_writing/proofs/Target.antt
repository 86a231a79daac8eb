-- The layers of the product: how many elements there are, of which ranks, and the lists of the elements added.
-- Assumes nothing.
use mathlib.Core.Path.{◌≡◌, ap, ◌∙◌}
use mathlib.Core.Bool.{Bool, true}
use mathlib.Core.List.{List, []}
use Prim.Native.Nat.{ℕ, suc, ◌+◌, ◌-◌, ◌*◌, ◌<◌}
use native.Mathlib.Omega.{arith}
use lib.ListN.{length, get_or-eq_default}
use Rattle.order.specs.Sums.{sum}
use Rattle.listing.specs.Listing.{Listing}
use Rattle.listing.specs.Layers.{Layers, Topped}
use Rattle.listing.specs.Written.{tabulated}
use Rattle.product_pairs.specs.Trimmed.{bit}
use Rattle.product_pairs.specs.Paired.{block, paired}
use Rattle.product_pairs.specs.Grown.{up_to}
use Rattle.product_pairs.proofs.Positions.{paired_topped}
use Rattle.product_pairs.proofs.Grown.{grown_topped}
use Rattle.product_places.specs.Places.{pairs_in, pairs_to}
use Rattle.product_element.specs.Pairs.{factor_layers, target, lists_of, size_of}
use Rattle.product_writing.proofs.Sizes.{grown_sum, low_subs, low_sups, high_subs, high_sups}

pub factor_topped : (min : Bool) (P : Listing) → Topped (factor_layers min P)
unfolding Topped
factor_topped min P r h = get_or-eq_default P.counts 0 (omega arith)

pub target_topped : (min max : Bool) (P Q : Listing) → Topped (target min max P Q)
unfolding target
target_topped min max P Q =
    grown_topped min max _ (paired_topped _ _ (factor_topped min P) (factor_topped min Q))

module _ (P Q : Listing) (hp : 0 < length P.counts) (hq : 0 < length Q.counts) where
  abbrev p : List ℕ
  p = P.counts

  abbrev q : List ℕ
  q = Q.counts

  -- how many ranks the pairs have
  abbrev n : ℕ
  n = length p + length q - 1

  abbrev M : Bool → Layers
  M min = paired (factor_layers min P) (factor_layers min Q)

  ranks : (min : Bool) → suc (M min).top ≡ n
  ranks min = omega arith

  pairs_sum : (min : Bool) → sum (M min).size (suc (M min).top) ≡ pairs_to p q n
  unfolding pairs_to block
  pairs_sum min = ap (sum (λ r. pairs_in p q r (suc r))) (ranks min)

  pub pairs_table : (min : Bool) → tabulated (M min).size (suc (M min).top) ≡ tabulated (λ r. pairs_in p q r (suc r)) n
  unfolding block
  pairs_table min = ap (tabulated (λ r. pairs_in p q r (suc r))) (ranks min)

  pairs_top : (min : Bool) → (M min).size (M min).top ≡ pairs_in p q (n - 1) n
  unfolding block
  pairs_top min =
      let e : (M min).top ≡ n - 1 = omega arith in
      let f : suc (n - 1) ≡ n = omega arith in
      ap (λ (r : ℕ). pairs_in p q r (suc r)) e ∙ ap (pairs_in p q (n - 1)) f

  module _ (min max : Bool) where
    pub target_size : sum (target min max P Q).size (suc (target min max P Q).top) ≡ size_of min max p q
    unfolding target size_of
    target_size = omega (arith, grown_sum min max (M min), pairs_sum min)

  -- the element added below: nothing under it, and all lowest pairs over it
  module _ (max : Bool) where
    pub lists_low : lists_of true max P Q 0 ≡ []
    unfolding lists_of target
    lists_low = low_subs max (M true)

    pub lists_over_low : length (lists_of true max P Q 1) ≡ pairs_in p q 0 1
    unfolding lists_of target block
    lists_over_low = low_sups max (M true)

  -- the element added above: all highest pairs under it, and nothing over it
  module _ (min : Bool) where
    pub lists_high : lists_of min true P Q (2 * (bit min + pairs_to p q n)) ≡ up_to (pairs_in p q (n - 1) n)
    unfolding lists_of target
    lists_high = rw (← pairs_sum min, ← pairs_top min) (high_subs (M min) min)

    pub lists_over_high : length (lists_of min true P Q (2 * (bit min + pairs_to p q n) + 1)) ≡ 0
    unfolding lists_of target
    lists_over_high = rw (← pairs_sum min) (high_sups (M min) min)
