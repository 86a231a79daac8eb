-- Exchanging the factors of a product only swaps the pairs.
-- Assumes nothing.
use mathlib.Core.Path.{◌≡◌}
use mathlib.Core.Bool.{Bool, true}
use Rattle.order.specs.Structure.{Renumbering}
use Rattle.order.specs.Pairs.{swap}
use Rattle.order.specs.Ends.{InUse, added_min, added_max}
use Rattle.order.proofs.Renumbering.{Renumbering-across, across_to}
use Rattle.order.proofs.Trim.{grow-added_max_exists}
use Rattle.order.proofs.Product.{Product-swap, Product-swap-pair, Product-swap-min, Product-swap-max}
use Rattle.listing.specs.Layers.{Layers, Topped, order}
use Rattle.product_pairs.specs.Sound.{Sound}
use Rattle.product_pairs.specs.Paired.{El}
use Rattle.product_pairs.specs.Product.{layer_product, UsedPair, at}
use Rattle.product_pairs.proofs.Product.{kept_pair, grown_pair, product_order, product_order_to}
use Rattle.product_pairs.proofs.Product.{product_order_min, product_order_max}
use Rattle.product_pairs.proofs.ProductPairs.{grown_pair_exists}

module _ (min max : Bool) (A B : Layers) (t_a : Topped A) (t_b : Topped B) (s_a : Sound A) (s_b : Sound B) where
  pub product_swap : Renumbering (order (layer_product min max A B)) (order (layer_product min max B A))
  product_swap =
      Renumbering-across (product_order min max A B t_a t_b s_a s_b) (Product-swap min max (order A) (order B))
      (product_order min max B A t_b t_a s_b s_a)

  pub product_swap_pair : (x : El × El) → UsedPair min max A B x
      → product_swap.to (at min max A B x) ≡ at min max B A (swap x)
  unfolding product_swap
  product_swap_pair x u =
      across_to (product_order min max A B t_a t_b s_a s_b) (Product-swap min max (order A) (order B))
      (product_order min max B A t_b t_a s_b s_a) (grown_pair min max A B x)
      (grown_pair_exists min max A B t_a t_b s_a s_b x u) (product_order_to min max A B t_a t_b s_a s_b x)
      (Product-swap-pair min max (order A) (order B) (kept_pair min max A B x))
      (product_order_to min max B A t_b t_a s_b s_a (swap x))

-- the added ends stay where they are
pub product_swap_min : (max : Bool) (A B : Layers) (t_a : Topped A) (t_b : Topped B) (s_a : Sound A) (s_b : Sound B)
    → (product_swap true max A B t_a t_b s_a s_b).to (0, 0) ≡ (0, 0)
unfolding product_swap
product_swap_min max A B t_a t_b s_a s_b =
    across_to (product_order true max A B t_a t_b s_a s_b) (Product-swap true max (order A) (order B))
    (product_order true max B A t_b t_a s_b s_a) (added_min max (InUse true max (order A) (order B))) tt
    (product_order_min max A B t_a t_b s_a s_b) (Product-swap-min max (order A) (order B))
    (product_order_min max B A t_b t_a s_b s_a)

pub product_swap_max : (min : Bool) (A B : Layers) (t_a : Topped A) (t_b : Topped B) (s_a : Sound A) (s_b : Sound B)
    → (product_swap min true A B t_a t_b s_a s_b).to ((layer_product min true A B).top, 0)
    ≡ ((layer_product min true B A).top, 0)
unfolding product_swap
product_swap_max min A B t_a t_b s_a s_b =
    let W = InUse min true (order A) (order B) in
    across_to (product_order min true A B t_a t_b s_a s_b) (Product-swap min true (order A) (order B))
    (product_order min true B A t_b t_a s_b s_a) (added_max min W) (grow-added_max_exists min W)
    (product_order_max min A B t_a t_b s_a s_b) (Product-swap-max min (order A) (order B))
    (product_order_max min B A t_b t_a s_b s_a)
