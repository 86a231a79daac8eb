-- Upside down, a product of layers is the product, with the ends exchanged, of the layers upside down: a pair goes to
-- the pair of where its members go, and each added end to the added end at the other side.
-- Assumes nothing.
use mathlib.Core.Path.{◌≡◌}
use mathlib.Core.Bool.{Bool, true}
use Rattle.order.specs.Structure.{turned, Renumbering}
use Rattle.order.specs.Ends.{InUse, Product, added_min, added_max}
use Rattle.order.proofs.Renumbering.{Renumbering-turned, Renumbering-across, across_to}
use Rattle.order.proofs.Trim.{grow-added_max_exists}
use Rattle.order.proofs.ProductTurned.{Product-turned, Product-turned-pair, Product-turned-min, Product-turned-max}
use Rattle.listing.specs.Layers.{Layers, Topped, order}
use Rattle.listing.proofs.Layers.{order_ranked}
use Rattle.product_pairs.specs.Sound.{Sound}
use Rattle.product_pairs.specs.Paired.{El}
use Rattle.product_pairs.specs.Product.{layer_product, UsedPair, at}
use Rattle.product_pairs.proofs.Product.{grown_pair, product_order, product_order_to}
use Rattle.product_pairs.proofs.Product.{product_order_min, product_order_max}
use Rattle.product_pairs.proofs.ProductPairs.{grown_pair_exists}

-- C is A upside down, by f, and E is B upside down, by g.
module _ (A B C E : Layers) (t_a : Topped A) (t_b : Topped B) (t_c : Topped C) (t_e : Topped E)
    (s_a : Sound A) (s_b : Sound B) (s_c : Sound C) (s_e : Sound E)
    (f : Renumbering (turned (order A)) (order C)) (g : Renumbering (turned (order B)) (order E)) where
  abbrev orders_turned : (min max : Bool)
      → Renumbering (turned (Product min max (order A) (order B))) (Product max min (order C) (order E))
  orders_turned min max =
      Product-turned min max (order_ranked A t_a) (order_ranked B t_b) (order_ranked C t_c) (order_ranked E t_e) f g

  pub product_turned : (min max : Bool)
      → Renumbering (turned (order (layer_product min max A B))) (order (layer_product max min C E))
  product_turned min max =
      Renumbering-across (Renumbering-turned (product_order min max A B t_a t_b s_a s_b)) (orders_turned min max)
      (product_order max min C E t_c t_e s_c s_e)

  -- it does what turning over does in the product of the orders
  turned_to : (min max : Bool) (z : (Product min max (order A) (order B)).Elem) {x w : El}
      {y : (Product max min (order C) (order E)).Elem} → (Product min max (order A) (order B)).Exists z
      → (product_order min max A B t_a t_b s_a s_b).to z ≡ x → (orders_turned min max).to z ≡ y
      → (product_order max min C E t_c t_e s_c s_e).to y ≡ w → (product_turned min max).to x ≡ w
  unfolding product_turned Renumbering-turned
  turned_to min max z e p q r = across_to _ _ _ z e p q r

  pub product_turned_pair : (min max : Bool) (x : El × El) → UsedPair min max A B x
      → (product_turned min max).to (at min max A B x) ≡ at max min C E (f.to x.0, g.to x.1)
  product_turned_pair min max x u =
      turned_to min max (grown_pair min max A B x) (grown_pair_exists min max A B t_a t_b s_a s_b x u)
      (product_order_to min max A B t_a t_b s_a s_b x) (Product-turned-pair min max _ _ _ _ f g x.0 x.1)
      (product_order_to max min C E t_c t_e s_c s_e (f.to x.0, g.to x.1))

  -- the added minimal element goes to the added maximal one
  pub product_turned_min : (max : Bool) → (product_turned true max).to (0, 0) ≡ ((layer_product max true C E).top, 0)
  product_turned_min max =
      turned_to true max (added_min max (InUse true max (order A) (order B))) tt
      (product_order_min max A B t_a t_b s_a s_b) (Product-turned-min max _ _ _ _ f g)
      (product_order_max max C E t_c t_e s_c s_e)

  -- and the added maximal element to the added minimal one
  pub product_turned_max : (min : Bool) → (product_turned min true).to ((layer_product min true A B).top, 0) ≡ (0, 0)
  product_turned_max min =
      let W = InUse min true (order A) (order B) in
      turned_to min true (added_max min W) (grow-added_max_exists min W)
      (product_order_max min A B t_a t_b s_a s_b) (Product-turned-max min _ _ _ _ f g)
      (product_order_min min C E t_c t_e s_c s_e)
