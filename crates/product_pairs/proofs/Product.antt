-- The product of two layers, once over the two flags: its lists are sound and sorted, its order is the product of the
-- orders, and it is closed, or connected, where they are.
-- Assumes nothing.
use mathlib.Core.Path.{◌≡◌, refl, ap, ◌∙◌}
use mathlib.Core.Bool.{Bool, true, false}
use Prim.Native.Nat.{ℕ, ◌+◌, ◌-◌, ◌≤◌}
use native.Mathlib.Omega.{arith}
use Rattle.order.specs.Structure.{Ranked, Renumbering}
use Rattle.order.specs.Diamond.{Frame, Cell}
use Rattle.order.specs.Ends.{InUse, Product, need, together, as_trimmed, as_grown, added_min, added_max}
use Rattle.order.specs.Flags.{Connected, need_thick}
use Rattle.order.proofs.Renumbering.{Renumbering-then, Renumbering-frame, Renumbering-cell}
use Rattle.order.proofs.Pairs.{pair_path, Pairs-renumbered}
use Rattle.order.proofs.Trim.{grow-renumbered, grow-inside, grow-added_min, grow-added_max}
use Rattle.order.proofs.Product.{Product-ranked, Product-frame, Product-cell}
use Rattle.order.proofs.Flags.{Renumbering-connected}
use Rattle.order.proofs.Connected.{Product-connected}
use Rattle.listing.specs.Layers.{Layers, Topped, order}
use Rattle.listing.proofs.Layers.{order_ranked}
use Rattle.product_pairs.specs.Sound.{Sound, Sorted}
use Rattle.product_pairs.specs.Trimmed.{bit, trimmed}
use Rattle.product_pairs.specs.Paired.{El, position}
use Rattle.product_pairs.specs.Product.{used_pairs, layer_product, at}
use Rattle.product_pairs.proofs.Trimmed.{lowered, raised, trimmed_topped, trimmed_sound, trimmed_sorted}
use Rattle.product_pairs.proofs.Trimmed.{trimmed_order, trimmed_order_to}
use Rattle.product_pairs.proofs.Positions.{paired_topped}
use Rattle.product_pairs.proofs.Paired.{paired_sound, paired_sorted, paired_order, paired_order_to}
use Rattle.product_pairs.proofs.Grown.{grown_topped, grown_sound, grown_sorted, grown_top, grown_order}
use Rattle.product_pairs.proofs.Grown.{grown_inside}
use Rattle.product_pairs.proofs.Grown.{grown_added_min, grown_added_max}

-- A pair of elements, as one of what is left of the factors.
abbrev pub kept_pair : (min max : Bool) (A B : Layers) → El × El → (InUse min max (order A) (order B)).Elem
kept_pair min max A B x = (as_trimmed min max (order A) x.0, as_trimmed min max (order B) x.1)

-- The same, as one of the product of the orders.
abbrev pub grown_pair : (min max : Bool) (A B : Layers) → El × El → (Product min max (order A) (order B)).Elem
grown_pair min max A B x = as_grown min max (InUse min max (order A) (order B)) (kept_pair min max A B x)

module _ (min max : Bool) (A B : Layers) where
  pub used_pairs_topped : Topped (used_pairs min max A B)
  used_pairs_topped = paired_topped _ _ (trimmed_topped min max A) (trimmed_topped min max B)

  pub product_topped : Topped (layer_product min max A B)
  unfolding layer_product
  product_topped = grown_topped min max _ used_pairs_topped

  pub product_sound : Sound A → Sound B → Sound (layer_product min max A B)
  unfolding layer_product
  product_sound s_a s_b =
      grown_sound min max _
      (paired_sound _ _ (trimmed_topped min max A) (trimmed_topped min max B) (trimmed_sound min max A s_a)
      (trimmed_sound min max B s_b))

  pub product_sorted : Sound A → Sound B → Sorted A → Sorted B → Sorted (layer_product min max A B)
  unfolding layer_product
  product_sorted s_a s_b o_a o_b =
      grown_sorted min max _
      (paired_sorted _ _ (trimmed_sound min max A s_a) (trimmed_sound min max B s_b) (trimmed_sorted min max A o_a)
      (trimmed_sorted min max B o_b))

-- the flags as numbers add up to how high a factor must be
need_bits : (min max : Bool) → need min max ≡ bit min + bit max
need_bits true true = omega arith
need_bits true false = omega arith
need_bits false true = omega arith
need_bits false false = omega arith

tops : (m n a b : ℕ) → m + n ≤ a → m + n ≤ b → a - m - n + (b - m - n) + m + n ≡ a + b - m - n
tops m n a b p q = omega arith

pub product_top : (min max : Bool) (A B : Layers) → need min max ≤ A.top → need min max ≤ B.top
    → (layer_product min max A B).top ≡ A.top + B.top - bit min - bit max
unfolding layer_product
product_top min max A B p q =
    grown_top min max (used_pairs min max A B)
    ∙ tops (bit min) (bit max) A.top B.top (rw need_bits at p) (rw need_bits at q)

module _ (min max : Bool) (A B : Layers) (t_a : Topped A) (t_b : Topped B) (s_a : Sound A) (s_b : Sound B) where
  used_pairs_order : Renumbering (InUse min max (order A) (order B)) (order (used_pairs min max A B))
  used_pairs_order =
      Renumbering-then (Pairs-renumbered (trimmed_order min max A t_a) (trimmed_order min max B t_b))
      (paired_order _ _ (trimmed_topped min max A) (trimmed_topped min max B) (trimmed_sound min max A s_a)
      (trimmed_sound min max B s_b))

  used_pairs_order_to : (x : El × El) → used_pairs_order.to (kept_pair min max A B x)
      ≡ position (trimmed min max A) (trimmed min max B) (lowered min x.0, lowered min x.1)
  unfolding used_pairs_order Renumbering-then Pairs-renumbered
  used_pairs_order_to x =
      rw (trimmed_order_to min max A t_a x.0, trimmed_order_to min max B t_b x.1, paired_order_to)

  pub product_order : Renumbering (Product min max (order A) (order B)) (order (layer_product min max A B))
  unfolding layer_product
  product_order =
      Renumbering-then (grow-renumbered min max used_pairs_order)
      (grown_order min max (used_pairs min max A B) (used_pairs_topped min max A B))

  -- a pair goes where `at` says
  pub product_order_to : (x : El × El) → product_order.to (grown_pair min max A B x) ≡ at min max A B x
  unfolding product_order Renumbering-then at layer_product
  product_order_to x = rw (grow-inside used_pairs_order min max, grown_inside) (ap (raised min) (used_pairs_order_to x))

-- the added ends go to the ends
pub product_order_min : (max : Bool) (A B : Layers) (t_a : Topped A) (t_b : Topped B) (s_a : Sound A) (s_b : Sound B)
    → (product_order true max A B t_a t_b s_a s_b).to (added_min max (InUse true max (order A) (order B))) ≡ (0, 0)
unfolding product_order Renumbering-then layer_product
product_order_min max A B t_a t_b s_a s_b =
    rw (grow-added_min (used_pairs_order true max A B t_a t_b s_a s_b) max, grown_added_min)

pub product_order_max : (min : Bool) (A B : Layers) (t_a : Topped A) (t_b : Topped B) (s_a : Sound A) (s_b : Sound B)
    → (product_order min true A B t_a t_b s_a s_b).to (added_max min (InUse min true (order A) (order B)))
    ≡ ((layer_product min true A B).top, 0)
unfolding product_order Renumbering-then layer_product
product_order_max min A B t_a t_b s_a s_b =
    rw (grow-added_max (used_pairs_order min true A B t_a t_b s_a s_b) min, grown_added_max)
    (pair_path (omega (arith, grown_top min true (used_pairs min true A B))) refl)

module _ (min max : Bool) (A B : Layers) (t_a : Topped A) (t_b : Topped B) (s_a : Sound A) (s_b : Sound B) where
  r_a : Ranked (order A)
  r_a = order_ranked A t_a

  r_b : Ranked (order B)
  r_b = order_ranked B t_b

  -- products of frames are frames, and products of closed cells are closed cells
  pub product_frame : need min max ≤ A.top → need min max ≤ B.top → Frame false false (order A)
      → Frame false false (order B) → Frame false false (order (layer_product min max A B))
  product_frame p q g_a g_b =
      Renumbering-frame (product_order min max A B t_a t_b s_a s_b) (Product-frame min max r_a r_b p q g_a g_b)

  pub product_cell : need min max ≤ A.top → need min max ≤ B.top → together min max ≤ A.top + B.top
      → Cell false false (order A) → Cell false false (order B) → Cell false false (order (layer_product min max A B))
  product_cell p q h g_a g_b =
      Renumbering-cell (Product-ranked min max r_a r_b) (order_ranked _ (product_topped min max A B))
      (product_order min max A B t_a t_b s_a s_b) (Product-cell min max r_a r_b p q h g_a g_b)

  -- products of connected frames are connected, from the ranks on at which the factors are thick without their ends
  pub product_connected : need_thick min max ≤ A.top → need_thick min max ≤ B.top → Frame false false (order A)
      → Frame false false (order B) → Connected (order A) → Connected (order B)
      → Connected (order (layer_product min max A B))
  product_connected p q g_a g_b c_a c_b =
      Renumbering-connected (Product-ranked min max r_a r_b) (order_ranked _ (product_topped min max A B))
      (product_order min max A B t_a t_b s_a s_b) (Product-connected min max r_a r_b p q g_a g_b c_a c_b)
