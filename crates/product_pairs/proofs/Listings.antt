-- The product of two listings says what the product of their layers says. Its rank; and it is closed, or connected,
-- where they are.
-- Assumes nothing.
use mathlib.Core.Path.{◌≡◌, refl, ◌∙◌}
use mathlib.Core.List.{List}
use mathlib.Core.Bool.{Bool, false}
use Prim.Native.Nat.{ℕ, suc, ◌+◌, ◌-◌, ◌≤◌, ◌<◌}
use Rattle.order.specs.Sums.{sum}
use Rattle.order.specs.Structure.{Renumbering}
use Rattle.order.specs.Diamond.{Frame, Cell}
use Rattle.order.specs.Ends.{need, together}
use Rattle.order.specs.Flags.{Connected, need_thick}
use Rattle.order.proofs.Renumbering.{Renumbering-frame, Renumbering-cell}
use Rattle.order.proofs.Flags.{Renumbering-connected}
use Rattle.listing.specs.Listing.{Listing, Limits, rank, count, subs, sups}
use Rattle.listing.specs.Shape.{Shaped}
use Rattle.listing.specs.Layers.{Layers, Topped, layers, order, derived}
use Rattle.listing.specs.Written.{written}
use Rattle.listing.proofs.Layers.{layers_topped, order_ranked}
use Rattle.listing.proofs.Written.{written_rank, written_count, written_subs, written_sups, total, written_shaped}
use Rattle.product_pairs.specs.Sound.{Sound, Sorted}
use Rattle.product_pairs.specs.Trimmed.{bit}
use Rattle.product_pairs.specs.Product.{layer_product, product_of}
use Rattle.product_pairs.proofs.Product.{product_topped, product_top, product_sound, product_sorted}
use Rattle.product_pairs.proofs.Product.{product_frame, product_cell, product_connected}

-- ---- layers written out

module _ (M : Layers) (above : ℕ → ℕ → List ℕ) (t : Topped M) where
  written_exists : (r i : ℕ) → i < M.size r → i < count (written M above) r
  written_exists r i h = rw (written_count M above t r) h

  exists_written : (r i : ℕ) → i < count (written M above) r → i < M.size r
  exists_written r i h = rw (written_count M above t r) at h

  -- the same elements, and the same order
  written_order : Renumbering (order M) (order (layers (written M above)))
  written_order = record {
    to = λ x. x;
    from = λ x. x;
    to_exists = λ x e. written_exists x.0 x.1 e;
    from_exists = λ x e. exists_written x.0 x.1 e;
    from_to = λ x e. refl;
    to_from = λ x e. refl;
    to_under = λ x y u. (
      written_exists x.0 x.1 u.0,
      written_exists y.0 y.1 u.1,
      u.2,
      rw (written_subs M above t y.0 y.1 u.1) u.3,
    );
    from_under = λ x y u.
        let k = exists_written y.0 y.1 u.1 in
        (exists_written x.0 x.1 u.0, k, u.2, rw (written_subs M above t y.0 y.1 k) at u.3);
    same_rank = λ x e. refl;
    same_top = written_rank M above;
  }

  written_sound : Sound M → Sound (layers (written M above))
  unfolding Sound
  written_sound s r b a h m =
      let k = exists_written r b h in
      let z = s r b a k (rw (written_subs M above t r b k) at m) in
      (z.0, written_exists _ a z.1)

  written_sorted : Sorted M → Sorted (layers (written M above))
  unfolding Sorted
  written_sorted s r b h = let k = exists_written r b h in rw (written_subs M above t r b k) (s r b k)

-- ---- the product

-- The product of what two listings say.
abbrev pub product_layers : Bool → Bool → Listing → Listing → Layers
product_layers min max A B = layer_product min max (layers A) (layers B)

module _ (min max : Bool) (A B : Listing) where
  topped : Topped (product_layers min max A B)
  topped = product_topped min max (layers A) (layers B)

  pub product_of_count : (r : ℕ) → count (product_of min max A B) r ≡ (product_layers min max A B).size r
  unfolding product_of
  product_of_count r = written_count _ _ topped r

  pub product_of_subs : (r i : ℕ) → i < (product_layers min max A B).size r
      → subs (product_of min max A B) r i ≡ (product_layers min max A B).under r i
  unfolding product_of
  product_of_subs r i h = written_subs _ _ topped r i h

  pub product_of_sups : (r i : ℕ) → i < (product_layers min max A B).size r
      → sups (product_of min max A B) r i ≡ derived (product_layers min max A B) r i
  unfolding product_of
  product_of_sups r i h = written_sups _ _ topped r i h

  -- the rank, for factors that are high enough
  pub product_of_rank : need min max ≤ rank A → need min max ≤ rank B
      → rank (product_of min max A B) ≡ rank A + rank B - bit min - bit max
  unfolding product_of
  product_of_rank p q =
      written_rank (product_layers min max A B) (derived (product_layers min max A B))
      ∙ product_top min max (layers A) (layers B) p q

  -- within the limits it has a good shape
  pub product_of_shaped : (m : Limits) → suc (product_layers min max A B).top ≤ m.ranks
      → sum (product_layers min max A B).size (suc (product_layers min max A B).top) ≤ m.elements
      → total (product_layers min max A B) (derived (product_layers min max A B)) ≤ m.incidences
      → Shaped m (product_of min max A B)
  unfolding product_of
  product_of_shaped m = written_shaped _ _ topped m

  product_of_order : Renumbering (order (product_layers min max A B)) (order (layers (product_of min max A B)))
  unfolding product_of
  product_of_order = written_order _ _ topped

module _ (min max : Bool) (A B : Listing) (s_a : Sound (layers A)) (s_b : Sound (layers B)) where
  pub product_of_sound : Sound (layers (product_of min max A B))
  unfolding product_of
  product_of_sound = written_sound _ _ (topped min max A B) (product_sound min max (layers A) (layers B) s_a s_b)

  pub product_of_sorted : Sorted (layers A) → Sorted (layers B) → Sorted (layers (product_of min max A B))
  unfolding product_of
  product_of_sorted o_a o_b =
      written_sorted _ _ (topped min max A B) (product_sorted min max (layers A) (layers B) s_a s_b o_a o_b)

  pub product_of_frame : need min max ≤ rank A → need min max ≤ rank B → Frame false false (order (layers A))
      → Frame false false (order (layers B)) → Frame false false (order (layers (product_of min max A B)))
  product_of_frame p q g_a g_b =
      Renumbering-frame (product_of_order min max A B)
      (product_frame min max (layers A) (layers B) (layers_topped A) (layers_topped B) s_a s_b p q g_a g_b)

  pub product_of_cell : need min max ≤ rank A → need min max ≤ rank B → together min max ≤ rank A + rank B
      → Cell false false (order (layers A)) → Cell false false (order (layers B))
      → Cell false false (order (layers (product_of min max A B)))
  product_of_cell p q h g_a g_b =
      Renumbering-cell (order_ranked _ (topped min max A B))
      (order_ranked _ (layers_topped (product_of min max A B))) (product_of_order min max A B)
      (product_cell min max (layers A) (layers B) (layers_topped A) (layers_topped B) s_a s_b p q h g_a g_b)

  pub product_of_connected : need_thick min max ≤ rank A → need_thick min max ≤ rank B
      → Frame false false (order (layers A)) → Frame false false (order (layers B)) → Connected (order (layers A))
      → Connected (order (layers B)) → Connected (order (layers (product_of min max A B)))
  product_of_connected p q g_a g_b c_a c_b =
      Renumbering-connected (order_ranked _ (topped min max A B))
      (order_ranked _ (layers_topped (product_of min max A B))) (product_of_order min max A B)
      (product_connected min max (layers A) (layers B) (layers_topped A) (layers_topped B) s_a s_b p q g_a g_b c_a c_b)
