-- Layers that say the same of every element. The product of two listings is alike to the product of their layers.
-- Assumes nothing.
use mathlib.Core.Path.{◌≡◌, refl, sym, ◌∙◌}
use mathlib.Core.Logic.Iff
use mathlib.Core.Logic.{◌↔◌}
use mathlib.Core.Bool.{Bool}
use Prim.Native.Nat.{ℕ, suc, ◌<◌}
use Rattle.order.specs.Structure.{Renumbering}
use Rattle.order.proofs.Renumbering.{Renumbering-same}
use Rattle.listing.specs.Listing.{Listing}
use Rattle.listing.specs.Layers.{Layers, layers, order, derived}
use Rattle.listing.proofs.Layers.{gather_same}
use Rattle.listing.proofs.Written.{written_rank}
use Rattle.valid.specs.Derived.{Derived}
use Rattle.product_pairs.specs.Sound.{Listed}
use Rattle.product_pairs.specs.Trimmed.{Used}
use Rattle.product_pairs.specs.Product.{product_of}
use Rattle.product_pairs.proofs.Listings.{product_layers, product_of_count, product_of_subs, product_of_sups}

pub record Alike (M N : Layers) : Type 0 where
  pub same_top : N.top ≡ M.top
  pub same_size : (r : ℕ) → N.size r ≡ M.size r
  pub same_under : (r i : ℕ) → i < M.size r → N.under r i ≡ M.under r i

module _ {M N : Layers} (k : Alike M N) where
  pub alike_derived : (r i : ℕ) → derived N r i ≡ derived M r i
  unfolding derived
  alike_derived r i = rw (k.same_size (suc r)) (gather_same _ _ i (M.size (suc r)) (k.same_under (suc r)))

  pub alike_exists : (x : ℕ × ℕ) → (x.1 < N.size x.0) ↔ (x.1 < M.size x.0)
  alike_exists x = rw (k.same_size x.0) Iff.rfl

  pub alike_used : (min max : Bool) (x : ℕ × ℕ) → Used min max N x ↔ Used min max M x
  alike_used min max x = rw (k.same_size x.0, k.same_top) Iff.rfl

  pub alike_listed : (x y : ℕ × ℕ) → y.1 < M.size y.0 → Listed N x y ↔ Listed M x y
  alike_listed x y e = rw (k.same_under y.0 y.1 e) Iff.rfl

  pub alike_under : (x y : ℕ × ℕ) → (order N).Under x y ↔ (order M).Under x y
  alike_under x y = (
    λ u.
        let e = (alike_exists y).0 u.1 in
        let l = (alike_listed x y e).0 (u.2, u.3) in
        ((alike_exists x).0 u.0, e, l.0, l.1),
    λ u.
        let l = (alike_listed x y u.1).1 (u.2, u.3) in
        ((alike_exists x).1 u.0, (alike_exists y).1 u.1, l.0, l.1),
  )

-- A renumbering of layers is one of those alike to them, with the same maps.
module _ {A M B N : Layers} (a : Alike A M) (b : Alike B N) where
  unfoldable pub alike_renumbered : Renumbering (order A) (order B) → Renumbering (order M) (order N)
  alike_renumbered f = record {
    to = f.to;
    from = f.from;
    to_exists = λ x e. (alike_exists b (f.to x)).1 (f.to_exists x ((alike_exists a x).0 e));
    from_exists = λ y e. (alike_exists a (f.from y)).1 (f.from_exists y ((alike_exists b y).0 e));
    from_to = λ x e. f.from_to x ((alike_exists a x).0 e);
    to_from = λ y e. f.to_from y ((alike_exists b y).0 e);
    to_under = λ x y u. (alike_under b (f.to x) (f.to y)).1 (f.to_under x y ((alike_under a x y).0 u));
    from_under = λ x y u. (alike_under a (f.from x) (f.from y)).1 (f.from_under x y ((alike_under b x y).0 u));
    same_rank = λ x e. f.same_rank x ((alike_exists a x).0 e);
    same_top = b.same_top ∙ f.same_top ∙ sym a.same_top;
  }

-- The same elements, in the same order.
unfoldable pub alike_order : {M N : Layers} → Alike M N → Renumbering (order M) (order N)
alike_order {M} k = alike_renumbered (record {
  same_top = refl;
  same_size = λ r. refl;
  same_under = λ r i h. refl;
}) k (Renumbering-same (order M))

-- ---- the product

module _ (min max : Bool) (A B : Listing) where
  pub product_of_alike : Alike (product_layers min max A B) (layers (product_of min max A B))
  unfolding product_of
  product_of_alike = record {
    same_top = written_rank _ _;
    same_size = product_of_count min max A B;
    same_under = product_of_subs min max A B;
  }

  -- The sups of a product are those derived from its subs.
  pub product_of_derived : Derived (product_of min max A B)
  unfolding Derived
  product_of_derived r i h =
      product_of_sups min max A B r i (rw (product_of_count min max A B r) at h) ∙ sym (alike_derived product_of_alike r i)
