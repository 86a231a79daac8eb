-- The diamond of a listing, said of indices, and the diamond of its order, said of elements, are one rule.
-- Assumes nothing.
use mathlib.Core.Path.{◌≡◌, refl, sym, ap, ◌∙◌}
use mathlib.Core.Logic.{◌↔◌}
use Prim.Native.Nat.{ℕ, suc, pred, ◌-◌, ◌<◌}
use native.Mathlib.Numerals.{sub-one}
use native.Mathlib.Omega.{arith}
use Rattle.order.specs.Diamond.{OneOther, Between, Diamond}
use Rattle.order.proofs.Renumbering.{OneOther-map}
use Rattle.order.proofs.Pairs.{pair_path}
use Rattle.listing.specs.Listing.{Listing, rank, count}
use Rattle.listing.specs.Layers.{layers, order}
use Rattle.listing.proofs.Layers.{layers_topped, in_range}
use Rattle.valid_diamond.specs.Dyadic.{LiesBetween, DiamondUpTo, DiamondAt}
use Rattle.product_pairs.specs.Sound.{Sound}

-- ---- between two elements that lie two ranks apart

module _ (L : Listing) (s : Sound (layers L)) (x z : ℕ × ℕ) (ex : x.1 < count L x.0) (ez : z.1 < count L z.0)
    (apart : z.0 ≡ suc (suc x.0)) where
  -- what lies between them by its index, and as an element
  abbrev ByIndex : ℕ → Type 0
  ByIndex = LiesBetween L z.0 z.1 x.1

  abbrev ByElement : ℕ × ℕ → Type 0
  ByElement = Between (order (layers L)) x z

  index_element : (w : ℕ) → ByIndex w → ByElement (suc x.0, w)
  unfolding Sound
  index_element w b =
      let e : z.0 - 1 ≡ suc x.0 = omega arith in
      let k : w < count L (suc x.0) = rw (← sub-one z.0, e) at (s z.0 z.1 w ez b.0).1 in
      ((ex, k, refl, rw e at b.1), (k, ez, apart, b.0))

  element_index : (w : ℕ × ℕ) → ByElement w → ByIndex w.1 × (w.0 ≡ suc x.0)
  element_index w b =
      let e : z.0 - 1 ≡ w.0 = omega (arith, b.1.2) in
      ((b.1.3, rw e b.0.3), b.0.2)

  index_other : (y : ℕ × ℕ) → ByElement y → OneOther ByIndex y.1 → OneOther ByElement y
  index_other y b o =
      let k = element_index y b in
      OneOther-map ByIndex ByElement (λ w. (suc x.0, w)) y.1 y index_element
      (λ w q. let l = element_index w q in (w.1, l.0, pair_path l.1 refl))
      (λ v w p q e. ap (λ (i : ℕ × ℕ). i.1) e) k.0 (pair_path (sym k.1) refl) o

  element_other : (y : ℕ) → ByIndex y → OneOther ByElement (suc x.0, y) → OneOther ByIndex y
  element_other y b o =
      OneOther-map ByElement ByIndex (λ w. w.1) (suc x.0, y) y (λ w q. (element_index w q).0)
      (λ w q. ((suc x.0, w), index_element w q, refl))
      (λ v w p q e. pair_path ((element_index v p).1 ∙ sym (element_index w q).1) e) (index_element y b) refl o

-- ---- the two rules

module _ (L : Listing) (s : Sound (layers L)) where
  index_diamond : DiamondUpTo L (rank L) → Diamond (order (layers L))
  unfolding Diamond DiamondUpTo DiamondAt
  index_diamond d x y z u v =
      let e : z.0 ≡ suc (suc x.0) = omega (arith, u.2, v.2) in
      let h = in_range (layers L) (layers_topped L) z.0 z.1 v.1 in
      let b = (element_index L s x z u.0 v.1 e y (u, v)).0 in
      index_other L s x z u.0 v.1 e y (u, v)
      (d z.0 (omega arith) h z.1 x.1 y.1 v.1 b)

  element_diamond : Diamond (order (layers L)) → DiamondUpTo L (rank L)
  unfolding Diamond DiamondUpTo DiamondAt Sound
  element_diamond d r low high i x j h b =
      let e : r ≡ suc (suc (r - 2)) = omega arith in
      let f : pred (r - 1) ≡ r - 2 = omega arith in
      let k : j < count L (r - 1) = rw (← sub-one r) at (s r i j h b.0).1 in
      let l : x < count L (r - 2) = rw f at (s (r - 1) j x k b.1).1 in
      let c = index_element L s (r - 2, x) (r, i) l h e j b in
      element_other L s (r - 2, x) (r, i) l h e j b (d (r - 2, x) (suc (r - 2), j) (r, i) c.0 c.1)

-- A listing whose lists are sound has the diamond up to its maximal element exactly if its order has it.
pub diamond_same : (L : Listing) → Sound (layers L) → DiamondUpTo L (rank L) ↔ Diamond (order (layers L))
diamond_same L s = (index_diamond L s, element_diamond L s)
