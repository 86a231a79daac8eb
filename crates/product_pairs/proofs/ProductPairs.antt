-- The elements of a product, apart from the added ends, match the pairs in use one to one; one lies directly under
-- another exactly if one member of the pairs is equal and the other directly under.
-- Assumes nothing.
use mathlib.Core.Path.{◌≡◌, sym, ap, ◌∙◌, subst}
use mathlib.Core.Logic.Iff
use mathlib.Core.Logic.{◌↔◌}
use mathlib.Core.Bool.{Bool}
use Rattle.order.specs.Structure.{Renumbering}
use Rattle.order.specs.Pairs.{Step, left, right}
use Rattle.order.specs.Ends.{trim, InUse, Product, as_trimmed}
use Rattle.order.proofs.Renumbering.{Renumbering-then}
use Rattle.order.proofs.Pairs.{pair_path}
use Rattle.order.proofs.Trim.{trim-renumbered, trim-inside, grow-inside_exists}
use Rattle.order.proofs.Product.{Product-ranked, Product-pairs, Product-pairs-to}
use Rattle.listing.specs.Layers.{Layers, Topped, order}
use Rattle.listing.proofs.Layers.{order_ranked}
use Rattle.product_pairs.specs.Sound.{Sound, Listed}
use Rattle.product_pairs.specs.Trimmed.{Used}
use Rattle.product_pairs.specs.Paired.{El}
use Rattle.product_pairs.specs.Product.{layer_product, UsedPair, at}
use Rattle.product_pairs.proofs.Kept.{whole, kept_whole, whole_kept}
use Rattle.product_pairs.proofs.Trimmed.{used_exists, used_under}
use Rattle.product_pairs.proofs.Product.{kept_pair, grown_pair, product_topped, product_order, product_order_to}

-- Where a pair stands, as an element of what is left of the product.
abbrev placed : (min max : Bool) (A B : Layers) → El × El → (trim min max (order (layer_product min max A B))).Elem
placed min max A B x = as_trimmed min max (order (layer_product min max A B)) (at min max A B x)

-- A step between two pairs, as pairs of what is left.
abbrev KeptStep : Bool → Bool → Layers → Layers → El × El → El × El → Type 0
KeptStep min max A B x y =
    let R = (trim min max (order A)).Under in
    let S = (trim min max (order B)).Under in
    Step R S (kept_pair min max A B x) (kept_pair min max A B y)

kept_same : (min max : Bool) (M : Layers) (x y : El)
    → as_trimmed min max (order M) x ≡ as_trimmed min max (order M) y → x ≡ y
kept_same min max M x y e =
    sym (whole_kept min max (order M) x) ∙ ap (whole min max (order M)) e ∙ whole_kept min max (order M) y

module _ (min max : Bool) (A B : Layers) (t_a : Topped A) (t_b : Topped B) (s_a : Sound A) (s_b : Sound B) where
  product_pairs : Renumbering (InUse min max (order A) (order B)) (trim min max (order (layer_product min max A B)))
  product_pairs =
      let r_a = order_ranked A t_a in
      let r_b = order_ranked B t_b in
      Renumbering-then (Product-pairs min max r_a r_b (0, 0) (0, 0))
      (trim-renumbered min max (Product-ranked min max r_a r_b) (order_ranked _ (product_topped min max A B))
      (product_order min max A B t_a t_b s_a s_b))

  -- its map is `at`
  product_pairs_to : (x : El × El) → product_pairs.to (kept_pair min max A B x) ≡ placed min max A B x
  unfolding product_pairs Renumbering-then
  product_pairs_to x = rw (Product-pairs-to, trim-inside, product_order_to)

  -- ---- the same in plain numbers

  pub kept_pair_exists : (x : El × El)
      → (InUse min max (order A) (order B)).Exists (kept_pair min max A B x) ↔ UsedPair min max A B x
  kept_pair_exists x = Iff.and (used_exists min max A t_a x.0) (used_exists min max B t_b x.1)

  -- a pair in use is there in the product of the orders
  pub grown_pair_exists : (x : El × El) → UsedPair min max A B x
      → (Product min max (order A) (order B)).Exists (grown_pair min max A B x)
  grown_pair_exists x u =
      grow-inside_exists min max (InUse min max (order A) (order B)) _ ((kept_pair_exists x).1 u)

  -- where a pair in use stands there is an element, and no added one
  pub at_used : (x : El × El) → UsedPair min max A B x → Used min max (layer_product min max A B) (at min max A B x)
  at_used x u =
      (used_exists min max _ (product_topped min max A B) (at min max A B x)).0
      (rw product_pairs_to at (product_pairs.to_exists _ ((kept_pair_exists x).1 u)))

  -- the pair that stands at an element, as one of what is left of the factors
  abbrev back : El → (InUse min max (order A) (order B)).Elem
  back y = product_pairs.from (as_trimmed min max (order (layer_product min max A B)) y)

  at_back : (x : El × El) → UsedPair min max A B x → back (at min max A B x) ≡ kept_pair min max A B x
  at_back x u = ap product_pairs.from (sym (product_pairs_to x)) ∙ product_pairs.from_to _ ((kept_pair_exists x).1 u)

  -- two pairs in use do not stand at one place
  pub at_one : (x y : El × El) → UsedPair min max A B x → UsedPair min max A B y
      → at min max A B x ≡ at min max A B y → x ≡ y
  at_one x y p q e =
      let k = sym (at_back x p) ∙ ap back e ∙ at_back y q in
      pair_path (kept_same min max A _ _ (ap (λ z. z.0) k)) (kept_same min max B _ _ (ap (λ z. z.1) k))

  -- a pair of elements that are left, as a pair of elements
  whole_pair : (InUse min max (order A) (order B)).Elem → El × El
  whole_pair z = (whole min max (order A) z.0, whole min max (order B) z.1)

  kept_whole_pair : (z : (InUse min max (order A) (order B)).Elem) → kept_pair min max A B (whole_pair z) ≡ z
  unfolding whole_pair
  kept_whole_pair z = pair_path (kept_whole min max (order A) z.0) (kept_whole min max (order B) z.1)

  -- every element that is no added one is where a pair in use stands
  pub at_onto : (y : El) → Used min max (layer_product min max A B) y
      → (x : El × El) × UsedPair min max A B x × (at min max A B x ≡ y)
  at_onto y u =
      let P = layer_product min max A B in
      let k = (used_exists min max P (product_topped min max A B) y).1 u in
      let e = kept_whole_pair (back y) in
      let x = whole_pair (back y) in
      let to = sym (product_pairs_to x) ∙ ap product_pairs.to e ∙ product_pairs.to_from _ k in
      let there = subst (InUse min max (order A) (order B)).Exists (sym e) (product_pairs.from_exists _ k) in
      (x, (kept_pair_exists x).0 there, kept_same min max P _ y to)

  step_kept : (x y : El × El) → UsedPair min max A B x → UsedPair min max A B y
      → Step (Listed A) (Listed B) x y → KeptStep min max A B x y
  step_kept x y p q (left l e) =
      left ((used_under min max A t_a _ _ p.0 q.0).1 l) (ap (as_trimmed min max (order B)) e)
  step_kept x y p q (right e l) =
      right (ap (as_trimmed min max (order A)) e) ((used_under min max B t_b _ _ p.1 q.1).1 l)

  step_listed : (x y : El × El) → UsedPair min max A B x → UsedPair min max A B y
      → KeptStep min max A B x y → Step (Listed A) (Listed B) x y
  step_listed x y p q (left u e) =
      left ((used_under min max A t_a x.0 y.0 p.0 q.0).0 u) (kept_same min max B x.1 y.1 e)
  step_listed x y p q (right e u) =
      right (kept_same min max A x.0 y.0 e) ((used_under min max B t_b x.1 y.1 p.1 q.1).0 u)

  -- a pair in use lies directly under another exactly if one member is equal and the other directly under
  pub at_under : (x y : El × El) → UsedPair min max A B x → UsedPair min max A B y
      → Listed (layer_product min max A B) (at min max A B x) (at min max A B y) ↔ Step (Listed A) (Listed B) x y
  at_under x y p q =
      let k = used_under min max _ (product_topped min max A B) _ _ (at_used x p) (at_used y q) in
      Iff.trans (Iff.symm k) (to, from)
    where
      to : (trim min max (order (layer_product min max A B))).Under (placed min max A B x) (placed min max A B y)
          → Step (Listed A) (Listed B) x y
      to u =
          let v = rw (at_back x p, at_back y q) at (product_pairs.from_under _ _ u) in
          step_listed x y p q v.2

      from : Step (Listed A) (Listed B) x y
          → (trim min max (order (layer_product min max A B))).Under (placed min max A B x) (placed min max A B y)
      from s =
          let k = (kept_pair_exists x).1 p in
          let l = (kept_pair_exists y).1 q in
          rw (product_pairs_to x, product_pairs_to y) at (product_pairs.to_under _ _ (k, l, step_kept x y p q s))
