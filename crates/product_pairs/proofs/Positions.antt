-- Where a pair of elements stands among all pairs of its rank, and which pair stands where.
-- Assumes nothing.
use mathlib.Core.Path.{◌≡◌, refl, sym, ap, ◌∙◌}
use Prim.Native.Nat.{ℕ, suc, ◌+◌, ◌-◌, ◌*◌, ◌<◌}
use native.Mathlib.Nat.{mod-lt, div-lt_iff_lt-mul, div-add-mod', mul-zero, zero-mul}
use native.Mathlib.Decide.{dec_lt}
use native.Mathlib.Omega.{arith}
use lib.Arith.{digits_lt, digits_div, digits_mod}
use Rattle.order.specs.Sums.{part_at}
use Rattle.order.specs.Pairs.{Pairs}
use Rattle.order.proofs.Sums.{sum_lt, sum_zero, part_ok, part_at_lem, part_pos}
use Rattle.order.proofs.Pairs.{pair_path}
use Rattle.listing.specs.Layers.{Layers, Topped, order}
use Rattle.product_pairs.specs.Paired.{El, block, offset, position, pair_of, pair_at, pair_subs, paired}

module _ (A B : Layers) where
  -- the place of a pair in its block
  pub in_block : (i a j b : ℕ) → a < A.size i → b < B.size j → a * B.size j + b < block A B (i + j) i
  unfolding block
  in_block i a j b ha hb =
      let e : i + j - i ≡ j = omega arith in
      rw e (digits_lt ha hb)

  pub position_rank : (x : El × El) → (position A B x).0 ≡ x.0.0 + x.1.0
  unfolding position
  position_rank x = refl

  pub position_exists : (x : El × El) → (Pairs (order A) (order B)).Exists x
      → (order (paired A B)).Exists (position A B x)
  unfolding position offset
  position_exists x e =
      let R = x.0.0 + x.1.0 in
      sum_lt (block A B R) x.0.0 (suc R) _ (omega arith) (in_block _ _ _ _ e.0 e.1)

  pub pair_at_exists : (y : El) → (order (paired A B)).Exists y → (Pairs (order A) (order B)).Exists (pair_at A B y)
  unfolding pair_at pair_of block
  pair_at_exists y h =
      let p = part_ok (block A B y.0) (suc y.0) y.1 h in
      let c = part_pos _ _ _ p.1 in
      ((div-lt_iff_lt-mul c).1 p.1, mod-lt _ c)

  pub pair_at_position : (x : El × El) → (Pairs (order A) (order B)).Exists x → pair_at A B (position A B x) ≡ x
  unfolding pair_at position pair_of offset
  pair_at_position x e =
      let i = x.0.0 in
      let j = x.1.0 in
      let d : i + j - i ≡ j = omega arith in
      let k = x.0.1 * B.size j + x.1.1 in
      let p = part_at_lem (block A B (i + j)) (suc (i + j)) i k (omega arith) (in_block i _ j _ e.0 e.1) in
      ap (pair_of B (i + j)) p ∙ rw (d, digits_div x.0.1 e.1, digits_mod x.0.1 e.1)

  pub position_pair_at : (y : El) → (order (paired A B)).Exists y → position A B (pair_at A B y) ≡ y
  unfolding pair_at pair_of position offset
  position_pair_at y h =
      let f = block A B y.0 in
      let p = part_at f (suc y.0) y.1 in
      let o = part_ok f (suc y.0) y.1 h in
      let d : p.0 + (y.0 - p.0) ≡ y.0 = omega arith in
      pair_path d (rw (d, div-add-mod' p.1 (B.size (y.0 - p.0))) (sym o.2))

  pub pair_at_rank : (y : El) → (order (paired A B)).Exists y → (pair_at A B y).0.0 + (pair_at A B y).1.0 ≡ y.0
  unfolding position
  pair_at_rank y h = ap (λ (t : El). t.0) (position_pair_at y h)

  -- an element that stands where a pair does is that pair
  pub pair_at_found : (y : El) (x : El × El) → (Pairs (order A) (order B)).Exists x → x.0.0 + x.1.0 ≡ y.0
      → y.1 ≡ (position A B x).1 → pair_at A B y ≡ x
  unfolding position
  pair_at_found y x e r k = ap (pair_at A B) (pair_path (sym r) k) ∙ pair_at_position x e

  -- two pairs of one rank do not stand at one place
  pub position_one : (x y : El × El) → (Pairs (order A) (order B)).Exists x → (Pairs (order A) (order B)).Exists y
      → x.0.0 + x.1.0 ≡ y.0.0 + y.1.0 → (position A B x).1 ≡ (position A B y).1 → x ≡ y
  position_one x y ex ey r k =
      sym (pair_at_position x ex) ∙ pair_at_found (position A B x) y ey (sym (position_rank x ∙ r)) k

  -- what lies under the pair that stands there
  pub paired_under : (x : El × El) → (Pairs (order A) (order B)).Exists x
      → (paired A B).under (position A B x).0 (position A B x).1 ≡ pair_subs A B x
  paired_under x e = ap (pair_subs A B) (pair_at_position x e)

  pub paired_topped : Topped A → Topped B → Topped (paired A B)
  unfolding Topped block
  paired_topped t_a t_b R h = sum_zero (block A B R) (suc R) (λ i l. go i (dec_lt A.top i))
    where
      go : (i : ℕ) → Dec (A.top < i) → A.size i * B.size (R - i) ≡ 0
      go i (yes l) = rw (t_a i l, zero-mul)
      go i (no l) = rw (t_b (R - i) (omega arith), mul-zero)
