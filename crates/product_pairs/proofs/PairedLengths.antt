-- How long the lists of pairs are: the subs of a pair are as many as those of its members, and so are the sups.
-- Assumes nothing.
use mathlib.Core.Path.{◌≡◌, refl, sym, ap, ◌∙◌, subst}
use Prim.Native.Nat.{ℕ, suc, pred, ◌+◌, ◌-◌, ◌<◌}
use native.Mathlib.Omega.{arith}
use lib.ListN.{length, length-append, length-map}
use Rattle.order.specs.Lists.{In, occurs}
use Rattle.order.specs.Pairs.{Pairs}
use Rattle.order.proofs.Sums.{sum_same}
use Rattle.order.proofs.Lists.{map_in, occurs_none, occurs_append}
use Rattle.listing.specs.Layers.{Layers, order, derived}
use Rattle.listing.proofs.Layers.{derived_length}
use Rattle.product_pairs.specs.Sound.{Sound}
use Rattle.product_pairs.specs.Paired.{El, position, left_subs, right_subs, pair_subs, paired}
use Rattle.product_pairs.specs.Lengths.{rank_subs, paired_subs}
use Rattle.product_pairs.proofs.Sequences.{sum_cross, occurs_map}
use Rattle.product_pairs.proofs.Positions.{position_rank, position_one, paired_under}
use Rattle.product_pairs.proofs.Paired.{left_at, right_at}
use Rattle.product_pairs.proofs.OverPairs.{over_pairs, PairOf, sum_pairs, over_same, over_plus, over_first}
use Rattle.product_pairs.proofs.OverPairs.{over_second}

module _ (A B : Layers) where
  -- what lies under a pair of rank R
  under_at : (R : ℕ) (y : El × El) → PairOf A B R y → (paired A B).under R (position A B y).1 ≡ pair_subs A B y
  under_at R y p =
      subst (λ r. (paired A B).under r (position A B y).1 ≡ pair_subs A B y) (position_rank A B y ∙ p.1)
      (paired_under A B y p.0)

  -- ---- subs

  pair_subs_length : (x : El × El)
      → length (pair_subs A B x) ≡ length (A.under x.0.0 x.0.1) + length (B.under x.1.0 x.1.1)
  unfolding left_subs right_subs
  pair_subs_length x = simp (length-append, length-map)

  pub paired_rank_subs : (R : ℕ) → rank_subs (paired A B) R ≡ paired_subs A B R
  unfolding rank_subs paired_subs
  paired_rank_subs R =
      sum_pairs A B R (λ k. length ((paired A B).under R k))
      ∙ over_same A B R _ (λ y. length (A.under y.0.0 y.0.1) + length (B.under y.1.0 y.1.1))
      (λ y p. ap length (under_at R y p) ∙ pair_subs_length y)
      ∙ sum_same _ _ (suc R) (λ i h. sum_cross _ _ (A.size i) (B.size (R - i)))

-- ---- sups

module _ (A B : Layers) (s_a : Sound A) (s_b : Sound B) (x : El × El) (e : (Pairs (order A) (order B)).Exists x) where
  -- a pair that has x as a sub by its first member, or by its second
  sup_left : (y : El × El) → PairOf A B (suc x.0.0 + x.1.0) y → In (position A B x).1 (left_subs A B y)
      → (y.0.0 ≡ suc x.0.0) × (y.1 ≡ x.1)
  unfolding left_subs Sound
  sup_left y p m =
      let t = map_in _ _ _ m in
      let s = s_a _ _ _ p.0.0 t.1 in
      let z : El × El = ((pred y.0.0, t.0), y.1) in
      let q = position_one A B z x (s.1, p.0.1) e (omega (arith, s.0, p.1)) (sym t.2) in
      (omega (arith, s.0, ap (λ (w : El × El). w.0.0) q), ap (λ (w : El × El). w.1) q)

  sup_right : (y : El × El) → PairOf A B (x.0.0 + suc x.1.0) y → In (position A B x).1 (right_subs A B y)
      → (y.0 ≡ x.0) × (y.1.0 ≡ suc x.1.0)
  unfolding right_subs Sound
  sup_right y p m =
      let t = map_in _ _ _ m in
      let s = s_b _ _ _ p.0.1 t.1 in
      let z : El × El = (y.0, (pred y.1.0, t.0)) in
      let q = position_one A B z x (p.0.0, s.1) e (omega (arith, s.0, p.1)) (sym t.2) in
      (ap (λ (w : El × El). w.0) q, omega (arith, s.0, ap (λ (w : El × El). w.1.0) q))

  -- and it has it as often as that member has the one of x
  left_occurs : (c : ℕ) → c < A.size (suc x.0.0)
      → occurs (position A B x).1 (left_subs A B ((suc x.0.0, c), x.1))
      ≡ occurs x.0.1 (A.under (suc x.0.0) c)
  unfolding left_subs Sound
  left_occurs c h = occurs_map (left_at A B ((suc x.0.0, c), x.1)) x.0.1 (A.under (suc x.0.0) c) one
    where
      one : (d : ℕ) → In d (A.under (suc x.0.0) c) → (position A B ((x.0.0, d), x.1)).1 ≡ (position A B x).1
          → d ≡ x.0.1
      one d m q =
          let p = position_one A B ((x.0.0, d), x.1) x ((s_a _ _ _ h m).1, e.1) e refl q in
          ap (λ (w : El × El). w.0.1) p

  right_occurs : (c : ℕ) → c < B.size (suc x.1.0)
      → occurs (position A B x).1 (right_subs A B (x.0, (suc x.1.0, c)))
      ≡ occurs x.1.1 (B.under (suc x.1.0) c)
  unfolding right_subs Sound
  right_occurs c h = occurs_map (right_at A B (x.0, (suc x.1.0, c))) x.1.1 (B.under (suc x.1.0) c) one
    where
      one : (d : ℕ) → In d (B.under (suc x.1.0) c) → (position A B (x.0, (x.1.0, d))).1 ≡ (position A B x).1
          → d ≡ x.1.1
      one d m q =
          let p = position_one A B (x.0, (x.1.0, d)) x (e.0, (s_b _ _ _ h m).1) e refl q in
          ap (λ (w : El × El). w.1.1) p

  -- the sups of a pair by the first member, and by the second
  left_sups : over_pairs A B (suc (x.0.0 + x.1.0)) (λ y. occurs (position A B x).1 (left_subs A B y))
      ≡ length (derived A x.0.0 x.0.1)
  left_sups =
      let r : suc (x.0.0 + x.1.0) ≡ suc x.0.0 + x.1.0 = omega arith in
      rw r (over_first A B _ (suc x.0.0) x.1 e.1 (λ y p d. (occurs_none _ _).1 (λ m. d (sup_left y p m))))
      ∙ sum_same _ _ (A.size (suc x.0.0)) left_occurs ∙ sym (derived_length A x.0.0 x.0.1)

  right_sups : over_pairs A B (suc (x.0.0 + x.1.0)) (λ y. occurs (position A B x).1 (right_subs A B y))
      ≡ length (derived B x.1.0 x.1.1)
  right_sups =
      let r : suc (x.0.0 + x.1.0) ≡ x.0.0 + suc x.1.0 = omega arith in
      rw r (over_second A B _ x.0 (suc x.1.0) e.0 (λ y p d. (occurs_none _ _).1 (λ m. d (sup_right y p m))))
      ∙ sum_same _ _ (B.size (suc x.1.0)) right_occurs ∙ sym (derived_length B x.1.0 x.1.1)

  -- a pair has the sups of both members
  pub paired_sups : length (derived (paired A B) (x.0.0 + x.1.0) (position A B x).1)
      ≡ length (derived A x.0.0 x.0.1) + length (derived B x.1.0 x.1.1)
  paired_sups =
      let k = (position A B x).1 in
      let R = suc (x.0.0 + x.1.0) in
      derived_length (paired A B) (x.0.0 + x.1.0) k ∙ sum_pairs A B R (λ c. occurs k ((paired A B).under R c))
      ∙ over_same A B R _ (λ y. occurs k (left_subs A B y) + occurs k (right_subs A B y))
      (λ y p. ap (occurs k) (under_at A B R y p) ∙ occurs_append k (left_subs A B y) (right_subs A B y))
      ∙ over_plus A B R (λ y. occurs k (left_subs A B y)) (λ y. occurs k (right_subs A B y))
      ∙ omega (arith, left_sups, right_sups)
