-- All pairs of the elements of two layers: their order is that of pairs, and their lists stay sound and sorted.
-- Assumes nothing.
use mathlib.Core.Path.{◌≡◌, refl, sym, subst}
use mathlib.Core.Logic.{⊎_elim}
use Prim.Native.Nat.{ℕ, pred, ◌+◌, ◌≤◌, ◌<◌}
use native.Mathlib.Nat.{mul-lt-mul_of_pos_right}
use native.Mathlib.Omega.{arith}
use Rattle.order.specs.Lists.{In, Ascending}
use Rattle.order.specs.Sums.{sum}
use Rattle.order.specs.Structure.{Ranked, Renumbering}
use Rattle.order.specs.Pairs.{Step, left, right, Pairs}
use Rattle.order.proofs.Lists.{in_left, in_right, append_in, in_map, map_in, ascending_append, ascending_map}
use Rattle.order.proofs.Sums.{sum_lt}
use Rattle.order.proofs.Pairs.{pair_path, Pairs-ranked}
use Rattle.listing.specs.Layers.{Layers, Topped, order}
use Rattle.listing.proofs.Layers.{order_ranked}
use Rattle.product_pairs.specs.Sound.{Sound, Sorted}
use Rattle.product_pairs.specs.Paired.{El, block, offset, position, pair_at, left_subs, right_subs, pair_subs, paired}
use Rattle.product_pairs.proofs.Positions.{in_block, position_rank, position_exists, pair_at_exists}
use Rattle.product_pairs.proofs.Positions.{pair_at_position, position_pair_at, pair_at_rank, pair_at_found}

-- Where a pair stands with another first, or second, member: an element with index a, a rank below the pair's own.
abbrev pub left_at : Layers → Layers → El × El → ℕ → ℕ
left_at A B y a = (position A B ((pred y.0.0, a), y.1)).1

abbrev pub right_at : Layers → Layers → El × El → ℕ → ℕ
right_at A B y b = (position A B (y.0, (pred y.1.0, b))).1

module _ (A B : Layers) where
  in_left_subs : (x y : El × El) → (order A).Under x.0 y.0 → x.1 ≡ y.1 → In (position A B x).1 (left_subs A B y)
  unfolding left_subs
  in_left_subs x y u e =
      let p : pred y.0.0 ≡ x.0.0 = omega (arith, u.2) in
      let q : ((pred y.0.0, x.0.1), y.1) ≡ x = pair_path (pair_path p refl) (sym e) in
      subst (λ t. In (position A B t).1 (left_subs A B y)) q (in_map (left_at A B y) x.0.1 _ u.3)

  in_right_subs : (x y : El × El) → x.0 ≡ y.0 → (order B).Under x.1 y.1 → In (position A B x).1 (right_subs A B y)
  unfolding right_subs
  in_right_subs x y e u =
      let p : pred y.1.0 ≡ x.1.0 = omega (arith, u.2) in
      let q : (y.0, (pred y.1.0, x.1.1)) ≡ x = pair_path (sym e) (pair_path p refl) in
      subst (λ t. In (position A B t).1 (right_subs A B y)) q (in_map (right_at A B y) x.1.1 _ u.3)

  -- a pair a step below another is listed there
  in_pair_subs : (x y : El × El) → Step (order A).Under (order B).Under x y → In (position A B x).1 (pair_subs A B y)
  in_pair_subs x y (left u e) = in_left _ (left_subs A B y) (right_subs A B y) (in_left_subs x y u e)
  in_pair_subs x y (right e u) = in_right _ (left_subs A B y) (right_subs A B y) (in_right_subs x y e u)

-- A sub of a pair, as the position of a pair a step below it.
abbrev SubPair : Layers → Layers → El × El → ℕ → Type 0
SubPair A B y k = (x : El × El) × (Pairs (order A) (order B)).Under x y × (k ≡ (position A B x).1)

module _ (A B : Layers) (t_a : Topped A) (t_b : Topped B) (s_a : Sound A) (s_b : Sound B) where
  ranked : Ranked (Pairs (order A) (order B))
  ranked = Pairs-ranked (order_ranked A t_a) (order_ranked B t_b)

  left_subs_in : (y : El × El) (k : ℕ) → (Pairs (order A) (order B)).Exists y → In k (left_subs A B y) → SubPair A B y k
  unfolding left_subs Sound
  left_subs_in y k e m =
      let t = map_in _ k _ m in
      let s = s_a _ _ _ e.0 t.1 in
      let x : El × El = ((pred y.0.0, t.0), y.1) in
      (x, ((s.1, e.1), e, left (s.1, e.0, omega (arith, s.0), t.1) refl), t.2)

  right_subs_in : (y : El × El) (k : ℕ) → (Pairs (order A) (order B)).Exists y → In k (right_subs A B y) → SubPair A B y k
  unfolding right_subs Sound
  right_subs_in y k e m =
      let t = map_in _ k _ m in
      let s = s_b _ _ _ e.1 t.1 in
      let x : El × El = (y.0, (pred y.1.0, t.0)) in
      (x, ((e.0, s.1), e, right refl (s.1, e.1, omega (arith, s.0), t.1)), t.2)

  pair_subs_in : (y : El × El) (k : ℕ) → (Pairs (order A) (order B)).Exists y → In k (pair_subs A B y) → SubPair A B y k
  pair_subs_in y k e m =
      ⊎_elim (left_subs_in y k e) (right_subs_in y k e) (append_in k (left_subs A B y) (right_subs A B y) m)

  pub paired_sound : Sound (paired A B)
  unfolding Sound
  paired_sound R k a h m =
      go (pair_at A B (R, k)) (pair_at_rank A B (R, k) h) (pair_subs_in _ a (pair_at_exists A B (R, k) h) m)
    where
      go : (y : El × El) → y.0.0 + y.1.0 ≡ R → SubPair A B y a → (0 < R) × (a < (paired A B).size (pred R))
      go y e t =
          let r = ranked.step t.0 y t.1 in
          let p : t.0.0.0 + t.0.1.0 ≡ pred R = omega arith in
          (omega arith, rw (t.2, ← p) (rw (position_rank A B t.0) at (position_exists A B t.0 t.1.0)))

  -- a step between pairs is one between their positions, and back
  position_under : (x y : El × El) → (Pairs (order A) (order B)).Under x y
      → (order (paired A B)).Under (position A B x) (position A B y)
  unfolding position
  position_under x y u =
      let m = in_pair_subs A B x y u.2 in (
        position_exists A B x u.0,
        position_exists A B y u.1,
        ranked.step x y u,
        rw (pair_at_position A B y u.1) m,
      )

  pair_at_under : (x y : El) → (order (paired A B)).Under x y
      → (Pairs (order A) (order B)).Under (pair_at A B x) (pair_at A B y)
  pair_at_under x y u =
      go (pair_at A B y) (pair_at_rank A B y u.1) (pair_subs_in _ x.1 (pair_at_exists A B y u.1) u.3)
    where
      go : (q : El × El) → q.0.0 + q.1.0 ≡ y.0 → SubPair A B q x.1
          → (Pairs (order A) (order B)).Under (pair_at A B x) q
      go q e t =
          let r = ranked.step t.0 q t.1 in
          rw (pair_at_found A B x t.0 t.1.0 (omega (arith, u.2)) t.2) t.1

  pub paired_order : Renumbering (Pairs (order A) (order B)) (order (paired A B))
  paired_order = record {
    to = position A B;
    from = pair_at A B;
    to_exists = position_exists A B;
    from_exists = pair_at_exists A B;
    from_to = pair_at_position A B;
    to_from = position_pair_at A B;
    to_under = position_under;
    from_under = pair_at_under;
    same_rank = λ x e. position_rank A B x;
    same_top = refl;
  }

  pub paired_order_to : (x : El × El) → paired_order.to x ≡ position A B x
  unfolding paired_order
  paired_order_to x = refl

module _ (A B : Layers) (s_a : Sound A) (s_b : Sound B) (o_a : Sorted A) (o_b : Sorted B) where
  left_ascending : (q : El × El) → (Pairs (order A) (order B)).Exists q → Ascending (left_subs A B q)
  unfolding left_subs position Sorted
  left_ascending q e =
      ascending_map _ (A.under q.0.0 q.0.1)
      (λ x y mx my l. omega (arith, mul-lt-mul_of_pos_right {k = B.size q.1.0} l (omega arith))) (o_a _ _ e.0)

  right_ascending : (q : El × El) → (Pairs (order A) (order B)).Exists q → Ascending (right_subs A B q)
  unfolding right_subs position Sorted
  right_ascending q e = ascending_map _ (B.under q.1.0 q.1.1) (λ x y mx my l. omega arith) (o_b _ _ e.1)

  -- the subs by the first member stand in earlier blocks than the pair's own, those by the second in its own
  left_before : (q : El × El) (k : ℕ) → (Pairs (order A) (order B)).Exists q → In k (left_subs A B q)
      → k < sum (block A B (pred (q.0.0 + q.1.0))) q.0.0
  unfolding left_subs position offset Sound
  left_before q k e m =
      let t = map_in _ k _ m in
      let s = s_a _ _ _ e.0 t.1 in
      let d : pred (q.0.0 + q.1.0) ≡ pred q.0.0 + q.1.0 = omega (arith, s.0) in
      let n = in_block A B (pred q.0.0) t.0 q.1.0 q.1.1 s.1 e.1 in
      rw (t.2, d) (sum_lt _ (pred q.0.0) q.0.0 _ (omega (arith, s.0)) n)

  right_from : (q : El × El) (k : ℕ) → (Pairs (order A) (order B)).Exists q → In k (right_subs A B q)
      → sum (block A B (pred (q.0.0 + q.1.0))) q.0.0 ≤ k
  unfolding right_subs position offset Sound
  right_from q k e m =
      let t = map_in _ k _ m in
      let s = s_b _ _ _ e.1 t.1 in
      let d : pred (q.0.0 + q.1.0) ≡ q.0.0 + pred q.1.0 = omega (arith, s.0) in
      rw (t.2, d) (omega arith)

  pub paired_sorted : Sorted (paired A B)
  unfolding Sorted
  paired_sorted R k h = go (pair_at A B (R, k)) (pair_at_exists A B (R, k) h)
    where
      go : (q : El × El) → (Pairs (order A) (order B)).Exists q → Ascending (pair_subs A B q)
      go q e =
          ascending_append (left_subs A B q) (right_subs A B q) (left_ascending q e) (right_ascending q e)
          (λ x y mx my. omega (arith, left_before q x e mx, right_from q y e my))
