-- Sums over all pairs of a rank.
-- Assumes nothing.
use mathlib.Core.Path.{◌≡◌, refl, sym, ap, ◌∙◌}
use mathlib.Core.Logic.{◌≢◌}
use Prim.Native.Nat.{ℕ, suc, ◌+◌, ◌-◌, ◌<◌}
use native.Mathlib.Omega.{arith}
use Rattle.order.specs.Sums.{sum}
use Rattle.order.specs.Pairs.{Pairs}
use Rattle.order.proofs.Sums.{sum_zero, sum_same, sum_plus}
use Rattle.listing.specs.Layers.{Layers, order}
use Rattle.listing.proofs.Sequences.{sum_parts}
use Rattle.product_pairs.specs.Paired.{El, block, offset, position, paired}
use Rattle.product_pairs.proofs.Sequences.{sum_one, sum_rows}

-- The pair of element a of rank i and element b of the rank that makes R with it; the sum of f over all these pairs.
abbrev pub pair_in : ℕ → ℕ → ℕ → ℕ → El × El
pair_in R i a b = ((i, a), (R - i, b))

abbrev pub over_rank : Layers → Layers → ℕ → (El × El → ℕ) → ℕ → ℕ
over_rank A B R f i = sum (λ a. sum (λ b. f (pair_in R i a b)) (B.size (R - i))) (A.size i)

abbrev pub over_pairs : Layers → Layers → ℕ → (El × El → ℕ) → ℕ
over_pairs A B R f = sum (over_rank A B R f) (suc R)

-- A pair of rank R that exists.
abbrev pub PairOf : Layers → Layers → ℕ → El × El → Type 0
PairOf A B R y = (Pairs (order A) (order B)).Exists y × (y.0.0 + y.1.0 ≡ R)

module _ (A B : Layers) (R : ℕ) where
  -- the indices of a rank, pair by pair
  pub sum_pairs : (g : ℕ → ℕ) → sum g ((paired A B).size R) ≡ over_pairs A B R (λ y. g (position A B y).1)
  unfolding block position offset
  sum_pairs g = sum_parts g (block A B R) (suc R) ∙ sum_same _ _ (suc R) by_rank
    where
      by_rank : (i : ℕ) → i < suc R → sum (λ k. g (sum (block A B R) i + k)) (block A B R i)
          ≡ over_rank A B R (λ y. g (position A B y).1) i
      by_rank i h =
          let e : i + (R - i) ≡ R = omega arith in
          rw e (sum_rows (λ k. g (sum (block A B R) i + k)) (A.size i) (B.size (R - i)))

  pub over_same : (f g : El × El → ℕ) → ((y : El × El) → PairOf A B R y → f y ≡ g y)
      → over_pairs A B R f ≡ over_pairs A B R g
  over_same f g h = sum_same _ _ (suc R) rows
    where
      rows : (i : ℕ) → i < suc R → over_rank A B R f i ≡ over_rank A B R g i
      rows i k =
          sum_same _ _ (A.size i)
          (λ a p. sum_same _ _ (B.size (R - i)) (λ b q. h (pair_in R i a b) ((p, q), omega arith)))

  pub over_plus : (f g : El × El → ℕ)
      → over_pairs A B R (λ y. f y + g y) ≡ over_pairs A B R f + over_pairs A B R g
  over_plus f g = sum_same _ _ (suc R) (λ i h. rows i) ∙ sum_plus _ _ (suc R)
    where
      rows : (i : ℕ) → over_rank A B R (λ y. f y + g y) i ≡ over_rank A B R f i + over_rank A B R g i
      rows i = sum_same _ _ (A.size i) (λ a p. sum_plus _ _ (B.size (R - i))) ∙ sum_plus _ _ (A.size i)

-- ---- only pairs with one member given count

module _ (A B : Layers) (f : El × El → ℕ) where
  rank_none : (R i : ℕ) → i < suc R → ((y : El × El) → PairOf A B R y → y.0.0 ≡ i → f y ≡ 0) → over_rank A B R f i ≡ 0
  rank_none R i k none =
      sum_zero _ (A.size i) (λ a p. sum_zero _ (B.size (R - i)) (λ b q.
      none (pair_in R i a b) ((p, q), omega arith) refl))

  -- the second member is z, the first of rank r
  pub over_first : (r : ℕ) (z : El) → z.1 < B.size z.0
      → ((y : El × El) → PairOf A B (r + z.0) y → ¬ ((y.0.0 ≡ r) × (y.1 ≡ z)) → f y ≡ 0)
      → over_pairs A B (r + z.0) f ≡ sum (λ a. f ((r, a), z)) (A.size r)
  over_first r z h none =
      let e : r + z.0 - r ≡ z.0 = omega arith in
      sum_one _ (suc (r + z.0)) r (omega arith) other ∙ rw e (sum_same _ _ (A.size r) row)
    where
      other : (i : ℕ) → i < suc (r + z.0) → i ≢ r → over_rank A B (r + z.0) f i ≡ 0
      other i k d = rank_none (r + z.0) i k (λ y p q. none y p (λ t. d (sym q ∙ t.0)))

      row : (a : ℕ) → a < A.size r → sum (λ b. f ((r, a), (z.0, b))) (B.size z.0) ≡ f ((r, a), z)
      row a p =
          sum_one _ (B.size z.0) z.1 h
          (λ b q d. none ((r, a), (z.0, b)) ((p, q), refl) (λ t. d (ap (λ (w : El). w.1) t.1)))

  -- the first member is z, the second of rank s
  pub over_second : (z : El) (s : ℕ) → z.1 < A.size z.0
      → ((y : El × El) → PairOf A B (z.0 + s) y → ¬ ((y.0 ≡ z) × (y.1.0 ≡ s)) → f y ≡ 0)
      → over_pairs A B (z.0 + s) f ≡ sum (λ b. f (z, (s, b))) (B.size s)
  over_second z s h none =
      let e : z.0 + s - z.0 ≡ s = omega arith in
      sum_one _ (suc (z.0 + s)) z.0 (omega arith) other ∙ rw e (sum_one _ (A.size z.0) z.1 h row)
    where
      other : (i : ℕ) → i < suc (z.0 + s) → i ≢ z.0 → over_rank A B (z.0 + s) f i ≡ 0
      other i k d = rank_none (z.0 + s) i k (λ y p q. none y p (λ t. d (sym q ∙ ap (λ (w : El). w.0) t.0)))

      row : (a : ℕ) → a < A.size z.0 → a ≢ z.1 → sum (λ b. f ((z.0, a), (s, b))) (B.size s) ≡ 0
      row a p d =
          sum_zero _ (B.size s)
          (λ b q. none ((z.0, a), (s, b)) ((p, q), refl) (λ t. d (ap (λ (w : El). w.1) t.0)))
