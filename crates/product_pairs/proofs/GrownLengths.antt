-- The lists of grown layers: the sups of what was there, and how many subs the added elements bring.
-- Assumes nothing.
use mathlib.Core.Path.{◌≡◌, refl, ap, ◌∙◌}
use mathlib.Core.Bool.{Bool, true, false}
use mathlib.Core.List.{[], ◌∷◌}
use Prim.Native.Nat.{ℕ, suc, ◌+◌, ◌*◌, ◌≤◌, ◌<◌}
use native.Mathlib.Nat.{add-zero}
use native.Mathlib.Numerals.{add-one}
use native.Mathlib.Omega.{arith}
use lib.ListN.{length}
use Rattle.order.specs.Sums.{sum}
use Rattle.order.proofs.Sums.{sum_same, sum_first}
use Rattle.listing.specs.Layers.{Layers, gather, derived}
use Rattle.listing.proofs.Layers.{gather_same}
use Rattle.product_pairs.specs.Sound.{Sound}
use Rattle.product_pairs.specs.Trimmed.{bit}
use Rattle.product_pairs.specs.Grown.{min_size, min_under, add_min, max_size, add_max, grown}
use Rattle.product_pairs.specs.Lengths.{rank_subs, all_subs}
use Rattle.product_pairs.proofs.Sequences.{up_to_length, up_to_occurs, sum_all}
use Rattle.product_pairs.proofs.AddMax.{max_size_low, max_size_top, max_under_low, max_under_top, add_max_sound}
use Rattle.product_pairs.proofs.Lengths.{rank_subs_lowest}

-- ---- an element more under all

module _ (M : Layers) where
  add_min_sups : (r a : ℕ) → derived (add_min M) (suc r) a ≡ derived M r a
  unfolding derived min_size min_under
  add_min_sups r a = refl

  -- the subs by rank
  min_end : rank_subs (add_min M) 0 ≡ 0
  unfolding rank_subs min_size min_under sum
  min_end = refl

  min_lowest : rank_subs (add_min M) 1 ≡ M.size 0
  unfolding rank_subs min_size min_under
  min_lowest = omega (arith, sum_all 1 (M.size 0))

  min_higher : (r : ℕ) → rank_subs (add_min M) (suc (suc r)) ≡ rank_subs M (suc r)
  unfolding rank_subs min_size min_under
  min_higher r = refl

  -- one sub for each element of the lowest rank
  add_min_subs : Sound M → all_subs (add_min M) ≡ all_subs M + M.size 0
  unfolding all_subs
  add_min_subs s =
      omega (
        arith,
        sum_first (rank_subs (add_min M)) (suc M.top),
        sum_first (λ i. rank_subs (add_min M) (suc i)) M.top,
        sum_first (rank_subs M) M.top,
        sum_same (λ r. rank_subs (add_min M) (suc (suc r))) (λ r. rank_subs M (suc r)) M.top (λ r h. min_higher r),
        min_end,
        min_lowest,
        rank_subs_lowest M s,
      )

-- ---- an element more over all

module _ (M : Layers) where
  add_max_sups : (r a : ℕ) → r < M.top → derived (add_max M) r a ≡ derived M r a
  unfolding derived
  add_max_sups r a h =
      rw (max_size_low M (suc r) h) (gather_same _ _ a (M.size (suc r)) (λ k l. max_under_low M (suc r) k h))

  add_max_sups_high : (a : ℕ) → a < M.size M.top → derived (add_max M) M.top a ≡ 0 ∷ []
  unfolding derived gather
  add_max_sups_high a h = rw (max_size_top M, max_under_top M 0, up_to_occurs a (M.size M.top) h)

  -- the subs by rank
  max_lower : (r : ℕ) → r < suc M.top → rank_subs (add_max M) r ≡ rank_subs M r
  unfolding rank_subs
  max_lower r h =
      let l : r ≤ M.top = omega arith in
      rw (max_size_low M r l) (sum_same _ _ (M.size r) (λ b k. ap length (max_under_low M r b l)))

  max_end : rank_subs (add_max M) (suc M.top) ≡ M.size M.top
  unfolding rank_subs sum
  max_end = rw (max_size_top M, max_under_top M 0) (omega (arith, up_to_length (M.size M.top)))

  -- one sub for each element of the highest rank
  add_max_subs : all_subs (add_max M) ≡ all_subs M + M.size M.top
  unfolding all_subs sum
  add_max_subs = omega (arith, sum_same (rank_subs (add_max M)) (rank_subs M) (suc M.top) max_lower, max_end)

-- ---- both

-- what was there has the sups that it had, but for the highest rank under an added maximal element
pub grown_sups : (min max : Bool) (M : Layers) (r a : ℕ) → r + bit max ≤ M.top
    → derived (grown min max M) (r + bit min) a ≡ derived M r a
grown_sups true true M r a h = rw add-one (add_min_sups (add_max M) r a ∙ add_max_sups M r a (omega arith))
grown_sups true false M r a h = rw add-one (add_min_sups M r a)
grown_sups false true M r a h = rw add-zero (add_max_sups M r a (omega arith))
grown_sups false false M r a h = rw add-zero

-- the added maximal element is the one sup of the rank below
pub grown_max_sups : (min : Bool) (M : Layers) (a : ℕ) → a < M.size M.top
    → derived (grown min true M) (M.top + bit min) a ≡ 0 ∷ []
grown_max_sups true M a h = rw add-one (add_min_sups (add_max M) M.top a ∙ add_max_sups_high M a h)
grown_max_sups false M a h = rw add-zero (add_max_sups_high M a h)

-- how many subs the added elements bring
pub grown_subs : (min max : Bool) (M : Layers) → Sound M
    → all_subs (grown min max M) ≡ all_subs M + bit min * M.size 0 + bit max * M.size M.top
grown_subs true true M s =
    omega (arith, add_min_subs (add_max M) (add_max_sound M s), add_max_subs M, max_size_low M 0 (omega arith))
grown_subs true false M s = omega (arith, add_min_subs M s)
grown_subs false true M s = omega (arith, add_max_subs M)
grown_subs false false M s = omega arith

-- ---- how many elements

add_min_count : (M : Layers) → sum (add_min M).size (suc (add_min M).top) ≡ sum M.size (suc M.top) + 1
unfolding min_size
add_min_count M = omega (arith, sum_first (min_size M) (suc M.top))

add_max_count : (M : Layers) → sum (add_max M).size (suc (add_max M).top) ≡ sum M.size (suc M.top) + 1
unfolding sum
add_max_count M =
    omega (arith, sum_same (max_size M) M.size (suc M.top) (λ r h. max_size_low M r (omega arith)), max_size_top M)

pub grown_count : (min max : Bool) (M : Layers)
    → sum (grown min max M).size (suc (grown min max M).top) ≡ sum M.size (suc M.top) + bit min + bit max
grown_count true true M = omega (arith, add_min_count (add_max M), add_max_count M)
grown_count true false M = omega (arith, add_min_count M)
grown_count false true M = omega (arith, add_max_count M)
grown_count false false M = omega arith
