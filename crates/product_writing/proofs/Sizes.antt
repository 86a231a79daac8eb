-- Layers with an element more at an end: their sizes together and in a row, and the lists of the elements added.
-- Assumes nothing.
use mathlib.Core.Path.{◌≡◌, refl, sym, ap, ◌∙◌}
use mathlib.Core.Bool.{Bool, true, false}
use mathlib.Core.List.{List, [], ◌∷◌, ◌++◌, append-nil}
use Prim.Native.Nat.{ℕ, zero, suc, ◌+◌, ◌*◌, ◌<◌}
use native.Mathlib.Decide.{dec_lt}
use native.Mathlib.Omega.{arith}
use lib.ListN.{length}
use Rattle.order.specs.Lists.{occurs}
use Rattle.order.specs.Sums.{sum}
use Rattle.order.proofs.Sums.{choose_yes, choose_no, sum_same, sum_first}
use Rattle.listing.specs.Layers.{Layers, derived}
use Rattle.listing.specs.Written.{joined, tabulated, list_at, nth}
use Rattle.listing.proofs.Layers.{derived_length}
use Rattle.listing.proofs.Written.{tabulated_same, nth_at}
use Rattle.product_pairs.specs.Trimmed.{bit}
use Rattle.product_pairs.proofs.Sequences.{sum_all}
use Rattle.product_places.proofs.Parts.{when}
use Rattle.product_pairs.specs.Grown.{up_to, min_size, min_under, max_size, max_under, add_max, add_min_if}
use Rattle.product_pairs.specs.Grown.{add_max_if, grown}

table_first : (f : ℕ → ℕ) (n : ℕ) → tabulated f (suc n) ≡ f 0 ∷ tabulated (λ k. f (suc k)) n
unfolding tabulated joined
table_first f zero = refl
table_first f (suc n) = ap (λ (l : List ℕ). l ++ (f (suc n) ∷ [])) (table_first f n)

-- ---- sizes

module _ (M : Layers) where
  max_in : (r : ℕ) → r < suc M.top → max_size M r ≡ M.size r
  unfolding max_size
  max_in r h = choose_no (dec_lt M.top r) _ _ (λ l. omega arith)

  max_top : max_size M (suc M.top) ≡ 1
  unfolding max_size
  max_top =
      choose_yes (dec_lt M.top (suc M.top)) _ _ (omega arith)
      ∙ choose_no (dec_lt (suc M.top) (suc M.top)) _ _ (λ l. omega arith)

  max_past : max_size M (suc (suc M.top)) ≡ 0
  unfolding max_size
  max_past =
      choose_yes (dec_lt M.top (suc (suc M.top))) _ _ (omega arith)
      ∙ choose_yes (dec_lt (suc M.top) (suc (suc M.top))) _ _ (omega arith)

  grow_max_sum : (max : Bool)
      → sum (add_max_if max M).size (suc (add_max_if max M).top) ≡ sum M.size (suc M.top) + bit max
  unfolding sum
  grow_max_sum true = omega (arith, sum_same (max_size M) M.size (suc M.top) max_in, max_top)
  grow_max_sum false = omega arith

  grow_min_sum : (min : Bool)
      → sum (add_min_if min M).size (suc (add_min_if min M).top) ≡ bit min + sum M.size (suc M.top)
  unfolding min_size
  grow_min_sum true = sum_first (min_size M) (suc M.top)
  grow_min_sum false = omega arith

  grow_max_table : (max : Bool)
      → tabulated (add_max_if max M).size (suc (add_max_if max M).top) ≡ tabulated M.size (suc M.top) ++ when max 1
  unfolding tabulated joined
  grow_max_table true = rw (tabulated_same (max_size M) M.size (suc M.top) max_in, max_top)
  grow_max_table false = sym (append-nil _)

  grow_min_table : (min : Bool)
      → tabulated (add_min_if min M).size (suc (add_min_if min M).top) ≡ when min 1 ++ tabulated M.size (suc M.top)
  unfolding min_size
  grow_min_table true = table_first (min_size M) (suc M.top)
  grow_min_table false = refl

module _ (min max : Bool) (M : Layers) where
  abbrev T : Layers
  T = grown min max M

  pub grown_sum : sum T.size (suc T.top) ≡ bit min + sum M.size (suc M.top) + bit max
  grown_sum = omega (arith, grow_min_sum (add_max_if max M) min, grow_max_sum M max)

  pub grown_table : tabulated T.size (suc T.top)
      ≡ when min 1 ++ (tabulated M.size (suc M.top) ++ when max 1)
  grown_table = grow_min_table (add_max_if max M) min ∙ ap (λ (l : List ℕ). when min 1 ++ l) (grow_max_table M max)

-- ---- the element added below

module _ (max : Bool) (M : Layers) where
  abbrev L : Layers
  L = grown true max M

  low_size : (max : Bool) → (add_max_if max M).size 0 ≡ M.size 0
  low_size true = max_in M 0 (omega arith)
  low_size false = refl

  pub low_subs : nth L (derived L) 0 ≡ []
  unfolding list_at min_under sum min_size
  low_subs = nth_at L (derived L) 0 0 0 (omega arith) (omega arith) (omega arith)

  pub low_sups : length (nth L (derived L) 1) ≡ M.size 0
  unfolding list_at min_under sum min_size occurs
  low_sups =
      ap length (nth_at L (derived L) 1 0 0 (omega arith) (omega arith) (omega arith))
      ∙ derived_length L 0 0 ∙ sum_all 1 ((add_max_if max M).size 0) ∙ omega (arith, low_size max)

-- ---- the element added above

module _ (M : Layers) where
  -- its place, its rank and what it has under it, whether or not an element was added below
  high_sum : (min : Bool)
      → sum (grown min true M).size (grown min true M).top ≡ bit min + sum M.size (suc M.top)
  unfolding sum min_size
  high_sum true =
      sum_first (min_size (add_max M)) (suc M.top)
      ∙ ap (λ (n : ℕ). 1 + n) (sum_same (max_size M) M.size (suc M.top) (max_in M))
  high_sum false = omega (arith, sum_same (max_size M) M.size (suc M.top) (max_in M))

  high_size : (min : Bool) → (grown min true M).size (grown min true M).top ≡ 1
  unfolding min_size
  high_size true = max_top M
  high_size false = max_top M

  high_under : (min : Bool) → (grown min true M).under (grown min true M).top 0 ≡ up_to (M.size M.top)
  unfolding min_under max_under
  high_under true = choose_yes (dec_lt M.top (suc M.top)) _ _ (omega arith)
  high_under false = choose_yes (dec_lt M.top (suc M.top)) _ _ (omega arith)

  high_past : (min : Bool) → (grown min true M).size (suc (grown min true M).top) ≡ 0
  unfolding min_size
  high_past true = max_past M
  high_past false = max_past M

  module _ (min : Bool) where
    abbrev H : Layers
    H = grown min true M

    high_at : (s : ℕ) → s < 2
        → nth H (derived H) (2 * (bit min + sum M.size (suc M.top)) + s) ≡ list_at H (derived H) s (H.top, 0)
    high_at s h =
        let e : sum H.size H.top + 0 ≡ bit min + sum M.size (suc M.top) = omega (arith, high_sum min) in
        rw e at (nth_at H (derived H) s H.top 0 h (omega arith) (omega (arith, high_size min)))

    pub high_subs : nth H (derived H) (2 * (bit min + sum M.size (suc M.top))) ≡ up_to (M.size M.top)
    unfolding list_at
    high_subs =
        let n = bit min + sum M.size (suc M.top) in
        let z : 2 * n + 0 ≡ 2 * n = omega arith in
        rw z at (high_at 0 (omega arith)) ∙ high_under min

    pub high_sups : length (nth H (derived H) (2 * (bit min + sum M.size (suc M.top)) + 1)) ≡ 0
    unfolding list_at sum
    high_sups =
        ap length (high_at 1 (omega arith)) ∙ derived_length H H.top 0
        ∙ ap (sum (λ b. occurs 0 (H.under (suc H.top) b))) (high_past min)
