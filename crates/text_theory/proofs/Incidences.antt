-- What the elements bring, added up: a listing with derived sups has as many incidences as its elements bring together,
-- a sup being counted at the element that names it from above. How this grows from element to element, and that layers
-- which agree on some elements have the same of it up to there.
-- Assumes nothing.
use mathlib.Core.Path.{◌≡◌, refl, sym, ap, ◌∙◌}
use mathlib.Core.List.{List, [], ◌∷◌}
use Prim.Native.Nat.{ℕ, zero, suc, ◌+◌, ◌≤◌, ◌<◌}
use native.Mathlib.Decide.{dec_lt}
use native.Mathlib.Omega.{arith}
use borrow.Author.Tests.{lt-ltb, le-ltb, eq-eqb, ne_eqb}
use lib.ListN.{length}
use Rattle.order.specs.Lists.{occurs}
use Rattle.order.specs.Sums.{sum}
use Rattle.order.proofs.Sums.{sum_le, sum_zero, sum_same, sum_plus, sum_first, sum_swap}
use Rattle.listing.specs.Layers.{Layers, Topped, derived}
use Rattle.listing.specs.Written.{written}
use Rattle.listing.proofs.Layers.{derived_length}
use Rattle.listing.proofs.Written.{total, written_inc_length}
use Rattle.text_theory.specs.Said.{below_in, size_below, incidences_of, incidences_to}

-- ---- the numbers of a list below n

below_none : (l : List ℕ) → below_in 0 l ≡ 0
unfolding below_in
below_none [] = refl
below_none (x ∷ l) = rw (le-ltb x 0 (omega arith)) (below_none l)

below_next : (n : ℕ) (l : List ℕ) → below_in (suc n) l ≡ below_in n l + occurs n l
unfolding below_in occurs
below_next n [] = refl
below_next n (x ∷ l) = go (below_next n l) (dec_lt x n) (dec_lt n x)
  where
    go : below_in (suc n) l ≡ below_in n l + occurs n l → Dec (x < n) → Dec (n < x)
        → below_in (suc n) (x ∷ l) ≡ below_in n (x ∷ l) + occurs n (x ∷ l)
    go ih (yes a) d = rw (lt-ltb x (suc n) (omega arith), lt-ltb x n a, ne_eqb x n (λ e. omega arith)) (omega arith)
    go ih (no a) (yes b) =
        rw (le-ltb x (suc n) (omega arith), le-ltb x n (omega arith), ne_eqb x n (λ e. omega arith)) ih
    go ih (no a) (no b) =
        rw (lt-ltb x (suc n) (omega arith), le-ltb x n (omega arith), eq-eqb x n (omega arith)) (omega arith)

-- each number as often as it occurs
below_sum : (n : ℕ) (l : List ℕ) → sum (λ x. occurs x l) n ≡ below_in n l
unfolding sum
below_sum zero l = sym (below_none l)
below_sum (suc n) l = omega (arith, below_sum n l, below_next n l)

-- ---- ranks

-- what the elements of a rank list together, how much of it exists, and both
abbrev listed : Layers → ℕ → ℕ
listed M r = sum (λ i. length (M.under r i)) (M.size r)

abbrev named : Layers → ℕ → ℕ
named M r = sum (λ i. below_in (size_below M r) (M.under r i)) (M.size r)

abbrev brought : Layers → ℕ → ℕ
brought M r = sum (incidences_of M r) (M.size r)

module _ (M : Layers) where
  brought_is : (r : ℕ) → brought M r ≡ listed M r + named M r
  unfolding incidences_of
  brought_is r = sum_plus _ _ (M.size r)

  -- the sups of a rank are named in the rank above
  sups_named : (r : ℕ) → sum (λ a. length (derived M r a)) (M.size r) ≡ named M (suc r)
  unfolding size_below
  sups_named r =
      sum_same _ _ (M.size r) (λ a h. derived_length M r a)
      ∙ sum_swap (λ a b. occurs a (M.under (suc r) b)) (M.size r) (M.size (suc r))
      ∙ sum_same _ _ (M.size (suc r)) (λ b h. below_sum (M.size r) (M.under (suc r) b))

  total_named : total M (derived M) ≡ sum (listed M) (suc M.top) + sum (λ r. named M (suc r)) (suc M.top)
  total_named =
      sum_same _ (λ r. listed M r + named M (suc r)) (suc M.top) (λ r h. each r)
      ∙ sum_plus (listed M) (λ r. named M (suc r)) (suc M.top)
    where
      each : (r : ℕ) → sum (λ i. length (M.under r i) + length (derived M r i)) (M.size r)
          ≡ listed M r + named M (suc r)
      each r = sum_plus _ _ (M.size r) ∙ ap (λ n. listed M r + n) (sups_named r)

  -- nothing lies below rank 0, and nothing above the top
  named_first : named M 0 ≡ 0
  unfolding size_below
  named_first = sum_zero _ (M.size 0) (λ i h. below_none (M.under 0 i))

  named_last : Topped M → named M (suc M.top) ≡ 0
  unfolding Topped sum
  named_last t = rw (t (suc M.top) (omega arith))

  named_shift : Topped M → sum (λ r. named M (suc r)) (suc M.top) ≡ sum (named M) (suc M.top)
  unfolding sum
  named_shift t = omega (arith, sum_first (named M) (suc M.top), named_first, named_last t)

  -- ---- all ranks

  to_top_is : incidences_to M M.top (M.size M.top) ≡ sum (brought M) (suc M.top)
  unfolding incidences_to sum
  to_top_is = refl

  pub incidences_total : Topped M → length (written M (derived M)).inc ≡ incidences_to M M.top (M.size M.top)
  incidences_total t =
      let w = sum_same _ _ (suc M.top) (λ r h. brought_is r) ∙ sum_plus (listed M) (named M) (suc M.top) in
      omega (arith, written_inc_length M (derived M), total_named, named_shift t, to_top_is, w)

  -- what comes before a rank is what came up to the end of the rank below
  pub incidences_to_first : incidences_to M 0 0 ≡ 0
  unfolding incidences_to sum
  incidences_to_first = refl

  pub incidences_to_rank : (r : ℕ) → incidences_to M (suc r) 0 ≡ incidences_to M r (M.size r)
  unfolding incidences_to sum
  incidences_to_rank r = omega arith

  pub incidences_to_next : (r i : ℕ) → incidences_to M r (suc i) ≡ incidences_to M r i + incidences_of M r i
  unfolding incidences_to sum
  incidences_to_next r i = omega arith

  -- it grows up to the last element
  pub incidences_to_le : (r i : ℕ) → r ≤ M.top → i ≤ M.size r
      → incidences_to M r i ≤ incidences_to M M.top (M.size M.top)
  unfolding incidences_to sum
  incidences_to_le r i h l =
      omega (arith, sum_le (incidences_of M r) i (M.size r) l, sum_le (brought M) (suc r) (suc M.top) (omega arith))

-- ---- layers that agree on what comes before element i of rank r

module _ (M N : Layers) (r i : ℕ) (sizes : (q : ℕ) → q < r → M.size q ≡ N.size q)
    (lists : (q b : ℕ) → q < r → b < M.size q → M.under q b ≡ N.under q b)
    (last : (b : ℕ) → b < i → M.under r b ≡ N.under r b) where
  below_same : (q : ℕ) → q ≤ r → size_below M q ≡ size_below N q
  unfolding size_below
  below_same zero h = refl
  below_same (suc q) h = sizes q h

  of_same : (q b : ℕ) → q ≤ r → M.under q b ≡ N.under q b → incidences_of M q b ≡ incidences_of N q b
  unfolding incidences_of
  of_same q b h e = rw (e, below_same q h)

  brought_same : (q : ℕ) → q < r → brought M q ≡ brought N q
  brought_same q h =
      sum_same _ _ (M.size q) (λ b l. of_same q b (omega arith) (lists q b h l))
      ∙ ap (sum (incidences_of N q)) (sizes q h)

  pub incidences_to_same : incidences_to M r i ≡ incidences_to N r i
  unfolding incidences_to
  incidences_to_same =
      let p = sum_same _ _ r brought_same in
      let q = sum_same _ _ i (λ b l. of_same r b (omega arith) (last b l)) in
      λ t. p t + q t
