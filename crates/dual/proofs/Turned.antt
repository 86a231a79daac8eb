-- The lists of a rank, turned: those of an element, those from a later element on, and that they are lists of the dual.
-- Assumes nothing.
use mathlib.Core.Path.{◌≡◌, sym, ap}
use mathlib.Core.List.{List}
use Prim.Native.Nat.{ℕ, ◌+◌, ◌-◌, ◌*◌, ◌/◌, ◌%◌, ◌<◌}
use native.Mathlib.Omega.{arith}
use lib.ListN.{length}
use Rattle.order.specs.Sums.{sum}
use Rattle.listing.specs.Listing.{Listing, rank, count, before, entries}
use Rattle.listing.specs.Written.{lengths, nth}
use Rattle.dual_theory.specs.Dual.{dual_size, dual_layers, dual_over}
use Rattle.dual_theory.proofs.DualLists.{dual_nth}
use Rattle.dual.specs.Writing.{turned_from}

module _ (ends inc : List ℕ) (here : ℕ) where
  -- of an element: its sups, then its subs
  pub turned_sups : turned_from ends inc here 0 ≡ entries ends inc (2 * here + 1)
  unfolding turned_from
  turned_sups = ap (entries ends inc) (omega arith)

  pub turned_subs : turned_from ends inc here 1 ≡ entries ends inc (2 * here)
  unfolding turned_from
  turned_subs = ap (entries ends inc) (omega arith)

  turned_both : sum (lengths (turned_from ends inc here)) 2
      ≡ length (entries ends inc (2 * here + 1)) + length (entries ends inc (2 * here))
  unfolding sum
  turned_both = omega (arith, ap length turned_sups, ap length turned_subs)

  -- there are as many numbers in them as in the two lists
  pub turned_sizes : (sups subs : List ℕ) → sups ≡ entries ends inc (2 * here + 1) → subs ≡ entries ends inc (2 * here)
      → sum (lengths (turned_from ends inc here)) 2 ≡ length sups + length subs
  turned_sizes sups subs u v = omega (arith, ap length u, ap length v, turned_both)

  -- of the ith element (w is i, widened): the next ones behind those of the elements before it
  pub turned_later : (i w j : ℕ) → w ≡ i → turned_from ends inc (here + w) j ≡ turned_from ends inc here (2 * i + j)
  unfolding turned_from
  turned_later i w j e = ap (entries ends inc) (omega arith)

-- the lists of the dual
abbrev pub dual_list : Listing → ℕ → List ℕ
dual_list L = nth (dual_layers L) (dual_over L)

-- those of rank q of the listing are those of the opposite rank r of the dual
pub turned_dual : (L : Listing) (r q j : ℕ) → r + q ≡ rank L → j < 2 * count L q
    → turned_from L.ends L.inc (before L.counts q) j
    ≡ nth (dual_layers L) (dual_over L) (2 * sum (dual_size L) r + j)
unfolding turned_from
turned_dual L r q j e l =
    let k : q ≡ rank L - r = omega arith in
    let p : 2 * sum (dual_size L) r + j ≡ 2 * (sum (dual_size L) r + j / 2) + j % 2 = omega arith in
    let h : j / 2 < count L (rank L - r) = omega (arith, ap (λ (n : ℕ). count L n) k) in
    rw (k, p) (sym (dual_nth L (j % 2) r (j / 2) (omega arith) (omega arith) h))
