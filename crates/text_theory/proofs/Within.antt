-- Layers within the limits: they are exactly if each of their lines is.
-- Assumes nothing.
use Prim.Native.Nat.{ℕ, zero, suc, ◌+◌, ◌≤◌, ◌<◌}
use native.Mathlib.Omega.{arith}
use lib.ListN.{length}
use Rattle.order.specs.Sums.{sum}
use Rattle.order.proofs.Sums.{sum_le}
use Rattle.listing.specs.Listing.{Limits}
use Rattle.listing.specs.Layers.{Layers, Topped, derived}
use Rattle.listing.specs.Written.{written}
use Rattle.text_theory.specs.Text.{lines_in, line_count, spot}
use Rattle.text_theory.specs.Said.{incidences_to, bound_of, bound_at}
use Rattle.text_theory.proofs.Spots.{spot_bound, spot_below, rank_spot, spotted}
use Rattle.text_theory.proofs.Incidences.{incidences_total, incidences_to_first, incidences_to_rank}
use Rattle.text_theory.proofs.Incidences.{incidences_to_le}

pub record Within (m : Limits) (M : Layers) : Type 0 where
  pub ranks : suc M.top ≤ m.ranks
  pub elements : sum M.size (suc M.top) ≤ m.elements
  pub incidences : length (written M (derived M)).inc ≤ m.incidences

abbrev pub EachWithin : Limits → Layers → Type 0
EachWithin m M = (j : ℕ) → j < line_count M → (bound_at m M j).amount ≤ (bound_at m M j).most

module _ (m : Limits) (M : Layers) (t : Topped M) where
  -- ---- to each line

  each_of : Within m M → (r i : ℕ) → r ≤ M.top → i < lines_in M r
      → (bound_of m M (r, i)).amount ≤ (bound_of m M (r, i)).most
  unfolding bound_of
  each_of w r zero h l = omega (arith, w.elements, sum_le M.size (suc r) (suc M.top) (omega arith))
  each_of w r (suc i) h l =
      omega (arith, w.incidences, incidences_total M t, incidences_to_le M r (suc i) h (omega arith))

  pub within_each : Within m M → EachWithin m M
  unfolding bound_at
  within_each w zero h = w.ranks
  within_each w (suc j) h =
      let s = spotted M j h in
      each_of w (spot M j).0 (spot M j).1 s.ranked s.placed

  -- ---- and back

  module _ (e : EachWithin m M) where
    of_each_line : (r i : ℕ) → r ≤ M.top → i < lines_in M r → (bound_of m M (r, i)).amount ≤ (bound_of m M (r, i)).most
    of_each_line r i h l =
        let s = rank_spot M r i h l in
        rw (spot_bound M _ r i s m) at (e (suc (sum (lines_in M) r + i)) (spot_below M _ r i s))

    -- within a rank, and from rank to rank
    rank_within : (r i : ℕ) → r ≤ M.top → i ≤ M.size r → incidences_to M r 0 ≤ m.incidences
        → incidences_to M r i ≤ m.incidences
    unfolding bound_of
    rank_within r zero h l z = z
    rank_within r (suc i) h l z = of_each_line r (suc i) h (omega arith)

    ranks_within : (r : ℕ) → r ≤ M.top → incidences_to M r (M.size r) ≤ m.incidences
    ranks_within zero h = rank_within 0 (M.size 0) h (omega arith) (omega (arith, incidences_to_first M))
    ranks_within (suc r) h =
        rank_within (suc r) (M.size (suc r)) h (omega arith)
        (omega (arith, incidences_to_rank M r, ranks_within r (omega arith)))

    pub each_within : Within m M
    unfolding bound_at bound_of line_count
    each_within = record {
      ranks = e 0 (omega arith);
      elements = of_each_line M.top 0 (omega arith) (omega arith);
      incidences = omega (arith, incidences_total M t, ranks_within M.top (omega arith));
    }
