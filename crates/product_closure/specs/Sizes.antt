-- How large a product is.
--
-- all_elements   the elements of all ranks of layers
-- Sizes          how many ranks, elements and incidences there are
-- sizes_of       those of the product of two factors, by what a product uses of them. Highest ranks add up, and each
--                added end makes one rank more. Elements make pairs, and each added end is one element more. Each sub of
--                an element makes one for each element that it is paired with; an added end brings one for each lowest
--                or each highest pair; and with each sub there is its sup.
-- WithinLimits   the sizes are within the limits
use Rattle.std.specs.Prelude.{Bool, ℕ, suc, ◌+◌, ◌*◌, ◌≤◌}
use Rattle.order.specs.Sums.{sum}
use Rattle.listing.specs.Listing.{Limits}
use Rattle.listing.specs.Layers.{Layers}
use Rattle.product_pairs.specs.Trimmed.{bit, trimmed}
use Rattle.product_pairs.specs.Lengths.{all_subs}

unfoldable pub all_elements : Layers → ℕ
all_elements M = sum M.size (suc M.top)

pub record Sizes : Type 0 where
  pub ranks : ℕ
  pub elements : ℕ
  pub incidences : ℕ

unfoldable pub sizes_of : Bool → Bool → Layers → Layers → Sizes
sizes_of min max A B =
    let p = trimmed min max A in
    let q = trimmed min max B in
    let pairs = all_subs p * all_elements q + all_elements p * all_subs q in
    let lowest = p.size 0 * q.size 0 in
    let highest = p.size p.top * q.size q.top in
    record {
      ranks = suc (p.top + q.top + bit min + bit max);
      elements = all_elements p * all_elements q + bit min + bit max;
      incidences = 2 * (pairs + bit min * lowest + bit max * highest);
    }

pub record WithinLimits (m : Limits) (s : Sizes) : Type 0 where
  pub few_ranks : s.ranks ≤ m.ranks
  pub few_elements : s.elements ≤ m.elements
  pub few_incidences : s.incidences ≤ m.incidences
