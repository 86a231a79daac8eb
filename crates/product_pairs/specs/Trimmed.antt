-- The layers of a factor that a product uses.
--
-- bit          a flag as a number: 1 where it is set
-- trim_size    how many elements a rank in use has
-- trim_under   what lies under an element in use
-- trimmed      the layers without the minimal rank where min is set, and without the maximal rank where max is: ranks
--              count from the lowest in use, whose elements have nothing under them
-- Used         an element that is there and not of a rank left out
use Rattle.std.specs.Prelude.{Bool, true, false, List, [], ℕ, zero, suc, ◌+◌, ◌-◌, ◌≤◌, ◌<◌}
use Rattle.std.proofs.Math.Decide.{dec_lt}
use Rattle.order.specs.Sums.{choose}
use Rattle.listing.specs.Layers.{Layers}

abbrev pub bit : Bool → ℕ
bit true = 1
bit false = 0

unfoldable pub trim_size : Bool → Bool → Layers → ℕ → ℕ
trim_size min max M i = choose (dec_lt M.top (i + bit min + bit max)) 0 (M.size (i + bit min))

unfoldable pub trim_under : Bool → Layers → ℕ → ℕ → List ℕ
trim_under min M zero a = []
trim_under min M (suc i) a = M.under (suc i + bit min) a

abbrev pub trimmed : Bool → Bool → Layers → Layers
trimmed min max M = record {
  top = M.top - bit min - bit max;
  size = trim_size min max M;
  under = trim_under min M;
}

abbrev pub Used : Bool → Bool → Layers → ℕ × ℕ → Type 0
Used min max M x = (x.1 < M.size x.0) × (bit min ≤ x.0) × (x.0 + bit max ≤ M.top)
