-- What can be asked of the lists of layers.
--
-- Sound    what is listed exists, one rank lower, and nothing is listed at rank 0
-- Sorted   each list ascends
-- Listed   an element stands in the list of another, one rank higher
use Rattle.std.specs.Prelude.{◌≡◌, ℕ, suc, pred, ◌<◌}
use Rattle.order.specs.Lists.{In, Ascending}
use Rattle.listing.specs.Layers.{Layers}

unfoldable pub Sound : Layers → Type 0
Sound M = (r b a : ℕ) → b < M.size r → In a (M.under r b) → (0 < r) × (a < M.size (pred r))

unfoldable pub Sorted : Layers → Type 0
Sorted M = (r b : ℕ) → b < M.size r → Ascending (M.under r b)

abbrev pub Listed : Layers → ℕ × ℕ → ℕ × ℕ → Type 0
Listed M x y = (y.0 ≡ suc x.0) × In x.1 (M.under y.0 y.1)
