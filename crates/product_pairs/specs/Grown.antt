-- Layers with an element more at an end.
--
-- up_to     the numbers 0 .. n - 1
-- add_min   an element more under all of the lowest rank: each of those has it alone under it
-- add_max   an element more over all of the highest rank: it has all of those under it
-- min_size, min_under   the sizes and the lists with the element more under all
-- max_size, max_under   the sizes and the lists with the element more over all
-- add_min_if, add_max_if  one element more where the flag is set
-- grown     with a maximal element where max is set, and with a minimal one where min is
use Rattle.std.specs.Prelude.{Bool, true, false, List, [], ◌∷◌, ◌++◌, ℕ, zero, suc}
use Rattle.std.proofs.Math.Decide.{dec_lt}
use Rattle.order.specs.Sums.{choose}
use Rattle.listing.specs.Layers.{Layers}

unfoldable pub up_to : ℕ → List ℕ
up_to zero = []
up_to (suc n) = up_to n ++ (n ∷ [])

unfoldable pub min_size : Layers → ℕ → ℕ
min_size M zero = 1
min_size M (suc r) = M.size r

unfoldable pub min_under : Layers → ℕ → ℕ → List ℕ
min_under M zero a = []
min_under M (suc zero) a = 0 ∷ []
min_under M (suc (suc r)) a = M.under (suc r) a

abbrev pub add_min : Layers → Layers
add_min M = record { top = suc M.top; size = min_size M; under = min_under M }

unfoldable pub max_size : Layers → ℕ → ℕ
max_size M r = choose (dec_lt M.top r) (choose (dec_lt (suc M.top) r) 0 1) (M.size r)

unfoldable pub max_under : Layers → ℕ → ℕ → List ℕ
max_under M r a = choose (dec_lt M.top r) (up_to (M.size M.top)) (M.under r a)

abbrev pub add_max : Layers → Layers
add_max M = record { top = suc M.top; size = max_size M; under = max_under M }

abbrev pub add_min_if : Bool → Layers → Layers
add_min_if true M = add_min M
add_min_if false M = M

abbrev pub add_max_if : Bool → Layers → Layers
add_max_if true M = add_max M
add_max_if false M = M

abbrev pub grown : Bool → Bool → Layers → Layers
grown min max M = add_min_if min (add_max_if max M)
