-- `pairs_to`. Invariant: n is the number of pairs of the ranks below k.
-- Assumes nothing.
use mathlib.Core.Path.{◌≡◌}
use Rattle.product_places.specs.Places.{pairs_to}
use Rattle.product_places.proofs.block.pairs_to.Given as goal

abbrev pub invariant-loop-k : goal.invariant-loop-k
invariant-loop-k l = l.n ≡ pairs_to l.p l.q l.k
