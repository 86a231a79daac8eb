-- `pairs_in`. Invariant: n is the number of pairs whose first member is of a rank below k, and small.
-- Assumes nothing.
use mathlib.Core.Path.{◌≡◌}
use Prim.Native.Nat.{◌*◌, ◌≤◌}
use Rattle.listing.specs.Listing.{width}
use Rattle.product_places.specs.Places.{pairs_in}
use Rattle.product_places.proofs.block.pairs_in.Given as goal

abbrev pub invariant-loop-k : goal.invariant-loop-k
invariant-loop-k l = (l.n ≤ width * width * l.k) × (l.n ≡ pairs_in l.p l.q l.rank l.k)
