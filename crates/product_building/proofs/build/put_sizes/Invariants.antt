-- `put_sizes`. Invariant: the sizes of the ranks below k are written, and nothing else.
-- Assumes nothing.
use Prim.Native.Nat.{suc}
use Rattle.product_places.specs.Places.{pairs_in}
use Rattle.listing.specs.Laid.{Laid}
use Rattle.product_building.proofs.build.put_sizes.Given as goal

abbrev pub invariant-loop-k : goal.invariant-loop-k
invariant-loop-k l = Laid l.at (λ r. pairs_in l.p l.q r (suc r)) l.k l.initial.counts l.counts
