-- Invariant: each row in use is a flag, and working the flags from the kth on leads from here to the same state as
-- working all of them led to from the start. The measure is what is left of the room.
use Prim.Native.Nat.{◌-◌}
use Rattle.listing.specs.Listing.{held}
use Rattle.search_walk.proofs.Runs.{Running}
use Rattle.search_walk.proofs.walk.run.Given as goal

abbrev pub invariant-loop-k : goal.invariant-loop-k
invariant-loop-k l = Running (held l.cell.slices) l.mask l.initial.store l.initial.s l.store l.s l.k

abbrev pub decreases-loop-k : goal.decreases-loop-k
decreases-loop-k l = l.initial.store.room - l.k
