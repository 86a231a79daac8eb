-- `lowest_of_face`. Invariant: `lowest` is a vertex of the face, and no vertex of its edges so far is lower.
-- Assumes nothing.
use Prim.Native.Nat.{◌+◌}
use Rattle.listing.specs.Listing.{held}
use Rattle.volume_sum.proofs.Edges.{LowestAmong}
use Rattle.volume_sum.proofs.faces.lowest_of_face.Given as goal

abbrev pub invariant-loop-edge : goal.invariant-loop-edge
invariant-loop-edge l = LowestAmong (held l.cell.slices) l.i (l.edge-index + 1) l.lowest
