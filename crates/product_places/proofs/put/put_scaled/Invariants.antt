-- `put_scaled`. Invariant: the first j numbers of the list are written, each scaled and moved, and nothing else.
-- Assumes nothing.
use Prim.Native.Nat.{◌+◌, ◌*◌}
use lib.ListN.{get_or}
use Rattle.listing.specs.Laid.{Laid}
use Rattle.product_places.proofs.put.put_scaled.Given as goal

abbrev pub invariant-loop-j : goal.invariant-loop-j
invariant-loop-j l = Laid l.at (λ k. l.off + get_or l.list k 0 * l.scale) l.j l.initial.d l.d
