-- Invariant: the cursors of the first k elements are set, and no other has changed.
use Prim.Native.Nat.{◌+◌, ◌*◌}
use lib.ListN.{get_or}
use Rattle.listing.specs.Laid.{Laid}
use Rattle.listing.proofs.reading.set_cursors.Given as goal

abbrev pub invariant-loop-k : goal.invariant-loop-k
invariant-loop-k l = Laid 0 (λ i. get_or l.ends (2 * (l.place + i)) 0) l.k l.initial.next l.next
