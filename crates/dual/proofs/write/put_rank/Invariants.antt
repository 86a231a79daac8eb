-- `put_rank`. Invariant: the lists of the first k elements are written.
-- Assumes nothing.
use Prim.Native.Nat.{◌*◌}
use Rattle.dual.specs.Writing.{turned_from, ListsPut}
use Rattle.dual.proofs.write.put_rank.Given as goal

abbrev pub invariant-loop-k : goal.invariant-loop-k
invariant-loop-k l =
    ListsPut (turned_from l.cell.slices.ends.now l.cell.slices.inc.now l.here) (2 * l.k) l.initial.q l.initial.ends l.initial.inc l.ends l.inc l.q
