-- `put_lists`. Invariant: the lists of the ranks from rank r on, which begins at place `here`, are written: in the dual
-- those of the first ranks. The r counts that are left are the first ones.
-- Assumes nothing.
use mathlib.Core.Path.{◌≡◌}
use Rattle.listing.specs.Listing.{held, before}
use Rattle.dual.specs.Writing.{ListsPut}
use Rattle.dual.proofs.Backward.{FirstLeft, left_of}
use Rattle.dual.proofs.Putting.{none}
use Rattle.dual.proofs.Turned.{dual_list}
use Rattle.dual.proofs.RankPut.{put_of}
use Rattle.dual.proofs.write.put_lists.Given as goal

abbrev pub invariant-loop-n : goal.invariant-loop-n
invariant-loop-n l =
    let L = held l.cell.slices in
    let r = left_of l.n-iterator.iter in
    FirstLeft l.cell.slices.counts.now l.n-iterator.iter × (l.here ≡ before l.cell.slices.counts.now r)
    × ListsPut (dual_list L) (put_of L r) none l.initial.ends l.initial.inc l.ends
    l.inc l.p
