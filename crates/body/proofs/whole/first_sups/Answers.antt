-- One more rank is written.
use native.Mathlib.Omega.{arith}
use lib.ListN.{length-set}
use Rattle.body.proofs.FirstSups.{next_begins, next_written}
use Rattle.body.proofs.whole.first_sups.Goals as goal

pub loop-r-preserved : goal.loop-r-preserved
loop-r-preserved c =
    let l = c.loop-r in
    let I = l.invariant in
    let s = c.args.cell.slices in
    let C = c.args.cell.closed in (
      next_begins s C l.r l.here l.flag I.0 (omega arith) c.loop-r-test.true I.2 _ c.from-here.ensures,
      simp length-set I.1,
      next_written s C l.r l.here l.flag I.0 (omega arith) c.loop-r-test.true I.2 _ c.side_of-sups.ensures I.1,
    )
