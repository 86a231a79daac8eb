use Rattle.body_count.proofs.Counted.{count_next}
use Rattle.body_count.proofs.chains.count_rank.Goals as goal

pub loop-i-preserved : goal.loop-i-preserved
loop-i-preserved c =
    count_next c.args.cell.slices c.args.cell.shaped _ _ _ c.requires.b_value c.from.ensures _ c.loop-i-test.true
    c.args.cell.matched _ c.side_of-subs.ensures _ c.loop-i.invariant _ c.sum_of.ensures _ c.from-in-loop-i.ensures
