-- `tally_row`. The last number of the row, and any other (RowRun). Assumes nothing.
use Rattle.text_sizes.proofs.Tallies.{row_more, row_last}
use Rattle.text_sizes.proofs.rows.tally_row.Goals as goal

pub returns-else-w-clause-counted : goal.returns-else-w-clause-counted
returns-else-w-clause-counted c =
    let k = c.count_known-named.ensures in
    let q = c.requires.to_bound in
    row_last c.loop-w.invariant c.in-Some.ensures _ k.raised _ k.value q.1 q.0 c.if-w.false

pub loop-w-preserved : goal.loop-w-preserved
loop-w-preserved c =
    let k = c.count_known-named.ensures in
    let q = c.requires.to_bound in
    row_more c.loop-w.invariant c.in-Some.ensures _ k.raised _ k.value q.1 q.0 c.if-w.true
