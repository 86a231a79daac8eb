-- `tally_row`. Invariant: what was counted and written, and what is left of the row, make the whole (RowRun). Measure:
-- what is left of the text.
-- Assumes nothing.
use Prim.Native.Nat.{◌-◌}
use lib.ListN.{length}
use Rattle.text_sizes.proofs.Tallies.{RowRun}
use Rattle.text_sizes.proofs.rows.tally_row.Given as goal

abbrev pub invariant-loop-w : goal.invariant-loop-w
invariant-loop-w l = RowRun l.text l.at l.from l.n l.to l.initial.up l.up l.initial.subs l.subs l.i l.count l.named

abbrev pub decreases-loop-w : goal.decreases-loop-w
decreases-loop-w l = length l.text - l.i
