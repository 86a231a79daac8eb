-- `put_ranks`. There is room for the lines of the next rank, as there is for all. Assumes nothing.
use native.Mathlib.Omega.{arith}
use mathlib.Core.Path.{sym}
use Prim.Native.Nat.{◌+◌}
use Rattle.listing.proofs.Listing.{before_zero, before_next}
use Rattle.listing.proofs.Places.{few_before}
use Rattle.text_writing.proofs.Parts.{parts_none, parts_room, parts_next}
use Rattle.text_writing.proofs.write.put_ranks.Goals as goal

pub loop-r-init : goal.loop-r-init
loop-r-init c = (sym (before_zero c.args.cell.slices.counts.now), parts_none _ _ _)

pub put_rank-p-requires-clause-r_bound : goal.put_rank-p-requires-clause-r_bound
put_rank-p-requires-clause-r_bound c =
    parts_room _ _ _ _ _ _ c.loop-r.invariant.1 _ c.loop-r-test.true c.requires

pub overflow_add-here : goal.overflow_add-here
overflow_add-here c =
    let b = before_next c.args.cell.slices.counts.now c.loop-r.r in
    omega (arith, b, few_before _ c.args.cell.shaped (c.loop-r.r + 1))

pub loop-r-preserved : goal.loop-r-preserved
loop-r-preserved c =
    let w = parts_next _ _ _ _ _ _ c.loop-r.invariant.1 _ _ c.put_rank-p.ensures in
    (omega (arith, before_next c.args.cell.slices.counts.now c.loop-r.r), w)
