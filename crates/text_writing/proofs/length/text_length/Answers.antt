-- `text_length`. The line of the rank, and the lines of each rank. Assumes nothing.
use native.Mathlib.Omega.{arith}
use mathlib.Core.Path.{◌≡◌, sym, ◌∙◌}
use Prim.Native.Nat.{◌+◌}
use lib.ListN.{length}
use Rattle.listing.specs.Written.{joined}
use Rattle.listing.proofs.Listing.{before_zero, before_next}
use Rattle.listing.proofs.Places.{few_before}
use Rattle.text_writing.proofs.Ranks as ranks
use Rattle.text_writing.proofs.length.text_length.Goals as goal

pub loop-r-init : goal.loop-r-init
unfolding joined
loop-r-init c = (sym (before_zero c.args.cell.slices.counts.now), omega arith, omega arith)

pub overflow_add-here : goal.overflow_add-here
overflow_add-here c =
    let b = before_next c.args.cell.slices.counts.now c.loop-r.r in
    omega (arith, b, few_before _ c.args.cell.shaped (c.loop-r.r + 1))

pub returns : goal.returns
returns c =
    let e : c.loop-r.r ≡ length c.args.cell.slices.counts.now = omega arith in
    rw e at c.loop-r.invariant.1 ∙ sym (ranks.text_length _ c.args.cell.shaped)
