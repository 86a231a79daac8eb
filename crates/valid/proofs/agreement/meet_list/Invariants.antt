-- Invariant: the subs so far ascend, exist and are below `from`, and the cursors have met x for each of them.
use Prim.Native.Nat.{ℕ, ◌<◌}
use lib.ListN.{take, replicate}
use Rattle.order.specs.Lists.{In, occurs}
use Rattle.valid.specs.Agreement.{AscendsBelow, Met}
use Rattle.valid.proofs.agreement.meet_list.Given as goal

abbrev pub invariant-loop-s : goal.invariant-loop-s
invariant-loop-s l =
    let so_far = take l.s-index l.subs in
    AscendsBelow l.low.size so_far × ((y : ℕ) → In y so_far → y < l.from)
    × Met l.cell.slices.inc.now l.low.size (λ y. replicate (occurs y so_far) l.x) l.initial.next l.next
