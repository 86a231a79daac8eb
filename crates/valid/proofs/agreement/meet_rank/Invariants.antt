-- Invariant: the subs of the elements before x ascend, exist and are not none, and the cursors have met what is
-- gathered from them.
use Rattle.listing.specs.Listing.{subs_at}
use Rattle.listing.specs.Layers.{gather}
use Rattle.valid.specs.Agreement.{AllBelow, Met}
use Rattle.valid.proofs.agreement.meet_rank.Given as goal

abbrev pub invariant-loop-x : goal.invariant-loop-x
invariant-loop-x l =
    let inc = l.cell.slices.inc.now in
    let subs = subs_at l.cell.slices.ends.now inc l.high.place in
    AllBelow l.low.size subs l.x × Met inc l.low.size (λ y. gather subs y l.x) l.initial.next l.next
