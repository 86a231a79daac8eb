-- Invariant: the tally at hand is that of the start, with the counts of the lists so far set back; and `left` of its
-- counts are not 0.
use mathlib.Core.Path.{◌≡◌}
use Rattle.listing.specs.Listing.{limits}
use Rattle.valid_diamond.specs.Dyadic.{subs_of_all}
use Rattle.valid_diamond.specs.Tally.{MetIn, undone}
use Rattle.valid_diamond.proofs.Undoing.{taken}
use Rattle.valid_diamond.proofs.dyadic.undo_all.Given as goal

abbrev pub invariant-loop-sub : goal.invariant-loop-sub
invariant-loop-sub l =
    let walked = subs_of_all l.cell.slices.ends.now l.cell.slices.inc.now l.b (taken l.yielded) in
    (l.tally ≡ undone walked l.initial.tally) × MetIn limits.elements l.tally l.left
