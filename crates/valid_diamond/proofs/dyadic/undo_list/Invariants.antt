-- Invariant: the tally at hand is that of the start, with the counts of the indices so far set back; and `left` of its
-- counts are not 0.
use mathlib.Core.Path.{◌≡◌}
use Rattle.listing.specs.Listing.{limits}
use Rattle.valid_diamond.specs.Tally.{MetIn, undone}
use Rattle.valid_diamond.proofs.Undoing.{taken}
use Rattle.valid_diamond.proofs.dyadic.undo_list.Given as goal

abbrev pub invariant-loop-sub_sub : goal.invariant-loop-sub_sub
invariant-loop-sub_sub l = (l.tally ≡ undone (taken l.yielded) l.initial.tally) × MetIn limits.elements l.tally l.left
