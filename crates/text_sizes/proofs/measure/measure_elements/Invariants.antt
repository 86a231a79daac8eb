-- `measure_elements`. Invariant: the reading stands before the line of element i, and what was read is noted (Going).
-- Assumes nothing.
use mathlib.Core.Path.{◌≡◌}
use Rattle.listing.specs.Listing.{limits}
use Rattle.text_sizes.proofs.Entering.{Going}
use Rattle.text_sizes.proofs.measure.measure_elements.Given as goal

abbrev pub invariant-loop-i : goal.invariant-loop-i
invariant-loop-i l =
    Going limits l.text l.s l.initial.notes.up l.notes.up l.notes.many l.notes.subs l.at l.incidences l.to l.i
    × (l.notes.counts ≡ l.initial.notes.counts)
