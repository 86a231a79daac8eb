-- `measure_ranks`. Invariant: the reading stands where the lines of the next rank begin (Arrived), and the counts of
-- the ranks before it are noted (CountsNoted).
-- Assumes nothing.
use mathlib.Core.Path.{◌≡◌}
use Rattle.listing.specs.Listing.{limits}
use Rattle.text_theory.specs.Said.{said}
use Rattle.text_sizes.specs.Measure.{CountsNoted, Arrived}
use Rattle.text_sizes.proofs.measure.measure_ranks.Given as goal

abbrev pub invariant-loop : goal.invariant-loop
invariant-loop l = Arrived limits l.text l.s l.notes.up l.notes.many l.notes.subs
    × CountsNoted limits (said l.text) l.s.rank l.notes.counts × (l.s.rank ≡ l.counter)
