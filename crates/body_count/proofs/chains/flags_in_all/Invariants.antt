-- Invariant: the elements of the ranks below r have their numbers, and b is where the rank below r begins.
use mathlib.Core.Path.{◌≡◌}
use Prim.Native.Nat.{◌-◌}
use Rattle.listing.specs.Listing.{held, before}
use Rattle.body_count.specs.Capped.{CountedBelow}
use Rattle.body_count.proofs.chains.flags_in_all.Given as goal

abbrev pub invariant-loop-r : goal.invariant-loop-r
invariant-loop-r l =
    (l.b ≡ before l.cell.slices.counts.now (l.r - 1)) × CountedBelow (held l.cell.slices) l.r 0 l.numbers
