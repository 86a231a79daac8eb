-- Invariant: the ranks below r are written, and here is where the rank below r begins.
use mathlib.Core.Path.{◌≡◌}
use Prim.Native.Nat.{◌-◌}
use lib.ListN.{length}
use Rattle.listing.specs.Listing.{held, limits, before}
use Rattle.body.proofs.FirstSups.{WrittenTo}
use Rattle.body.proofs.whole.first_sups.Given as goal

abbrev pub invariant-loop-r : goal.invariant-loop-r
invariant-loop-r l =
    (l.here ≡ before l.cell.slices.counts.now (l.r - 1)) × (length l.flag ≡ limits.ranks)
    × WrittenTo (held l.cell.slices) l.r l.flag
