-- Invariant: the next rank begins at place `here`, the array of cursors is whole, and the ranks so far agree.
use mathlib.Core.Path.{◌≡◌}
use Prim.Native.Nat.{ℕ, ◌<◌}
use lib.ListN.{length}
use Rattle.listing.specs.Listing.{held, limits, before}
use Rattle.valid.specs.Agreement.{AgreesAt}
use Rattle.valid.proofs.agreement.agree.Given as goal

abbrev pub invariant-loop-r : goal.invariant-loop-r
invariant-loop-r l =
    let L = held l.cell.slices in
    (l.here ≡ before L.counts l.r) × (length l.next ≡ limits.elements) × ((q : ℕ) → q < l.r → AgreesAt L q)
