-- `is_flag`. Invariant: the next rank begins at place `here`, and the test holds at every rank so far.
-- Assumes nothing.
use mathlib.Core.Path.{◌≡◌}
use mathlib.Core.Bool.{true}
use Rattle.listing.specs.Listing.{held, before}
use Rattle.order.specs.Tests.{every}
use Rattle.flag_change.specs.Flags.{flag_at}
use Rattle.flag_change.proofs.chain.is_flag.Given as goal

abbrev pub invariant-loop-r : goal.invariant-loop-r
invariant-loop-r l =
    let L = held l.cell.slices in
    (l.here ≡ before L.counts l.r) × (every (flag_at L l.flag) l.r ≡ true)
