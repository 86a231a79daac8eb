-- `fill_element`. Invariant: k is written for the entries from place `lo` up to t, at the cursor of each, and the
-- cursors are raised by as many.
-- Assumes nothing.
use Prim.Native.Nat.{◌-◌}
use lib.ListN.{replicate, take}
use Rattle.order.specs.Lists.{occurs}
use Rattle.listing_sups.specs.Sups.{Raised, Strewn, span}
use Rattle.listing_sups.proofs.sups.fill_element.Given as goal

abbrev pub invariant-loop-t : goal.invariant-loop-t
invariant-loop-t l =
    let read = take (l.t - l.lo) (span l.initial.inc l.lo l.hi) in
    Raised l.from l.n (λ y. occurs y read) l.initial.next l.next
    × Strewn l.from l.n (λ y. replicate (occurs y read) l.k) l.initial.next l.initial.inc l.inc
