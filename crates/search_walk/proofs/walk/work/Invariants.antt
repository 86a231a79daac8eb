-- Invariant: the flag at hand is the kth row as it was at first, and meeting the changes that are left leads from here
-- to the same state as meeting all of them led to from the start. The measure is the mask that is left.
use mathlib.Core.Path.{◌≡◌}
use Prim.Native.Nat.{◌-◌}
use lib.ListN.{length, get_or}
use Rattle.listing.specs.Listing.{held}
use Rattle.search_index.specs.Rows.{row_of}
use Rattle.search_walk.proofs.Runs.{worked}
use Rattle.search_walk.proofs.Works.{Working}
use Rattle.search_walk.proofs.walk.work.Given as goal

abbrev pub invariant-loop-flag : goal.invariant-loop-flag
invariant-loop-flag l =
    let L = held l.cell.slices in
    let i = l.initial in
    let f = row_of (length L.counts) i.store.table.now l.k in
    (l.flag ≡ f)
    × Working L i.store i.s (1 - get_or i.store.bytes.now l.k 0) f (worked L l.mask i.store i.s l.k) l.store l.left l.s

abbrev pub decreases-loop-flag : goal.decreases-loop-flag
decreases-loop-flag l = l.left
