-- `fill_rank`. Invariant: what the first k elements of the rank above list is gathered, and the cursors are raised by
-- as many.
-- Assumes nothing.
use lib.ListN.{length}
use Rattle.listing.specs.Listing.{subs_at}
use Rattle.listing.specs.Layers.{gather}
use Rattle.listing_sups.specs.Sups.{Raised, Strewn}
use Rattle.listing_sups.proofs.sups.fill_rank.Given as goal

abbrev pub invariant-loop-k : goal.invariant-loop-k
invariant-loop-k l =
    let f = subs_at l.ends l.initial.inc l.here in
    Raised l.from l.n (λ y. length (gather f y l.k)) l.initial.next l.next
    × Strewn l.from l.n (λ y. gather f y l.k) l.initial.next l.initial.inc l.inc
