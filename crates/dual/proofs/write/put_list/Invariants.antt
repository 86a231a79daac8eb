-- `put_list`. Invariant: the first j numbers are written, and no other has changed.
-- Assumes nothing.
use lib.ListN.{get_or}
use Rattle.listing.specs.Laid.{Laid}
use Rattle.dual.proofs.write.put_list.Given as goal

abbrev pub invariant-loop-j : goal.invariant-loop-j
invariant-loop-j l = Laid l.p.inc (λ k. get_or l.list k 0) l.j l.initial.inc l.inc
