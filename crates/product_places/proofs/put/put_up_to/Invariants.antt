-- `put_up_to`. Invariant: the numbers below j are written, and nothing else.
-- Assumes nothing.
use Rattle.listing.specs.Laid.{Laid}
use Rattle.product_places.proofs.put.put_up_to.Given as goal

abbrev pub invariant-loop-j : goal.invariant-loop-j
invariant-loop-j l = Laid l.at (λ k. k) l.j l.initial.d l.d
