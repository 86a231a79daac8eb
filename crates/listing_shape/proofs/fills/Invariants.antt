-- Invariant: the answer for all the ends is the answer for those that are left, begun at `from`.
use Rattle.listing.specs.Shape.{fills}
use Rattle.std.proofs.Common.{◌≡◌, drop}
use Rattle.listing_shape.proofs.fills.Given as goal

abbrev pub invariant-loop-end : goal.invariant-loop-end
invariant-loop-end l = fills 0 l.ends l.n ≡ fills l.from (drop l.end-index l.ends) l.n
