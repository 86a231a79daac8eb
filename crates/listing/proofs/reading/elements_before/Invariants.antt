-- Invariant: n is the number of elements of the ranks below q, which are at most `width` of each.
use mathlib.Core.Path.{◌≡◌}
use Prim.Native.Nat.{◌*◌, ◌≤◌}
use Rattle.listing.specs.Listing.{width, before}
use Rattle.listing.proofs.reading.elements_before.Given as goal

abbrev pub invariant-loop-q : goal.invariant-loop-q
invariant-loop-q l = (l.n ≤ width * l.q) × (l.n ≡ before l.counts l.q)
