-- The invariant, after so many numbers of the flag: the sum so far is small, and the sum of the whole is the sum so far
-- and that of what is left.
-- Assumes nothing.
use mathlib.Core.Path.{◌≡◌}
use Prim.Native.Nat.{◌+◌, ◌*◌, ◌≤◌}
use lib.ListN.{length, drop}
use Rattle.listing.specs.Listing.{width}
use Rattle.search_index.specs.Hash.{hashes, sum_from}
use Rattle.search_index.proofs.index.sum_of.Given as goal

abbrev pub invariant-loop-x : goal.invariant-loop-x
invariant-loop-x l =
    let r = length l.yielded in
    (l.sum ≤ r * (width * hashes))
    × (sum_from 0 l.flag ≡ l.sum + sum_from r (drop r l.flag))
