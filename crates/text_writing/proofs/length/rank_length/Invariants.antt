-- `rank_length`. Invariant: n is how long the line of the count and those of the first i elements are, and no line is
-- longer than eight times the width.
-- Assumes nothing.
use mathlib.Core.Path.{◌≡◌}
use Prim.Native.Nat.{◌+◌, ◌*◌, ◌≤◌}
use lib.ListN.{length}
use Rattle.listing.specs.Listing.{held, width}
use Rattle.listing.specs.Written.{joined}
use Rattle.text_writing.proofs.Ranks.{count_bytes, subs_bytes}
use Rattle.text_writing.proofs.length.rank_length.Given as goal

abbrev pub invariant-loop-i : goal.invariant-loop-i
invariant-loop-i l = let L = held l.cell.slices in
    (l.n ≡ length (count_bytes L l.r) + length (joined (subs_bytes L l.r) l.i)) × (l.n ≤ 8 * width * (l.i + 1))
