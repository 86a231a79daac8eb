-- `text_length`. Invariant: n is how long the first line and the lines of the ranks before rank r are, which begins at
-- place here, and no rank has lines longer than is said.
-- Assumes nothing.
use mathlib.Core.Path.{◌≡◌}
use Prim.Native.Nat.{◌+◌, ◌*◌, ◌≤◌}
use lib.ListN.{length}
use Rattle.listing.specs.Listing.{held, width, before}
use Rattle.listing.specs.Layers.{layers}
use Rattle.listing.specs.Written.{joined}
use Rattle.text_theory.specs.Text.{rank_bytes}
use Rattle.text_writing.proofs.Ranks.{rank_first}
use Rattle.text_writing.proofs.length.text_length.Given as goal

abbrev pub invariant-loop-r : goal.invariant-loop-r
invariant-loop-r l = let L = held l.cell.slices in
    (l.here ≡ before L.counts l.r) × (l.n ≡ length (rank_first L) + length (joined (rank_bytes (layers L)) l.r))
    × (l.n ≤ 8 * width * width * (l.r + 1))
