-- `put_ranks`. Invariant: the lines of the ranks before rank r are written, which begins at place here.
-- Assumes nothing.
use mathlib.Core.Path.{◌≡◌}
use Rattle.listing.specs.Listing.{held, before}
use Rattle.listing.specs.Layers.{layers}
use Rattle.listing.specs.Written.{joined}
use Rattle.text_theory.specs.Text.{rank_bytes}
use Rattle.text_writing.specs.Writing.{PutAt}
use Rattle.text_writing.proofs.write.put_ranks.Given as goal

abbrev pub invariant-loop-r : goal.invariant-loop-r
invariant-loop-r l = (l.here ≡ before l.cell.slices.counts.now l.r)
    × PutAt (joined (rank_bytes (layers (held l.cell.slices))) l.r) l.at l.initial.text l.text l.p
