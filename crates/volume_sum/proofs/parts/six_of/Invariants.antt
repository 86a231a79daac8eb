-- `six_of`. Invariant: `six` is what the even ones of the rows before k add, worked out in floats.
-- Assumes nothing.
use mathlib.Core.Path.{◌≡◌}
use lib.ListN.{length}
use Rattle.listing.specs.Listing.{held}
use Rattle.search_theory.specs.Search.{evens}
use Rattle.search_index.specs.Rows.{rows}
use Rattle.volume_metres.specs.Formulas.{in_floats}
use Rattle.volume_theory.specs.Six.{six_formula}
use Rattle.volume_sum.proofs.parts.six_of.Given as goal

abbrev pub invariant-loop-k : goal.invariant-loop-k
invariant-loop-k l = l.six
    ≡ in_floats l.coordinates
    (six_formula (held l.cell.slices) (evens (rows (length l.cell.slices.counts.now) l.table l.k) l.orientations))
