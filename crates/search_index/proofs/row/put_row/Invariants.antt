-- Invariant: the table is the one that came, with j numbers of the flag put in at the row.
-- Assumes nothing.
use mathlib.Core.Path.{◌≡◌}
use lib.ListN.{length}
use lib.Seq.{paste}
use Rattle.search_index.proofs.row.put_row.Given as goal

abbrev pub invariant-loop-j : goal.invariant-loop-j
invariant-loop-j l = (length l.table ≡ length l.initial.table) × (l.table ≡ paste l.initial.table l.from l.flag l.j)
