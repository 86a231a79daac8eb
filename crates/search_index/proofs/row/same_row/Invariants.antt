-- Invariant: the answer to the whole is the answer to what is left.
-- Assumes nothing.
use mathlib.Core.Path.{◌≡◌}
use lib.ListN.{drop}
use Rattle.search_index.specs.Rows.{same_list}
use Rattle.search_index.proofs.row.same_row.Given as goal

abbrev pub invariant-loop-j : goal.invariant-loop-j
invariant-loop-j l = same_list l.row l.flag ≡ same_list (drop l.j l.row) (drop l.j l.flag)
