-- `first_of_two`. Invariant: to the i bytes so far come those of what is left that belong to the first text.
-- Assumes nothing.
use Rattle.std.proofs.Common.{◌≡◌, ◌+◌, drop}
use Rattle.cellbuild.specs.Two.{first_of_two}
use Rattle.cellbuild.proofs.two.first_of_two.Given as goal

abbrev pub invariant-loop-i : goal.invariant-loop-i
invariant-loop-i l = first_of_two l.both ≡ l.i + first_of_two (drop l.i l.both)
