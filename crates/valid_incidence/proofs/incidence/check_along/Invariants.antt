-- Invariant: the answer to the whole list is the answer to what is left of it.
use mathlib.Core.Path.{◌≡◌}
use lib.ListN.{drop}
use Rattle.listing.specs.Answers.{first_in}
use Rattle.valid_incidence.specs.Ways.{entry_test}
use Rattle.valid_incidence.proofs.incidence.check_along.Given as goal

abbrev pub invariant-loop-x : goal.invariant-loop-x
invariant-loop-x l =
    let test = entry_test l.cell.slices.ends.now l.cell.slices.inc.now l.way l.of.rank l.of.index in
    first_in test l.list ≡ first_in test (drop l.x-index l.list)
