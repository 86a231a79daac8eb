-- Invariant: the answer for the whole rank is the answer from element i on.
use mathlib.Core.Path.{◌≡◌}
use Rattle.listing.specs.Answers.{first_of}
use Rattle.listing.specs.Listing.{held}
use Rattle.valid_incidence.specs.Incidence.{element_test}
use Rattle.valid_incidence.proofs.incidence.check_rank.Given as goal

abbrev pub invariant-loop-i : goal.invariant-loop-i
invariant-loop-i l =
    let test = element_test (held l.cell.slices) l.r in
    first_of test 0 l.i-end ≡ first_of test l.i l.i-end
