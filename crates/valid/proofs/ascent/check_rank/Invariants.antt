-- Invariant: the answer for the whole rank is the answer from element i on.
use mathlib.Core.Path.{◌≡◌}
use Rattle.listing.specs.Answers.{first_of}
use Rattle.listing.specs.Listing.{held}
use Rattle.valid.specs.Ascent.{element_ascent}
use Rattle.valid.proofs.ascent.check_rank.Given as goal

abbrev pub invariant-loop-i : goal.invariant-loop-i
invariant-loop-i l =
    let test = element_ascent (held l.cell.slices) l.r in
    first_of test 0 l.i-end ≡ first_of test l.i l.i-end
