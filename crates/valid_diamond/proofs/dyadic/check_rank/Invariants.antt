-- Invariant: the answer for the whole rank is the answer from this element on, and the tally is that of nothing.
use mathlib.Core.Path.{◌≡◌}
use mathlib.Core.List.{[]}
use Rattle.listing.specs.Answers.{first_of}
use Rattle.listing.specs.Listing.{held, limits}
use Rattle.valid_diamond.specs.Dyadic.{sections_test}
use Rattle.valid_diamond.specs.Tally.{Tally}
use Rattle.valid_diamond.proofs.dyadic.check_rank.Given as goal

abbrev pub invariant-loop-index : goal.invariant-loop-index
invariant-loop-index l =
    let test = sections_test (held l.cell.slices) l.r in
    (first_of test 0 l.index-end ≡ first_of test l.index l.index-end) × Tally limits.elements l.tally []
