-- Invariant: the rank below r begins at place b, the answer to the whole is the answer from rank r on, and the tally is
-- that of nothing.
use mathlib.Core.Path.{◌≡◌}
use mathlib.Core.List.{[]}
use Prim.Native.Nat.{ℕ, ◌+◌, ◌-◌}
use Rattle.listing.specs.Answers.{first_of}
use Rattle.listing.specs.Listing.{held, limits, count, before}
use Rattle.valid_diamond.specs.Dyadic.{sections_test, dyadic_test}
use Rattle.valid_diamond.specs.Tally.{Tally}
use Rattle.valid_diamond.proofs.dyadic.check_up_to.Given as goal

abbrev pub invariant-loop-r : goal.invariant-loop-r
invariant-loop-r l =
    let L = held l.cell.slices in
    let test = λ (r : ℕ). first_of (sections_test L r) 0 (count L r) in
    (l.b ≡ before L.counts (l.r - 1))
    × (dyadic_test L l.high ≡ first_of test l.r (l.high + 1))
    × Tally limits.elements l.tally []
