-- Invariant: rank r begins at place here, and the answer to the whole is the answer from rank r on.
use mathlib.Core.Path.{◌≡◌}
use Prim.Native.Nat.{ℕ}
use lib.ListN.{length}
use Rattle.listing.specs.Answers.{first_of}
use Rattle.listing.specs.Listing.{held, count, before}
use Rattle.valid_incidence.specs.Incidence.{element_test}
use Rattle.valid_incidence.proofs.incidence.check_all.Given as goal

abbrev pub invariant-loop-r : goal.invariant-loop-r
invariant-loop-r l =
    let L = held l.cell.slices in
    let test = λ (r : ℕ). first_of (element_test L r) 0 (count L r) in
    (l.here ≡ before L.counts l.r) × (first_of test 0 (length L.counts) ≡ first_of test l.r (length L.counts))
