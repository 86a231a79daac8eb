-- Invariant: the answer to the whole is the answer from index x on.
use mathlib.Core.Path.{◌≡◌}
use lib.Dec.{eqb}
use lib.ListN.{get_or}
use Rattle.listing.specs.Answers.{on, first_of}
use Rattle.valid_diamond.specs.Dyadic.{lone}
use Rattle.valid_diamond.specs.Tally.{lone_in}
use Rattle.valid_diamond.proofs.dyadic.check_once.Given as goal

abbrev pub invariant-loop-x : goal.invariant-loop-x
invariant-loop-x l = let f = lone l.of.rank l.of.index in
    lone_in f l.tally l.n ≡ first_of (λ y. on (eqb (get_or l.tally y 0) 1) (f y)) l.x l.n
