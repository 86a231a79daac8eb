-- Invariant: the pairs of element a with the first b elements of the block's second rank are written.
use Rattle.listing_sups.specs.Filling.{Put}
use Rattle.product_element.specs.Writing.{lists_in, number_in}
use Rattle.product_element.proofs.pair.put_pairs_of.Given as goal

abbrev pub invariant-loop-b : goal.invariant-loop-b
invariant-loop-b l =
    Put (lists_in l.factors) (number_in l.factors l.block l.a 0) (number_in l.factors l.block l.a l.b) l.to
    l.initial.ends l.initial.inc l.ends l.inc
