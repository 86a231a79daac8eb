-- Invariant: the pairs of the first a elements of the block's first rank are written.
use Rattle.listing_sups.specs.Filling.{Put}
use Rattle.product_element.specs.Writing.{lists_in, number_in}
use Rattle.product_writing.proofs.pairs.put_block.Given as goal

abbrev pub invariant-loop-a : goal.invariant-loop-a
invariant-loop-a l =
    Put (lists_in l.factors) (number_in l.factors l.block 0 0) (number_in l.factors l.block l.a 0) l.to
    l.initial.ends l.initial.inc l.ends l.inc
