-- Invariant: the blocks whose first member is of a rank below i are written.
use Rattle.listing_sups.specs.Filling.{Put}
use Rattle.product_element.specs.Writing.{lists_in, begins_in}
use Rattle.product_writing.proofs.pairs.put_rank.Given as goal

abbrev pub invariant-loop-i : goal.invariant-loop-i
invariant-loop-i l =
    Put (lists_in l.factors) (begins_in l.factors l.rank 0) (begins_in l.factors l.rank l.i) l.to
    l.initial.ends l.initial.inc l.ends l.inc
