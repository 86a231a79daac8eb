-- Invariant: the pairs of the ranks below `rank` are written, and `start` is the number of the next.
use mathlib.Core.Path.{◌≡◌}
use Prim.Native.Nat.{◌+◌}
use Rattle.listing_sups.specs.Filling.{Put}
use Rattle.product_pairs.specs.Trimmed.{bit}
use Rattle.product_places.specs.Places.{pairs_to}
use Rattle.product_element.specs.Writing.{lists_in, begins_in}
use Rattle.product_writing.proofs.pairs.put_ranks.Given as goal

abbrev pub invariant-loop-rank : goal.invariant-loop-rank
invariant-loop-rank l = record {
  begins : l.start ≡ bit l.factors.poles.min + pairs_to l.p l.q l.rank;
  put : Put (lists_in l.factors) (begins_in l.factors 0 0) (begins_in l.factors l.rank 0) l.to
      l.initial.ends l.initial.inc l.ends l.inc;
}
