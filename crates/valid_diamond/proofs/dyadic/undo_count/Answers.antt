-- Of the counts that are not 0 there is one less where one is set back.
use Rattle.valid_diamond.proofs.Totals.{left_less}
use Rattle.valid_diamond.proofs.dyadic.undo_count.Goals as goal

pub returns-clause-met_in : goal.returns-clause-met_in
returns-clause-met_in c = left_less _ _ c.requires.1 _ c.requires.0 c.if-tally-at-eq0.false
