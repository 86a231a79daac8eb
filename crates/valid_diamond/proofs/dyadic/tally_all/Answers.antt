-- The laws of a walk over lists: it begins, it stops at a list's refusal, it goes on, it ends.
use Rattle.valid_diamond.proofs.Totals.{totals_none}
use Rattle.valid_diamond.proofs.Walks.{walk_none, walk_more, walk_halt, walk_done}
use Rattle.valid_diamond.proofs.dyadic.tally_all.Goals as goal

pub loop-sub-init : goal.loop-sub-init
loop-sub-init c = let T = c.requires.le_rank.1 in (totals_none _ T, walk_none _ _ _ _ _ T)

pub returns-in_err-tally_list-clause-tallied : goal.returns-in_err-tally_list-clause-tallied
returns-in_err-tally_list-clause-tallied c =
    let w = c.loop-sub.invariant.1 in
    let counted = c.in_err-tally_list.ensures.tallied in
    let why = c.from_residual.ensures.1 in
    walk_halt _ _ _ _ _ _ _ w c.loop-sub-test.true c.side_of.ensures _ _ why counted

pub loop-sub-preserved : goal.loop-sub-preserved
loop-sub-preserved c =
    let w = c.loop-sub.invariant.1 in
    let e = c.in_ok-tally_list.ensures in
    (e.totals_in, walk_more _ _ _ _ _ _ _ w c.loop-sub-test.true c.side_of.ensures e.tallied)

pub returns-clause-tallied : goal.returns-clause-tallied
returns-clause-tallied c = walk_done _ _ _ _ _ _ _ c.loop-sub.invariant.1 c.loop-sub-test.false
