-- The laws of one list, at what the tally counted before: it begins, it goes on, it ends.
use native.Mathlib.Omega.{arith}
use Rattle.valid_diamond.proofs.Totals.{totals_more}
use Rattle.valid_diamond.proofs.Walks.{inside_at, walked_none, list_more, list_done}
use Rattle.valid_diamond.proofs.dyadic.tally_list.Goals as goal

pub loop-sub_sub-init : goal.loop-sub_sub-init
loop-sub_sub-init c = (c.requires.le_rank.1, λ seen T. walked_none _ seen T)

pub loop-sub_sub-preserved : goal.loop-sub_sub-preserved
loop-sub_sub-preserved c =
    let at = c.loop-sub_sub-test.true in
    let v = c.loop-sub_sub.invariant in
    let e = c.totals_after.ensures in (
      totals_more _ _ _ v.0 _ (omega (arith, inside_at _ _ _ c.requires.by_index at)) (omega arith) _ _ e.0 e.1,
      λ seen T. list_more seen _ _ c.requires.by_index at _ c.from-at.ensures _ (v.1 seen T) (omega arith),
    )

pub returns-clause-tallied : goal.returns-clause-tallied
returns-clause-tallied c =
    λ seen T. list_done _ seen _ _ (c.loop-sub_sub.invariant.1 seen T) c.loop-sub_sub-test.false
