-- Each index that is taken stands in the list, and at the end all were taken.
use Rattle.std.proofs.Common.{refl, arith}
use Rattle.valid_diamond.specs.Tally.{undone}
use Rattle.valid_diamond.proofs.Undoing.{taken_in, taken_all, index_more}
use Rattle.valid_diamond.proofs.dyadic.undo_list.Goals as goal

pub loop-sub_sub-init : goal.loop-sub_sub-init
unfolding undone
loop-sub_sub-init c = (refl, c.requires.met_in)

pub undo_count-left-requires : goal.undo_count-left-requires
undo_count-left-requires c =
    let loop = c.loop-sub_sub in
    let stands = taken_in c.args.subs.now _ _ _ (cc) _ loop.yielded_by _ _ c.in-Some.is c.next.ensures.steps in
    (omega (arith, c.requires.by_index _ stands), loop.invariant.1)

pub loop-sub_sub-preserved : goal.loop-sub_sub-preserved
loop-sub_sub-preserved c =
    let loop = c.loop-sub_sub in
    let now = c.undo_count-left.ensures in
    let start = c.args.tally.now in
    let e = index_more loop.yielded c.in-Some.field-0 start _ _ loop.invariant.0 _ c.from.ensures now.tally_after in
    (e, now.met_in)

pub returns-clause-tally_after : goal.returns-clause-tally_after
returns-clause-tally_after c =
    let e = taken_all c.args.subs.now _ _ _ (cc) _ c.loop-sub_sub.yielded_by _ c.in-None.is c.next.ensures.steps in
    cc
