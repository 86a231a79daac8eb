-- Each sub that is taken stands in the list. Where none of the counts is left, and where all subs were taken, the tally
-- is that of nothing.
use Rattle.std.proofs.Common.{refl}
use Rattle.valid_diamond.specs.Dyadic.{subs_of_all}
use Rattle.valid_diamond.specs.Tally.{undone}
use Rattle.valid_diamond.proofs.Totals.{left_none}
use Rattle.valid_diamond.proofs.Undoing.{taken_in, taken_all, subs_more, walk_undone}
use Rattle.valid_diamond.proofs.dyadic.undo_all.Goals as goal

pub loop-sub-init : goal.loop-sub-init
unfolding undone subs_of_all
loop-sub-init c = (refl, c.requires.met_in)

pub returns-then-left-eq0 : goal.returns-then-left-eq0
returns-then-left-eq0 c = (left_none _ _ c.loop-sub.invariant.1).0 c.if-left-eq0.true

pub side_of-requires : goal.side_of-requires
side_of-requires c =
    let stands = taken_in c.args.subs.now _ _ _ (cc) _ c.loop-sub.yielded_by _ _ c.in-Some.is c.next.ensures.steps in
    c.requires.walkable.there _ stands

pub undo_list-left-requires-clause-by_index : goal.undo_list-left-requires-clause-by_index
undo_list-left-requires-clause-by_index c =
    let stands = taken_in c.args.subs.now _ _ _ (cc) _ c.loop-sub.yielded_by _ _ c.in-Some.is c.next.ensures.steps in
    λ x m. c.requires.walkable.inside _ x stands (rw c.side_of.ensures at m)

pub loop-sub-preserved : goal.loop-sub-preserved
loop-sub-preserved c =
    let loop = c.loop-sub in
    let now = c.undo_list-left.ensures in
    let more = subs_more loop.yielded c.in-Some.field-0 c.args.tally.now in
    (more _ _ _ _ _ loop.invariant.0 _ c.side_of.ensures now.tally_after, now.left_in)

pub returns : goal.returns
returns c =
    let e = taken_all c.args.subs.now _ _ _ (cc) _ c.loop-sub.yielded_by _ c.in-None.is c.next.ensures.steps in
    rw (c.loop-sub.invariant.0, e) (walk_undone _ _ c.requires.tally)
