use Rattle.search_walk.proofs.AtHand.{hand_met}
use Rattle.search_walk.proofs.walk.try_next.Goals as goal

pub returns-clause-moved : goal.returns-clause-moved
returns-clause-moved c =
    hand_met c.args.cell.slices c.args.cell.closed _ _ c.requires.at_hand _ c.requires.r_inside _ c.from-at.ensures _
    (rw c.cell.ensures at c.replaced_at-p.ensures) _ _ _ _ _ c.meet-met.ensures
