-- The subs are where the element's rank begins, which is after the rank below.
use Rattle.valid_incidence.proofs.Matched.{incident}
use Rattle.valid_diamond.proofs.Sections.{subs_there, subs_under}
use Rattle.valid_diamond.proofs.dyadic.subs_of.Goals as goal

pub side_of-requires : goal.side_of-requires
side_of-requires c =
    let at = c.requires.b_value in
    subs_there _ c.args.cell.shaped _ _ _ _ _ c.from.ensures at.0 at.1 c.from-2.ensures c.requires.in_rank

pub returns : goal.returns
returns c =
    let at = c.requires.b_value in
    let S = c.args.cell.shaped in
    let I = incident c.args.cell.slices c.args.cell.matched in
    subs_under _ S _ _ _ _ _ c.from.ensures at.0 at.1 c.from-2.ensures c.requires.in_rank I _ c.side_of.ensures
