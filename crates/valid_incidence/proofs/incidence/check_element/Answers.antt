-- Both lists of the element are where the code looks, and so are its neighbours'. Then the first refusal of the two.
use mathlib.Core.Path.{◌∙◌}
use native.Mathlib.Omega.{arith}
use Rattle.listing.specs.Listing.{held}
use Rattle.listing.proofs.Listing.{rank_there}
use Rattle.listing.proofs.Places.{side_fits, side_at, few_before}
use Rattle.listing.proofs.Told.{told_err, then_ok, then_halt}
use Rattle.valid_incidence.proofs.Entries.{list_same}
use Rattle.valid_incidence.proofs.Ways.{down_fits, up_fits}
use Rattle.valid_incidence.specs.Incidence.{element_test}
use Rattle.valid_incidence.proofs.incidence.check_element.Goals as goal

pub side_of-subs-requires : goal.side_of-subs-requires
side_of-subs-requires c =
    rw c.requires.0 (side_fits _ c.args.cell.shaped c.args.r c.args.i 0 c.requires.1 (omega arith))

pub check_list-requires : goal.check_list-requires
check_list-requires c = rw c.way_down.ensures (down_fits _ c.args.cell.shaped c.args.r)

pub returns-in_err-check_list : goal.returns-in_err-check_list
unfolding element_test
returns-in_err-check_list c =
    let lower = list_same _ _ _ _ _ _ c.way_down.ensures (c.side_of-subs.ensures ∙ side_at _ _ _ _ _ c.requires.0) in
    told_err _ _ c.from_residual.ensures.1 ∙ then_halt _ _ (c.in_err-check_list.ensures ∙ lower)

pub side_of-sups-requires : goal.side_of-sups-requires
side_of-sups-requires c =
    rw c.requires.0 (side_fits _ c.args.cell.shaped c.args.r c.args.i 1 c.requires.1 (omega arith))

pub way_up-requires-clause-r_in_bounds : goal.way_up-requires-clause-r_in_bounds
way_up-requires-clause-r_in_bounds c =
    let L = held c.args.cell.slices in
    let there = rank_there L c.args.r c.args.i c.requires.1 in
    (there, omega (arith, few_before L c.args.cell.shaped c.args.r))

pub check_list-requires-2 : goal.check_list-requires-2
check_list-requires-2 c = rw c.way_up.ensures (up_fits _ c.args.cell.shaped c.args.r)

pub returns : goal.returns
unfolding element_test
returns c =
    let lower = list_same _ _ _ _ _ _ c.way_down.ensures (c.side_of-subs.ensures ∙ side_at _ _ _ _ _ c.requires.0) in
    let upper = list_same _ _ _ _ _ _ c.way_up.ensures (c.side_of-sups.ensures ∙ side_at _ _ _ _ _ c.requires.0) in
    then_ok _ (c.in_ok-check_list.ensures ∙ lower) _ (c.check_list-2.ensures ∙ upper)
