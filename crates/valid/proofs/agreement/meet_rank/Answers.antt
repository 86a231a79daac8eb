-- One element after another; a no on the way promises nothing.
-- Assumes nothing.
use Rattle.listing.specs.Listing.{subs_at}
use Prim.Native.Nat.{◌<◌}
use lib.ListN.{length}
use Rattle.std.proofs.lemmas.Bool.Decides.{nat_tests}
use native.Mathlib.Omega.{arith}
use Rattle.valid.proofs.Agreeing.{all_below_next, met_all_next}
use Rattle.valid.proofs.agreement.meet_rank.Goals as goal

pub loop-x-preserved : goal.loop-x-preserved
loop-x-preserved c =
    let l = c.loop-x in
    let f = subs_at c.args.cell.slices.ends.now c.args.cell.slices.inc.now c.args.high.place in
    let e = c.side_of-subs.ensures in
    let m = c.meet_list.ensures in
    let t = c.if-not-meet_list.false in
    let some : 0 < length c.side_of-subs.result.now = grind (arith, nat_tests) in
    let below = all_below_next _ f _ _ e l.invariant.0 some (m.ascends_below t) in
    (below, met_all_next _ f _ _ e _ _ _ _ l.invariant.1 (m.met t))
