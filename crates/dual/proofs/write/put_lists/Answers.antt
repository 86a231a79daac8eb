-- `put_lists`: a turn reads the last of the counts that are left (`last_read`), and puts its rank behind those that
-- stand (`rank_then`).
-- Assumes nothing.
use native.Mathlib.Omega.{arith}
use Rattle.std.proofs.Common.{rules}
use Rattle.listing.specs.Listing.{Listing, held}
use Rattle.dual.proofs.Backward.{first_all, none_left, last_read}
use Rattle.dual.proofs.RankPut.{ranks_none, begins, stays, rank_there, rank_ends_room, rank_inc_room, rank_then}
use Rattle.dual.proofs.RankPut.{ranks_ends, ranks_inc}
use Rattle.dual.proofs.write.put_lists.Goals as goal

pub loop-n-init : goal.loop-n-init
loop-n-init c =
    let L : Listing = held c.args.cell.slices in
    let v = first_all c.args.cell.slices.counts.now c.into_iter-n-iterator.result.iter (search rules) in
    (v.0, rw v.1 (omega (arith, c.args.cell.shaped.two_ends_each)), ranks_none L _ _ _ v.1)

pub overflow_sub-here : goal.overflow_sub-here
overflow_sub-here c =
    let L : Listing = held c.args.cell.slices in
    let v = c.loop-n.invariant in
    let p = last_read _ _ _ _ _ v.0 c.in-Some.is c.next.ensures.steps in
    let here = rw p.one at v.1 in
    let w = c.from-here.ensures in
    stays L c.args.cell.shaped _ _ _ _ p.here here w p.n_is

pub put_rank-p-requires : goal.put_rank-p-requires
put_rank-p-requires c =
    let L : Listing = held c.args.cell.slices in
    let v = c.loop-n.invariant in
    let p = last_read _ _ _ _ _ v.0 c.in-Some.is c.next.ensures.steps in
    let here = rw p.one at v.1 in
    let w = c.from-here.ensures in
    let put = rw p.one at v.2 in
    let S = c.args.cell.shaped in
    let room = c.requires in
    record {
      n_there = rank_there L S _ _ _ _ p.here here w p.n_is _ _ _ _ _ put;
      n_in_bounds = rank_ends_room L S _ _ _ _ p.here here w p.n_is _ _ _ _ _ put room.0;
      n_in_bounds_2 = rank_inc_room L S _ _ _ _ p.here here w p.n_is _ _ _ _ _ put room.1;
    }

pub loop-n-preserved : goal.loop-n-preserved
loop-n-preserved c =
    let L : Listing = held c.args.cell.slices in
    let v = c.loop-n.invariant in
    let p = last_read _ _ _ _ _ v.0 c.in-Some.is c.next.ensures.steps in
    let here = rw p.one at v.1 in
    let w = c.from-here.ensures in
    let put = rw p.one at v.2 in
    let S = c.args.cell.shaped in (
      p.next,
      begins L S _ _ _ _ p.here here w p.n_is,
      rank_then L S _ _ _ _ p.here here w p.n_is _ _ _ _ _ put _ _ _ c.put_rank-p.ensures,
    )

pub returns : goal.returns
returns c =
    let L : Listing = held c.args.cell.slices in
    let v = c.loop-n.invariant in
    let S = c.args.cell.shaped in
    let z = none_left _ _ _ c.in-None.is c.next.ensures.steps in
    record {
      ends_after = ranks_ends L S _ _ _ _ _ _ z v.2 c.requires.0;
      inc_after = ranks_inc L S _ _ _ _ _ _ z v.2 c.requires.1;
    }
