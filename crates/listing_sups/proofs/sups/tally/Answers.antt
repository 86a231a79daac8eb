-- `tally`: a turn reads a pair of counts (`pair_read`), which says where the elements of the rank above begin and end.
-- Assumes nothing.
use mathlib.Core.Path.{sym}
use native.Mathlib.Omega.{arith}
use Rattle.std.proofs.Common.{rules}
use Rattle.listing.specs.Listing.{Listing, held}
use Rattle.listing.proofs.Listing.{before_zero}
use Rattle.listing_sups.proofs.Counting.{here_is, few_at, counted_none, counted_next, counted_all}
use Rattle.listing_sups.proofs.Pairs.{pairs_all, pair_read, pairs_end}
use Rattle.listing_sups.proofs.sups.tally.Goals as goal

pub loop-pair-init : goal.loop-pair-init
loop-pair-init c =
    let p = pairs_all c.args.slices.counts.now c.into_iter-pair-iterator.result (search rules) (search rules) in
    let L : Listing = held c.args.slices in
    (p.0, rw p.1 (sym (before_zero c.args.slices.counts.now)), rw p.1 (counted_none _ L _ c.requires.by_index))

pub overflow_add-base : goal.overflow_add-base
overflow_add-base c =
    let v = c.loop-pair.invariant in
    let n = c.from-n.ensures in
    let m = c.from-m.ensures in
    let p = pair_read _ _ _ _ _ _ _ _ v.0 v.1 c.in-Some.is c.next.ensures.steps n m in
    omega (arith, p.in_all, c.requires.counts_in_bounds)

pub overflow_add-base-in-loop-pair : goal.overflow_add-base-in-loop-pair
overflow_add-base-in-loop-pair c =
    let v = c.loop-pair.invariant in
    let n = c.from-n.ensures in
    let m = c.from-m.ensures in
    let p = pair_read _ _ _ _ _ _ _ _ v.0 v.1 c.in-Some.is c.next.ensures.steps n m in
    omega (arith, p.in_all, c.requires.counts_in_bounds)

pub tally_rank-requires-clause-n_in_bounds : goal.tally_rank-requires-clause-n_in_bounds
tally_rank-requires-clause-n_in_bounds c =
    let v = c.loop-pair.invariant in
    let n = c.from-n.ensures in
    let m = c.from-m.ensures in
    let p = pair_read _ _ _ _ _ _ _ _ v.0 v.1 c.in-Some.is c.next.ensures.steps n m in
    omega (arith, p.in_all, c.requires.counts_in_bounds_2, c.loop-pair.auto.up)

pub tally_rank-requires-clause-m_in_bounds : goal.tally_rank-requires-clause-m_in_bounds
tally_rank-requires-clause-m_in_bounds c =
    let v = c.loop-pair.invariant in
    let n = c.from-n.ensures in
    let m = c.from-m.ensures in
    let p = pair_read _ _ _ _ _ _ _ _ v.0 v.1 c.in-Some.is c.next.ensures.steps n m in
    omega (arith, p.in_all, c.requires.counts_in_bounds)

pub tally_rank-requires-clause-by_index : goal.tally_rank-requires-clause-by_index
tally_rank-requires-clause-by_index c =
    let v = c.loop-pair.invariant in
    let n = c.from-n.ensures in
    let m = c.from-m.ensures in
    let p = pair_read _ _ _ _ _ _ _ _ v.0 v.1 c.in-Some.is c.next.ensures.steps n m in
    few_at v.2 (here_is c.args.base _ _ _ p.here_is)

pub overflow_add-from : goal.overflow_add-from
overflow_add-from c =
    let v = c.loop-pair.invariant in
    let n = c.from-n.ensures in
    let m = c.from-m.ensures in
    let p = pair_read _ _ _ _ _ _ _ _ v.0 v.1 c.in-Some.is c.next.ensures.steps n m in
    omega (arith, p.in_all, c.requires.counts_in_bounds)

pub loop-pair-preserved : goal.loop-pair-preserved
loop-pair-preserved c =
    let L : Listing = held c.args.slices in
    let v = c.loop-pair.invariant in
    let n = c.from-n.ensures in
    let m = c.from-m.ensures in
    let p = pair_read _ _ _ _ _ _ _ _ v.0 v.1 c.in-Some.is c.next.ensures.steps n m in
    let w = c.tally_rank.ensures in
    let h = here_is c.args.base _ _ _ p.here_is in (
      p.left,
      rw p.next p.here_is,
      rw p.next (counted_next _ L _ _ _ _ _ _ _ v.1 p.n_is p.m_is h v.2 w.raised w.by_index_2),
    )

pub returns : goal.returns
returns c =
    let L : Listing = held c.args.slices in
    let v = c.loop-pair.invariant in
    counted_all _ L _ _ (pairs_end _ _ _ _ v.0 c.in-None.is c.next.ensures.steps) v.2
