-- `fill_ranks`: a turn reads a pair of counts (`pair_read`), and what it has in hand (`turn`) is enough for its rank.
-- Assumes nothing.
use mathlib.Core.Path.{sym, ◌∙◌}
use native.Mathlib.Omega.{arith}
use Rattle.std.proofs.Common.{rules}
use Rattle.listing.specs.Listing.{Listing, listing}
use Rattle.listing.proofs.Listing.{before_zero}
use Rattle.listing_sups.proofs.Pairs.{pairs_all, pair_read, pairs_end}
use Rattle.listing_sups.proofs.SupsFilled.{turn, rank_ready, filled_next, filled_none, filled_all}
use Rattle.listing_sups.proofs.sups.fill_ranks.Goals as goal

pub loop-pair-init : goal.loop-pair-init
loop-pair-init c =
    let p = pairs_all c.args.counts.now c.into_iter-pair-iterator.result (search rules) (search rules) in
    let L : Listing = listing c.args.counts.now c.args.ends.now c.args.inc.now in
    (p.0, rw p.1 (sym (before_zero c.args.counts.now)), λ e h l. c.requires.by_index e l, rw p.1 (filled_none L))

pub overflow_add-from : goal.overflow_add-from
overflow_add-from c =
    let v = c.loop-pair.invariant in
    let n = c.from-n.ensures in
    let m = c.from-m.ensures in
    let p = pair_read _ _ _ _ _ _ _ _ v.0 v.1 c.in-Some.is c.next.ensures.steps n m in
    omega (arith, p.in_all, c.requires.fillable.few)

pub fill_rank-requires-clause-n_in_bounds : goal.fill_rank-requires-clause-n_in_bounds
fill_rank-requires-clause-n_in_bounds c =
    let v = c.loop-pair.invariant in
    let n = c.from-n.ensures in
    let m = c.from-m.ensures in
    let p = pair_read _ _ _ _ _ _ _ _ v.0 v.1 c.in-Some.is c.next.ensures.steps n m in
    omega (arith, p.in_all, c.requires.counts_in_bounds, c.loop-pair.auto.next, c.from-m.ensures)

pub fill_rank-requires-clause-m_in_bounds : goal.fill_rank-requires-clause-m_in_bounds
fill_rank-requires-clause-m_in_bounds c =
    let v = c.loop-pair.invariant in
    let n = c.from-n.ensures in
    let m = c.from-m.ensures in
    let p = pair_read _ _ _ _ _ _ _ _ v.0 v.1 c.in-Some.is c.next.ensures.steps n m in
    omega (arith, p.in_all, c.requires.fillable.two_each)

pub fill_rank-requires-clause-apart : goal.fill_rank-requires-clause-apart
fill_rank-requires-clause-apart c =
    let L : Listing = listing c.args.counts.now c.args.ends.now c.args.inc.now in
    let v = c.loop-pair.invariant in
    let n = c.from-n.ensures in
    let m = c.from-m.ensures in
    let p = pair_read _ _ _ _ _ _ _ _ v.0 v.1 c.in-Some.is c.next.ensures.steps n m in
    rank_ready (turn L _ _ _ _ _ _ _ c.requires.fillable v.1 v.2 v.3 p)

pub overflow_add-from-in-loop-pair : goal.overflow_add-from-in-loop-pair
overflow_add-from-in-loop-pair c =
    let v = c.loop-pair.invariant in
    let n = c.from-n.ensures in
    let m = c.from-m.ensures in
    let p = pair_read _ _ _ _ _ _ _ _ v.0 v.1 c.in-Some.is c.next.ensures.steps n m in
    omega (arith, p.in_all, c.requires.fillable.few)

pub loop-pair-preserved : goal.loop-pair-preserved
loop-pair-preserved c =
    let L : Listing = listing c.args.counts.now c.args.ends.now c.args.inc.now in
    let v = c.loop-pair.invariant in
    let n = c.from-n.ensures in
    let m = c.from-m.ensures in
    let p = pair_read _ _ _ _ _ _ _ _ v.0 v.1 c.in-Some.is c.next.ensures.steps n m in
    let t = turn L _ _ _ _ _ _ _ c.requires.fillable v.1 v.2 v.3 p in
    let w = c.fill_rank.ensures in (
      p.left,
      rw p.next p.here_is,
      rw p.next
          (λ e h l. w.raised.later e (omega (arith, p.here_is)) ∙ v.2 e (omega (arith, p.here_is, v.1)) l),
      rw p.next (filled_next t _ w.strewn),
    )

pub returns : goal.returns
returns c =
    let L : Listing = listing c.args.counts.now c.args.ends.now c.args.inc.now in
    let v = c.loop-pair.invariant in
    filled_all L _ _ (omega arith) (pairs_end _ _ _ _ v.0 c.in-None.is c.next.ensures.steps) v.3
