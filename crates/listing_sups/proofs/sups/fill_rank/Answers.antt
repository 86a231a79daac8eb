-- `fill_rank`: the lists of the rank above are gone through in turn, as they were at the start, and there is room at
-- the cursors.
-- Assumes nothing.
use mathlib.Core.Path.{◌≡◌}
use native.Mathlib.Omega.{arith}
use Rattle.listing_sups.proofs.Gathering.{gather_none, rank_apart, rank_raised, rank_strewn}
use Rattle.listing_sups.proofs.Strewing.{strewn_none}
use Rattle.listing_sups.proofs.Raising.{raised_none}
use Rattle.listing_sups.proofs.sups.fill_rank.Goals as goal

pub loop-k-init : goal.loop-k-init
loop-k-init c =
    (raised_none _ _ _ _ (λ x h. gather_none _ x), strewn_none _ _ _ _ _ (λ x h. gather_none _ x))

pub fill_element-requires-clause-apart : goal.fill_element-requires-clause-apart
fill_element-requires-clause-apart c =
    let q = c.requires in
    let v = c.loop-k.invariant in
    rank_apart _ _ _ _ _ _ _ _ _ _ q.ends q.m_in_bounds c.loop-k-test.true q.apart v.1 v.0 _ _ c.start_of-lo.ensures
    c.from-hi.ensures

pub loop-k-preserved : goal.loop-k-preserved
loop-k-preserved c =
    let q = c.requires in
    let v = c.loop-k.invariant in
    let i = c.loop-k-test.true in
    let lo = c.start_of-lo.ensures in
    let hi = c.from-hi.ensures in
    let w = c.fill_element.ensures in (
      rank_raised _ _ _ _ _ _ _ _ _ _ q.ends q.m_in_bounds i q.apart v.1 v.0 _ _ lo hi _ _ w.raised w.strewn,
      rank_strewn _ _ _ _ _ _ _ _ _ _ q.ends q.m_in_bounds i q.apart v.1 v.0 _ _ lo hi _ _ w.raised w.strewn,
    )

pub returns-clause-strewn : goal.returns-clause-strewn
returns-clause-strewn c =
    let e : c.loop-k.k ≡ c.args.m = omega arith in
    rw (← e) c.loop-k.invariant.1
