-- `tally_rank`: one list after another is counted, and no count runs ahead of what has been read.
-- Assumes nothing.
use mathlib.Core.Path.{◌≡◌}
use Prim.Native.Nat.{◌+◌, ◌*◌}
use native.Mathlib.Omega.{arith}
use Rattle.order.proofs.Sums.{sum_none}
use Rattle.listing_sups.proofs.Raising.{raised_none, rank_next, rank_few, rank_most}
use Rattle.listing_sups.proofs.sups.tally_rank.Goals as goal

pub loop-a-init : goal.loop-a-init
loop-a-init c =
    let e : c.args.here + 0 ≡ c.args.here = omega arith in
    (raised_none _ _ _ _ (λ x h. sum_none _), rw e c.requires.by_index)

pub tally_list-requires-clause-by_index : goal.tally_list-requires-clause-by_index
tally_list-requires-clause-by_index c =
    let e = c.args.here + c.loop-a.a in
    rank_few _ _ c.requires.ends e (omega (arith, c.requires.m_in_bounds)) _ c.loop-a.invariant.1 _
    c.list_of.ensures.value c.list_of.ensures.end_fits

pub loop-a-preserved : goal.loop-a-preserved
loop-a-preserved c =
    let v = c.loop-a.invariant in
    let w = c.tally_list.ensures in
    let e = c.args.here + c.loop-a.a in
    let z : c.args.here + (c.loop-a.a + 1) ≡ e + 1 = omega arith in (
      rank_next _ _ _ _ _ _ _ _ _ _ v.0 w c.list_of.ensures.value,
      rw z
          (rank_most _ _ c.requires.ends e (omega (arith, c.requires.m_in_bounds)) _ v.1 _
          c.list_of.ensures.value _ _ _ w),
    )
