-- The flag at hand is the kth row; each change that is left is met, from the lowest rank upward.
use mathlib.Core.Path.{sym, ◌∙◌}
use native.Mathlib.Omega.{arith}
use borrow.Author.Tests.{ltb-false}
use lib.Seq.{length-take-le}
use Rattle.listing.specs.Listing.{limits}
use Rattle.search_masks.proofs.Low.{low_fits}
use Rattle.search_store.proofs.Meets.{moved_err}
use Rattle.search_walk.proofs.AtHand.{few, row_there, row_got, row_at_hand}
use Rattle.search_walk.proofs.Works.{some_left, working_start, working_rank, working_next, working_stop, working_end}
use Rattle.search_walk.proofs.walk.work.Goals as goal

pub slice_bounds-flag-end : goal.slice_bounds-flag-end
slice_bounds-flag-end c = sym (length-take-le _ _ (few c.args.cell.slices c.args.cell.closed))

pub get_row-requires : goal.get_row-requires
get_row-requires c =
    row_there c.requires.walks c.requires.k_lt_count c.from-at.ensures
    (length-take-le _ _ (few c.args.cell.slices c.args.cell.closed))

pub loop-flag-init : goal.loop-flag-init
loop-flag-init c =
    let W = c.requires.walks in (
      row_got W c.requires.k_lt_count c.from-at.ensures
          (length-take-le _ _ (few c.args.cell.slices c.args.cell.closed)) c.get_row.ensures,
      working_start _ _ _ c.args.mask W.rows c.ranges.mask.fits W.inner,
    )

pub try_next-requires-clause-at_hand : goal.try_next-requires-clause-at_hand
try_next-requires-clause-at_hand c =
    row_at_hand c.requires.walks c.requires.k_lt_count c.from-at.ensures
    (length-take-le _ _ (few c.args.cell.slices c.args.cell.closed)) c.get_row.ensures c.loop-flag.invariant.0
    c.sum_of-sum.ensures

pub without-left-requires : goal.without-left-requires
without-left-requires c =
    let p = some_left c.any_left.ensures c.loop-flag-test.true in
    (c.lowest-r.ensures.1, rw c.lowest-r.ensures.0 (low_fits limits.ranks _ p c.loop-flag.invariant.1.small))

pub try_next-requires-clause-r_inside : goal.try_next-requires-clause-r_inside
try_next-requires-clause-r_inside c =
    let p = some_left c.any_left.ensures c.loop-flag-test.true in
    working_rank c.loop-flag.invariant.1 p c.lowest-r.result c.lowest-r.ensures.0

pub returns-in_err-s : goal.returns-in_err-s
returns-in_err-s c =
    let I = c.loop-flag.invariant in
    let p = some_left c.any_left.ensures c.loop-flag-test.true in
    let byte = rw c.from-at.ensures at c.flipped-byte.ensures in
    moved_err _ _ c.from_residual.ensures.1
    (working_stop I.1 p c.lowest-r.result c.lowest-r.ensures.0 (rw (byte, I.0) at c.in_err-s.ensures.moved))

pub loop-flag-preserved : goal.loop-flag-preserved
loop-flag-preserved c =
    let I = c.loop-flag.invariant in
    let p = some_left c.any_left.ensures c.loop-flag-test.true in
    let byte = rw c.from-at.ensures at c.flipped-byte.ensures in (
      c.in_ok-s.ensures.flag_unchanged ∙ I.0,
      working_next I.1 p c.lowest-r.result c.lowest-r.ensures.0 c.without-left.result c.without-left.ensures
          (rw (byte, I.0) at c.in_ok-s.ensures.moved),
    )

pub returns : goal.returns
returns c =
    let none = ltb-false 0 c.loop-flag.left (sym c.any_left.ensures ∙ c.loop-flag-test.false) in
    working_end c.loop-flag.invariant.1 (omega arith)
