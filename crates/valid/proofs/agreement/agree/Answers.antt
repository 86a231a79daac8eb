-- Each rank begins where the one below it ends; its cursors are set, then met, and must then all have come to the end.
-- Assumes nothing.
use borrow.Author.Tests.{lt-ltb}
use native.Mathlib.Omega.{arith}
use Prim.Native.Nat.{◌+◌}
use lib.ListN.{length}
use Rattle.listing.specs.Listing.{Listing, held}
use Rattle.listing.proofs.Places.{rank_fits}
use Rattle.valid.proofs.Agreeing.{each_next, next_begins, agrees_at, none_under, agrees}
use Rattle.valid.proofs.agreement.agree.Goals as goal

pub bounds-ends-0 : goal.bounds-ends-0
bounds-ends-0 c = omega (arith, rank_fits _ c.args.cell.shaped 0, c.requires)

pub loop-r-preserved : goal.loop-r-preserved
loop-r-preserved c =
    let cell : Listing = held c.args.cell.slices in
    let S = c.args.cell.shaped in
    let r = c.loop-r.r in
    let here = c.loop-r.invariant.0 in
    let begins = next_begins cell S r _ _ here c.from-here.ensures in
    let set = rw c.from.ensures at c.set_cursors.ensures in
    let met = c.meet_rank.ensures in
    let y = c.if-not-meet_rank.false in
    let end = c.all_met.ensures in
    let t = c.if-not-all_met.false in (
      begins,
      omega arith,
      each_next _ r c.loop-r.invariant.2
          (agrees_at cell S r _ _ _ here begins c.count_at.ensures _ _ _ set (met.all_below y)
          (met.met y) (end.all_met t)
          (λ h. end.some_sups t (lt-ltb (r + 1) (length cell.counts) (omega (arith, h))))),
    )

pub returns : goal.returns
returns c =
    let lowest = none_under _ c.args.cell.shaped c.requires c.if-ends-ne0.false in
    λ e. agrees _ lowest (λ r h. c.loop-r.invariant.2 r (omega (arith, c.loop-r-test.false)))
