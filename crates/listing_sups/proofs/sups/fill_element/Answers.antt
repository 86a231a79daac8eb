-- `fill_element`: each entry is gone through in its turn, as it was at the start, and there is room at its cursor.
-- Assumes nothing.
use mathlib.Core.Path.{◌≡◌}
use Prim.Native.Nat.{◌-◌, ◌≤◌, ◌<◌}
use native.Mathlib.Omega.{arith}
use lib.ListN.{length}
use Rattle.order.proofs.Lists.{occurs_nil}
use Rattle.listing_sups.proofs.Gathering.{element_room, element_raised, element_strewn, span_whole}
use Rattle.listing_sups.proofs.Strewing.{strewn_none}
use Rattle.listing_sups.proofs.Raising.{raised_none}
use Rattle.listing_sups.proofs.sups.fill_element.Goals as goal

pub loop-t-init : goal.loop-t-init
loop-t-init c =
    let e : c.args.lo - c.args.lo ≡ 0 = omega arith in
    rw e (raised_none _ _ _ _ (λ x h. occurs_nil x), strewn_none _ _ _ _ _ (λ x h. rw (occurs_nil x)))

pub fill_entry-requires-clause-x_in_bounds : goal.fill_entry-requires-clause-x_in_bounds
fill_entry-requires-clause-x_in_bounds c = λ h.
    let v = c.loop-t.invariant in
    let r = element_room _ _ _ _ _ _ _ _ _ _ (omega arith, c.loop-t-test.true, c.requires.lo_le_hi.1)
    c.requires.apart v.1 v.0 _ c.from-x.ensures h in
    omega (arith, v.1.same_length, c.requires.lo_le_hi)

pub fill_entry-requires-clause-x_bound : goal.fill_entry-requires-clause-x_bound
fill_entry-requires-clause-x_bound c = λ h.
    let v = c.loop-t.invariant in
    let r = element_room _ _ _ _ _ _ _ _ _ _ (omega arith, c.loop-t-test.true, c.requires.lo_le_hi.1)
    c.requires.apart v.1 v.0 _ c.from-x.ensures h in
    omega (arith, c.requires.lo_le_hi)

pub loop-t-preserved : goal.loop-t-preserved
loop-t-preserved c =
    let v = c.loop-t.invariant in
    let inside : (c.args.lo ≤ c.loop-t.t) × (c.loop-t.t < c.args.hi) × (c.args.hi ≤ length c.args.inc.now) =
    (omega arith, c.loop-t-test.true, c.requires.lo_le_hi.1) in
    let x = c.from-x.ensures in
    let w = c.fill_entry.ensures in (
      element_raised _ _ _ _ _ _ _ _ _ _ inside c.requires.apart v.1 v.0 _ _ _ x w.raised w.strewn,
      element_strewn _ _ _ _ _ _ _ _ _ _ inside c.requires.apart v.1 v.0 _ _ _ x w.raised w.strewn,
    )

pub returns-clause-strewn : goal.returns-clause-strewn
returns-clause-strewn c =
    let e : c.loop-t.t ≡ c.args.hi = omega arith in
    let v = c.loop-t.invariant.1 in
    rw (e, span_whole c.args.lo c.args.hi c.args.inc.now) at v
