-- One sub after another; a no on the way promises nothing.
-- Assumes nothing.
use native.Mathlib.Omega.{arith}
use mathlib.Core.Path.{refl}
use Prim.Native.Nat.{◌≤◌}
use lib.ListN.{get_or}
use Rattle.valid.proofs.Agreeing.{met_none, met_nil, met_next}
use Rattle.valid.proofs.Agreeing.{none_below, below_next, subs_none, subs_next}
use Rattle.valid.proofs.agreement.meet_list.Goals as goal

pub loop-s-init : goal.loop-s-init
loop-s-init c = (subs_none _, none_below _, met_none _ _ _ _ (λ y. met_nil y _))

pub loop-s-preserved : goal.loop-s-preserved
loop-s-preserved c =
    let v = c.loop-s.invariant in
    let t = c.loop-s-test.true in
    let s = get_or c.args.subs.now c.loop-s.s-index 0 in
    let f : c.loop-s.from ≤ s = omega (arith, c.if-from.false, c.from.ensures) in
    let m = c.meet.ensures c.if-not-meet.false in (
      subs_next _ _ _ t refl _ v.1 f _ c.if-low-s.false v.0,
      λ y k. omega (arith, below_next _ _ _ t refl _ v.1 f y k, c.from-from.ensures),
      met_next _ _ _ t refl _ _ _ _ _ _ v.2 m,
    )
