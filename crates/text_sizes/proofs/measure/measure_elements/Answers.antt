-- By the line of element i: refused, over the limit, or passed (Going).
use native.Mathlib.Omega.{arith}
use mathlib.Core.Path.{refl}
use Rattle.text_sizes.proofs.Entering.{going_begun, going_all}
use Rattle.text_sizes.proofs.Lists.{subs_stop, subs_over, subs_next}
use Rattle.text_sizes.proofs.Stops.{stops_so}
use Rattle.text_sizes.proofs.measure.measure_elements.Goals as goal

pub loop-i-init : goal.loop-i-init
loop-i-init c = (going_begun c.requires, refl)

pub returns-in_err-r-clause-stops : goal.returns-in_err-r-clause-stops
returns-in_err-r-clause-stops c =
    let o = subs_stop c.requires c.loop-i.invariant.0 c.loop-i-test.true _ c.in_err-r.ensures.test in
    stops_so _ _ c.from_residual.ensures.1 o

pub returns-then-incidences-gt-INCIDENCES-clause-stops : goal.returns-then-incidences-gt-INCIDENCES-clause-stops
returns-then-incidences-gt-INCIDENCES-clause-stops c =
    let w = c.in_ok-r.ensures in
    let h = c.if-incidences-gt-INCIDENCES.true in
    subs_over c.requires c.loop-i.invariant.0 c.loop-i-test.true w.test w.counted h

pub loop-i-preserved : goal.loop-i-preserved
loop-i-preserved c =
    let w = c.in_ok-r.ensures in
    let h = c.if-incidences-gt-INCIDENCES.false in
    (subs_next c.requires c.loop-i.invariant.0 c.loop-i-test.true w.test w.counted h, c.loop-i.invariant.1)

pub returns-clause-comes : goal.returns-clause-comes
returns-clause-comes c = (going_all c.requires c.loop-i.invariant.0 (omega arith), refl)
