-- `put_elements`. What is asked for element e, and what it leaves, say the lemmas on elements one after another.
-- Assumes nothing.
use mathlib.Core.Path.{◌≡◌}
use native.Mathlib.Omega.{arith}
use Rattle.listing_sups.proofs.Laying.{elements_none}
use Rattle.text_building.proofs.Elements.{none_reached, element_asked, next_reached}
use Rattle.text_building.proofs.build.put_elements.Goals as goal

pub loop-e-init : goal.loop-e-init
loop-e-init c = λ lists f. none_reached lists _ _

pub put_element-p-requires : goal.put_element-p-requires
put_element-p-requires c =
    let f = c.requires in
    let a = element_asked f.1 c.loop-e.e c.loop-e-test.true c.loop-e.p _ _ (c.loop-e.invariant f.0 f.1) in
    record { e_in_bounds = a.0; e_in_bounds_2 = a.1.0; e_in_bounds_3 = a.1.1.0; e_bound = a.1.1.1 }

pub loop-e-preserved : goal.loop-e-preserved
loop-e-preserved c =
    λ lists f.
    next_reached f c.loop-e.e c.loop-e-test.true c.loop-e.p _ _ (c.loop-e.invariant lists f) _ _ _
    c.put_element-p.ensures

pub returns : goal.returns
returns c =
    λ lists f.
    let e : c.args.n ≡ c.loop-e.e = omega (arith, c.loop-e-test.false, c.loop-e.auto.e-end) in
    rw e ((c.loop-e.invariant lists f).put.laid _ _ (elements_none _ _ _))
