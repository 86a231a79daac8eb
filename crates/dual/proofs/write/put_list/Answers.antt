-- `put_list`: the list is written behind what stands, number by number, and its end.
-- Assumes nothing.
use native.Mathlib.Omega.{arith}
use mathlib.Core.Path.{◌≡◌, refl}
use Prim.Native.Nat.{◌+◌, ◌<◌}
use lib.ListN.{length}
use Rattle.listing.proofs.Laying.{laid_none, laid_next}
use Rattle.dual.proofs.Putting.{lists_one}
use Rattle.dual.proofs.write.put_list.Goals as goal

pub loop-j-init : goal.loop-j-init
loop-j-init c = laid_none _ _ _

pub loop-j-preserved : goal.loop-j-preserved
loop-j-preserved c =
    let room : c.args.p.inc + c.loop-j.j < length c.args.inc.now =
    omega (arith, c.loop-j-test.true, c.requires.list_in_bounds.0) in
    laid_next _ _ _ _ _ _ c.loop-j.invariant room refl

pub returns : goal.returns
returns c =
    let e : length c.args.list.now ≡ c.loop-j.j = omega (arith, c.loop-j-test.false) in
    lists_one _ c.args.p _ _ _ c.requires.ends_in_bounds (rw e c.loop-j.invariant)
