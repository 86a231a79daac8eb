use mathlib.Core.Path.{refl}
use Prim.Native.Nat.{◌-◌}
use native.Mathlib.Omega.{arith}
use lib.ListN.{replicate, length-set}
use Rattle.listing.specs.Listing.{limits}
use Rattle.search_index.proofs.Hash.{weights_first, weights_next}
use Rattle.search_index.proofs.index.weights.Goals as goal

pub loop-r-init : goal.loop-r-init
loop-r-init c = (refl, weights_first (replicate (limits.ranks - 1) 1))

pub loop-r-preserved : goal.loop-r-preserved
loop-r-preserved c =
    let l = c.loop-r in (simp length-set l.invariant.0, weights_next l.a l.r (omega arith) (omega arith) l.invariant.1)
