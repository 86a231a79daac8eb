-- Rank 1 begins after rank 0, and no rank begins past the limit of all elements.
use mathlib.Core.Path.{refl}
use Prim.Native.Nat.{◌-◌}
use native.Mathlib.Omega.{arith}
use Rattle.listing.specs.Listing.{limits}
use Rattle.listing.proofs.Places.{few_before, few_in_rank}
use Rattle.valid_diamond.specs.Dyadic.{dyadic_test}
use Rattle.valid_diamond.proofs.Walks.{before_one, tally_zero}
use Rattle.valid_diamond.proofs.dyadic.check_up_to.Goals as goal

pub loop-r-init : goal.loop-r-init
unfolding dyadic_test
loop-r-init c = (before_one c.args.cell.slices.counts.now _ c.from-b.ensures, refl, tally_zero limits.elements)

pub overflow_add-b : goal.overflow_add-b
overflow_add-b c =
    let S = c.args.cell.shaped in
    let below = c.loop-r.r - 1 in
    omega (arith, few_before _ S below, few_in_rank _ S below)
