use native.Mathlib.Omega.{arith}
use Rattle.listing.proofs.Places.{few_before}
use Rattle.valid_incidence.proofs.incidence.check_all.Goals as goal

pub overflow_add-here : goal.overflow_add-here
overflow_add-here c = omega (arith, few_before _ c.args.cell.shaped c.loop-r.r)
