use native.Mathlib.Omega.{arith}
use lib.ListN.{length-set}
use Rattle.product.proofs.Made.{null_halt, null_ends, null_done}
use Rattle.product.proofs.make.put_nullitope.Goals as goal

pub returns-in_err-n : goal.returns-in_err-n
returns-in_err-n c = null_halt _ _ _ _ _ c.in_err-n.ensures.test c.from_residual.ensures.1

pub bounds-ends-1 : goal.bounds-ends-1
bounds-ends-1 c = simp length-set (omega (arith, null_ends _ _ _ c.in_ok-n.ensures.test))

pub returns : goal.returns
returns c = null_done _ _ _ c.in_ok-n.ensures.test _ c.in_ok-n.ensures.lengths
