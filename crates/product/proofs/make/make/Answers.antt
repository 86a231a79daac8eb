use Rattle.product.proofs.Chain.{factors_halt, factors_done}
use Rattle.product.proofs.make.make.Goals as goal

pub returns-in_err-check_factors : goal.returns-in_err-check_factors
returns-in_err-check_factors c =
    factors_halt _ _ _ _ _ _ _ _ _ c.in_err-check_factors.ensures c.from_residual.ensures.1

pub returns : goal.returns
returns c = factors_done _ _ _ _ _ _ _ _ _ c.product_of_valid.ensures c.in_ok-check_factors.ensures
