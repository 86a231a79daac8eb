use Rattle.product.proofs.Chain.{null_made, comb_made, pairs_made}
use Rattle.product.proofs.make.product_of_valid.Goals as goal

pub returns-then-is_null : goal.returns-then-is_null
returns-then-is_null c =
    null_made _ _ _ _ _ _ _ _ _ _ c.is_null.ensures c.if-is_null.true c.put_nullitope.ensures

pub returns-then-is_comb_of_point : goal.returns-then-is_comb_of_point
returns-then-is_comb_of_point c =
    comb_made _ _ _ _ _ _ _ _ c.is_comb_of_point.ensures c.if-is_comb_of_point.true

pub returns : goal.returns
returns c =
    let o = c.in_order.ensures in
    pairs_made _ _ _ _ _ _ _ _ _ _ _ c.product.ensures o.0 o.1 (cc c.is_null.ensures) (cc c.is_comb_of_point.ensures)
