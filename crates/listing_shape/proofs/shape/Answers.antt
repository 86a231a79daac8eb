use mathlib.Core.Path.{sym}
use native.Mathlib.Omega.{arith}
use Rattle.listing.proofs.ShapeExact.{shaped_by}
use Rattle.listing_shape.proofs.shape.Goals as goal

pub invariant_of-result : goal.invariant_of-result
invariant_of-result c =
    record {
      shaped = shaped_by _ _ (λ e. grind arith) (omega arith) (omega arith) (omega arith) (omega arith)
          (sym c.if-not-fills.ensures);
    }
