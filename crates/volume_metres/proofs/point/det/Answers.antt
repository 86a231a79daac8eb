-- `det` is what its contract says, operation by operation.
-- Assumes nothing.
use Rattle.std.proofs.Common.{refl}
use Rattle.volume_metres.specs.Formulas.{in_floats, det_formula, det_in}
use Rattle.volume_metres.proofs.point.det.Goals as goal

pub returns : goal.returns
unfolding det_in in_floats det_formula
returns c = refl
