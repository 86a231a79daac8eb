-- One face after another.
use Rattle.volume_sum.proofs.InFaces.{next_face}
use Rattle.volume_sum.proofs.faces.lowest_of_faces.Goals as goal

pub loop-i-preserved : goal.loop-i-preserved
loop-i-preserved c =
    next_face c.args.cell.slices c.args.cell.closed _ _ _ _ c.from-in-loop-i.ensures c.loop-i-test.true
    c.lowest_of_face.ensures c.loop-i.invariant
