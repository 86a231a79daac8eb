-- All edges have been looked at.
use Rattle.volume_sum.proofs.InFaces.{all_edges}
use Rattle.volume_sum.proofs.faces.lowest_of_face.Goals as goal

pub returns : goal.returns
returns c =
    all_edges c.args.cell.slices c.args.cell.closed _ _ c.requires.edges_value.1 c.requires.i_bound _
    c.side_of-face.ensures _ _ c.loop-edge-test.false c.loop-edge.invariant
