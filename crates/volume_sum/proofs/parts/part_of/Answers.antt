-- The vertex of the flag and the other one of its edge exist.
use Rattle.volume_sum.proofs.InFlags.{has_taken, has_put}
use Rattle.volume_sum.proofs.parts.part_of.Goals as goal

pub point_of-b-requires : goal.point_of-b-requires
point_of-b-requires c =
    has_taken c.args.cell.slices c.requires.rank_value c.args.flag.now c.requires.flag c.args.cell.closed _
    c.requires.coordinates_len _ c.requires.lowest_of_each _ (rw c.cell.ensures at c.replaced_at-p.ensures)

pub point_of-c-requires : goal.point_of-c-requires
point_of-c-requires c =
    has_put c.args.cell.slices c.requires.rank_value c.args.flag.now c.requires.flag c.args.cell.closed _
    c.requires.coordinates_len _ c.requires.lowest_of_each _ (rw c.cell.ensures at c.replaced_at-p.ensures)
