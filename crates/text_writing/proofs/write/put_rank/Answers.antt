-- `put_rank`. The line of the count, and those of the elements. Assumes nothing.
use native.Mathlib.Omega.{arith}
use mathlib.Core.Path.{sym, ap}
use lib.ListN.{length}
use Rattle.listing.specs.Listing.{held}
use Rattle.listing.proofs.Places.{rank_fits}
use Rattle.text_writing.proofs.Putting.{put_then, put_as}
use Rattle.text_writing.proofs.Ranks.{count_bytes_lem, rank_put, rank_room}
use Rattle.text_writing.proofs.write.put_rank.Goals as goal

pub put_line-p-requires : goal.put_line-p-requires
put_line-p-requires c =
    let L = held c.args.cell.slices in
    let q = c.requires in
    let room = rank_room L c.args.r _ q.here_value.0 _ _ q.r_bound in
    omega (arith, room, ap length (count_bytes_lem L c.args.r q.here_value.1))

pub put_elements-requires : goal.put_elements-requires
put_elements-requires c =
    let L = held c.args.cell.slices in
    let q = c.requires in
    let room = rank_room L c.args.r _ q.here_value.0 _ _ q.r_bound in
    let e = ap length (count_bytes_lem L c.args.r q.here_value.1) in
    let p = c.put_line-p.ensures in
    record {
      here_bound = omega (arith, rank_fits L c.args.cell.shaped c.args.r, q.here_value.0);
      n_bound = omega (arith, room, e, p.next, p.laid.same_length);
    }

pub returns : goal.returns
returns c =
    let L = held c.args.cell.slices in
    let q = c.requires in
    let l = put_as (count_bytes_lem L c.args.r q.here_value.1) c.put_line-p.ensures in
    put_as (sym (rank_put L c.args.r _ q.here_value.0)) (put_then _ _ _ _ _ _ _ _ l c.put_elements.ensures)
