-- `put_text`. The line of the rank, and those of all ranks, over what stood there. Assumes nothing.
use native.Mathlib.Omega.{arith}
use mathlib.Core.Path.{sym}
use Rattle.listing.proofs.Laying.{list_over}
use Rattle.text_writing.proofs.Putting.{put_then, put_as}
use Rattle.text_writing.proofs.Ranks.{text_put, text_length}
use Rattle.text_writing.proofs.write.put_text.Goals as goal

pub put_line-p-requires : goal.put_line-p-requires
put_line-p-requires c = omega (arith, text_length _ c.args.cell.shaped)

pub put_ranks-requires : goal.put_ranks-requires
put_ranks-requires c =
    let p = c.put_line-p.ensures in
    omega (arith, text_length _ c.args.cell.shaped, p.next, p.laid.same_length)

pub returns : goal.returns
returns c =
    let a = put_then _ _ _ _ _ _ _ _ c.put_line-p.ensures c.put_ranks.ensures in
    list_over _ _ _ c.requires (put_as (sym (text_put _ c.args.cell.shaped)) a).laid
