-- `put_row`. No number; or one, and those behind it. Assumes nothing.
use native.Mathlib.Omega.{arith}
use mathlib.Core.Path.{sym}
use Rattle.text_writing.proofs.Putting.{put_then, put_as}
use Rattle.text_writing.proofs.Rows.{commas_some, commas_both}
use Rattle.text_writing.proofs.write.put_row.Goals as goal

pub put_number-p-requires : goal.put_number-p-requires
put_number-p-requires c = omega (arith, c.requires, commas_both _ _ _ c.in-Some.ensures.cases.0)

pub returns : goal.returns
returns c =
    put_as (sym (commas_some _ _ _ c.in-Some.ensures.cases.0))
    (put_then _ _ _ _ _ _ _ _ c.put_number-p.ensures c.put_more.ensures)
