-- `rank_length`. The line of the count, and one for each element, none longer than eight times the width. Assumes
-- nothing.
use native.Mathlib.Omega.{arith}
use mathlib.Core.Path.{◌≡◌, refl, ap}
use lib.ListN.{length}
use Rattle.listing.specs.Listing.{held}
use Rattle.listing.specs.Written.{joined}
use Rattle.text_writing.proofs.Ranks.{subs_bytes, count_bytes_lem, list_narrow}
use Rattle.text_writing.proofs.length.rank_length.Goals as goal

pub loop-i-init : goal.loop-i-init
unfolding joined
loop-i-init c =
    let L = held c.args.cell.slices in
    let z : 0 ≡ length (joined (subs_bytes L c.args.r) 0) = refl in
    (omega (arith, ap length (count_bytes_lem L c.args.r c.requires.1)), omega arith)

pub line_length-n-requires-in-loop-i : goal.line_length-n-requires-in-loop-i
line_length-n-requires-in-loop-i c = (omega arith, list_narrow _ c.args.cell.shaped _ _ c.side_of.ensures)
