-- `put_elements`. Invariant: the lines of the first i elements are written.
-- Assumes nothing.
use Rattle.listing.specs.Written.{joined}
use Rattle.text_writing.specs.Writing.{line_from, PutAt}
use Rattle.text_writing.proofs.write.put_elements.Given as goal

abbrev pub invariant-loop-i : goal.invariant-loop-i
invariant-loop-i l =
    let lines = line_from l.cell.slices.ends.now l.cell.slices.inc.now l.here in
    PutAt (joined lines l.i) l.at l.initial.text l.text l.p
