-- `put_more`. Invariant: the numbers so far are written, each after a comma.
-- Assumes nothing.
use lib.ListN.{take}
use Rattle.text_theory.specs.Text.{parted}
use Rattle.text_writing.specs.Writing.{PutAt}
use Rattle.text_writing.proofs.write.put_more.Given as goal

abbrev pub invariant-loop-x : goal.invariant-loop-x
invariant-loop-x l = PutAt (parted (take l.x-index l.list)) l.at l.initial.text l.text l.p
