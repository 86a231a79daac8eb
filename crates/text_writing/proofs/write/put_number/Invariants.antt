-- `put_number`. Invariant: of the number all but v stands there, from place p on (Spelling).
-- Assumes nothing.
use Rattle.text_writing.proofs.Numbers.{Spelling}
use Rattle.text_writing.proofs.write.put_number.Given as goal

abbrev pub invariant-loop-p : goal.invariant-loop-p
invariant-loop-p l = Spelling l.x l.at l.initial.text l.text l.p l.v
