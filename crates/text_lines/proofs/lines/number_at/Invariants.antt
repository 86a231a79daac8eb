-- `number_at`. Invariant: the digits from i on, after v, are what is left of the digits from the beginning.
-- Assumes nothing.
use Rattle.text_lines.proofs.Values.{Reading}
use Rattle.text_lines.proofs.lines.number_at.Given as goal

abbrev pub invariant-loop-i : goal.invariant-loop-i
invariant-loop-i l = Reading l.text l.at l.v l.i
