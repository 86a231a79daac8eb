-- `find`. Invariant: the byte does not stand from `from` up to i. Assumes nothing.
use Rattle.std.proofs.Common.{◌≡◌, ◌+◌, length, drop}
use Rattle.replay_reading.specs.Text.{until}
use Rattle.replay_reading.proofs.text.find.Given as goal

abbrev pub invariant-loop-i : goal.invariant-loop-i
invariant-loop-i l =
    l.from + length (until l.b (drop l.from l.text)) ≡ l.i + length (until l.b (drop l.i l.text))
