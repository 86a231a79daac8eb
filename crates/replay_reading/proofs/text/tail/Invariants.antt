-- `tail`. Invariant: what follows the last byte up to i that closes something begins at `at`. Assumes nothing.
use Rattle.std.proofs.Common.{◌≡◌, ◌≤◌, drop}
use Rattle.replay_reading.specs.Text.{after_closing}
use Rattle.replay_reading.proofs.text.tail.Given as goal

abbrev pub invariant-loop-i : goal.invariant-loop-i
invariant-loop-i l = (l.at ≤ l.i)
    × (after_closing (drop l.at l.line) (drop l.i l.line) ≡ after_closing l.line l.line)
