-- `opening`. Invariant: so many brackets are left to pass from i on. Assumes nothing.
use Rattle.std.proofs.Common.{◌≡◌, drop}
use Rattle.replay_reading.specs.Text.{opened}
use Rattle.replay_reading.proofs.text.opening.Given as goal

abbrev pub invariant-loop-i : goal.invariant-loop-i
invariant-loop-i l = opened l.left (drop l.i l.line) ≡ opened l.k l.line
