-- `number_at`. Invariant: the number asked for is number `left` of what is read from the byte on. Assumes nothing.
use Rattle.std.proofs.Common.{◌≡◌, get_or, drop}
use Rattle.replay_reading.specs.Text.{largest, read, numbers_in}
use Rattle.replay_reading.proofs.text.number_at.Given as goal

abbrev pub invariant-loop-b : goal.invariant-loop-b
invariant-loop-b l =
    get_or (read largest l.s (drop l.b-index l.text)) l.left 0 ≡ get_or (numbers_in largest l.text) l.k 0
