-- `put_metres`. Invariant: the coordinates of the codes from i on, written from place i on, make what is to be written.
-- Assumes nothing.
use Rattle.std.proofs.Common.{◌≡◌, map, drop}
use lib.Seq.{sets}
use Rattle.replay_volumes.specs.Codes.{metres_for}
use Rattle.replay_volumes.proofs.codes.put_metres.Given as goal

abbrev pub invariant-loop-i : goal.invariant-loop-i
invariant-loop-i l =
    sets l.out l.i (map metres_for (drop l.i l.codes)) ≡ sets l.initial.out 0 (map metres_for l.codes)
