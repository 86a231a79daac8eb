-- `put_once`. Invariant: what the piece stands for from i on is left to store from n on. Measure: what is left of the
-- piece. Assumes nothing.
use Rattle.replay_reading.proofs.Stores.{Storing}
use Rattle.replay_texts.specs.Quoted.{unescaped}
use lib.ListN.{length, drop}
use Prim.Native.Nat.{◌+◌, ◌-◌, ◌≤◌}
use Rattle.replay_texts.proofs.quoted.put_once.Given as goal

abbrev pub invariant-loop-i : goal.invariant-loop-i
invariant-loop-i l = (l.i ≤ length l.piece + 1)
    × Storing (unescaped l.piece) l.from l.initial.out (unescaped (drop l.i l.piece)) l.n l.out

abbrev pub decreases-loop-i : goal.decreases-loop-i
decreases-loop-i l = length l.piece - l.i
