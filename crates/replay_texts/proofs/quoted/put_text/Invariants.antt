-- `put_text`. Invariant: the text in the quotes of the line from `from` on is left to store from n on. Measure: what is
-- left of the line. Assumes nothing.
use Rattle.replay_reading.proofs.Stores.{Storing}
use Rattle.replay_texts.specs.Quoted.{quoted_in}
use lib.ListN.{length, drop}
use Prim.Native.Nat.{◌-◌, ◌≤◌}
use Rattle.replay_texts.proofs.quoted.put_text.Given as goal

abbrev pub invariant-loop-n : goal.invariant-loop-n
invariant-loop-n l = (l.from ≤ length l.line)
    × Storing (quoted_in l.line) 0 l.initial.out (quoted_in (drop l.from l.line)) l.n l.out

abbrev pub decreases-loop-n : goal.decreases-loop-n
decreases-loop-n l = length l.line - l.from
