-- `row_length`. Invariant: n is how long the numbers so far are, each with its comma, and none takes more than six
-- bytes.
-- Assumes nothing.
use mathlib.Core.Path.{◌≡◌}
use Prim.Native.Nat.{◌*◌, ◌≤◌}
use lib.ListN.{length, take}
use Rattle.text_theory.specs.Text.{parted}
use Rattle.text_writing.proofs.length.row_length.Given as goal

abbrev pub invariant-loop-x : goal.invariant-loop-x
invariant-loop-x l = (l.n ≡ length (parted (take l.x-index l.list))) × (l.n ≤ 6 * l.x-index)
