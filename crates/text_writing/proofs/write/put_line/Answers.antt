-- `put_line`. A key, numbers and a newline. Assumes nothing.
use native.Mathlib.Omega.{arith}
use Prim.Native.Nat.{◌<◌}
use lib.ListN.{length}
use Rattle.text_writing.proofs.Parts.{line_length, line_put}
use Rattle.text_writing.proofs.write.put_line.Goals as goal

pub returns : goal.returns
returns c =
    let k = c.put_key-from.ensures in
    let r = c.put_row-end.ensures in
    let inside : c.put_row-end.result < length c.put_row-end.new.text =
    omega (arith, line_length c.args.key.now c.args.list.now, k.next, r.next, k.laid.same_length, r.laid.same_length) in
    line_put _ _ _ _ _ _ _ _ k r inside
