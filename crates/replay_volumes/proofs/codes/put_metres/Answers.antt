-- `put_metres`. One coordinate more, and none that is left. Assumes nothing.
use Rattle.std.proofs.Common.{sym, ◌∙◌, arith}
use Rattle.replay_volumes.proofs.Metres.{write_next, write_end, begins}
use Rattle.replay_volumes.proofs.codes.put_metres.Goals as goal

pub loop-i-preserved : goal.loop-i-preserved
loop-i-preserved c =
    let l = c.loop-i in
    let next = write_next c.args.codes.now l.out l.i (omega arith) in
    rw c.metres_of.ensures (sym next ∙ l.invariant)

pub returns : goal.returns
returns c =
    let l = c.loop-i in
    let held = sym (write_end c.args.codes.now l.out l.i (omega arith)) ∙ l.invariant in record {
      metres_stored = record { up_to = omega arith; holds = held };
      lendable = begins _ l.out (omega arith);
    }
