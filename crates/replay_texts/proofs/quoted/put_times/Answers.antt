-- `put_times`. Once more, until the piece was stored as often as asked. Assumes nothing.
use Rattle.std.proofs.Math.Nat.{sub-zero}
use Rattle.replay_reading.proofs.Stores.{storing_all, storing_on, storing_end}
use Rattle.replay_texts.proofs.Pieces.{copies_next, copies_done}
use Rattle.replay_texts.proofs.quoted.put_times.Goals as goal

pub loop-init : goal.loop-init
loop-init c = rw sub-zero (storing_all _ _ _ c.requires)

pub loop-preserved : goal.loop-preserved
loop-preserved c =
    storing_on _ _ _ c.loop.invariant _ _ (copies_next _ _ _ c.loop-test.true) c.put_once-n.ensures

pub returns : goal.returns
returns c = storing_end _ _ _ c.loop.invariant (copies_done _ _ _ c.loop-test.false)
