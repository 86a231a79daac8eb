-- `fill`. A byte that goes on with the number, and one that ends it. Assumes nothing.
use Rattle.std.proofs.Common.{◌-◌, sym}
use Rattle.listing.specs.Listing.{width}
use Rattle.replay_reading.proofs.Stores.{storing_on}
use Rattle.replay_reading.proofs.Texts.{read_on, read_off}
use Rattle.replay_reading.specs.Text.{pending}
use Rattle.replay_reading.proofs.text.fill.Goals.{then-goes_on, else-goes_on}
use Rattle.replay_reading.proofs.text.fill.Goals as goal

pub loop-b-preserved : goal.loop-b-preserved
loop-b-preserved c =
    let l = c.loop-b in
    let t = c.args.text.now in
    elim c.if-goes_on.branch [
      | then-goes_on w ↦
          let o = read_on t l.b-index c.loop-b-test.true (width - 1) l.s (sym w.if-goes_on.ensures) in
          rw (w.out-is, w.n-is, w.s-is, w.with_byte-s.ensures, ← o) l.invariant
      | else-goes_on w ↦
          let o = read_off t l.b-index c.loop-b-test.true (width - 1) l.s (sym w.if-goes_on.ensures) in
          let p = rw w.narrow.ensures at w.put-n.ensures in
          rw (w.out-is, w.n-is, w.s-is) (storing_on _ _ _ l.invariant (pending (width - 1) l.s) _ o p)
    ]
