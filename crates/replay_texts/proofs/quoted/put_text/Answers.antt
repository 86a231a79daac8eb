-- `put_text`. No quote is left, one that is not closed, and a piece between two. Assumes nothing.
use Rattle.replay_reading.proofs.Stores.{storing_all, storing_on, storing_end, stored_counts}
use Rattle.replay_reading.proofs.Texts.{until_is}
use Rattle.replay_texts.proofs.Pieces.{quoted_none, quoted_open, quoted_next}
use Prim.Native.Nat.{◌+◌}
use native.Mathlib.Omega.{arith}
use borrow.Author.Rules.{rules}
use Rattle.replay_texts.proofs.quoted.put_text.Goals as goal

pub loop-n-init : goal.loop-n-init
loop-n-init c = (search rules, storing_all _ _ _ (omega arith))

pub returns-then-quote-line : goal.returns-then-quote-line
returns-then-quote-line c =
    let l = c.loop-n in
    let t = c.args.line.now in
    let z = quoted_none t l.from c.find-quote.result c.find-quote.ensures.value (omega arith) in
    let p = storing_end _ _ _ l.invariant.1 z in record {
      stored = p;
      prefix_len = stored_counts p;
    }

pub returns-then-end-line : goal.returns-then-end-line
returns-then-end-line c =
    let l = c.loop-n in
    let t = c.args.line.now in
    let f = c.find-quote in
    let g = c.find-end in
    let z =
    quoted_open t l.from f.result f.ensures.value (omega arith) g.result g.ensures.value (omega arith) in
    let p = storing_end _ _ _ l.invariant.1 z in record {
      stored = p;
      prefix_len = stored_counts p;
    }

pub loop-n-preserved : goal.loop-n-preserved
loop-n-preserved c =
    let g = c.find-end in
    let f = c.find-quote in
    let l = c.loop-n in
    let t = c.args.line.now in
    let at = f.result + 1 in
    let after = g.result + 1 in
    let e =
    quoted_next t l.from f.result f.ensures.value (omega arith) g.result g.ensures.value (omega arith)
    c.find-next.result c.find-next.ensures.value in
    let a = until_is 34 at g.result t g.ensures.value in
    let b = until_is 34 after c.find-next.result t c.find-next.ensures.value in
    let p = rw (c.times_of-times.ensures, a, b) at c.put_times-n.ensures in
    (omega arith, storing_on _ _ _ l.invariant.1 _ _ e p)
