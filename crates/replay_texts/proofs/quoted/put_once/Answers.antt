-- `put_once`. A backslash with the byte after it, any other byte, and the end. Assumes nothing.
use Rattle.replay_reading.proofs.Stores.{storing_all, storing_on, storing_end}
use Rattle.replay_texts.proofs.Pieces.{escape_next, itself_next, unescaped_end}
use lib.ListN.{get_or}
use mathlib.Core.List.{[], ◌∷◌}
use native.Mathlib.Omega.{arith}
use borrow.Author.Rules.{rules}
use Rattle.replay_texts.proofs.quoted.put_once.Goals as goal

pub loop-i-init : goal.loop-i-init
loop-i-init c = (search rules, storing_all _ _ _ (search rules))

pub loop-i-preserved-then-b-eq-ESCAPE : goal.loop-i-preserved-then-b-eq-ESCAPE
loop-i-preserved-then-b-eq-ESCAPE c =
    let l = c.loop-i in
    let t = c.args.piece.now in
    let e = escape_next t l.i c.loop-i-test.true c.if-b-eq-ESCAPE.true in
    (omega arith, storing_on _ _ _ l.invariant.1 (10 ∷ []) _ e c.put_byte-n.ensures)

pub loop-i-preserved : goal.loop-i-preserved
loop-i-preserved c =
    let l = c.loop-i in
    let t = c.args.piece.now in
    let e = itself_next t l.i c.loop-i-test.true c.if-b-eq-ESCAPE.false in
    (omega arith, storing_on _ _ _ l.invariant.1 (get_or t l.i 0 ∷ []) _ e c.put_byte-n-else-b-eq-ESCAPE.ensures)

pub returns : goal.returns
returns c = storing_end _ _ _ c.loop-i.invariant.1 (unescaped_end _ _ c.loop-i-test.false)
