-- The walk begins at the head of the chain; each step goes on to the row before, and ends where the flag is or at the
-- chain's end.
-- Assumes nothing.
use mathlib.Core.Path.{sym, ◌∙◌}
use native.Mathlib.Omega.{arith}
use Rattle.search_index.proofs.Indexing.{down_start, down_next, down_found, down_none, chain_below}
use Rattle.search_index.proofs.Hash.{hash_small}
use Rattle.search_store.proofs.Store.find.Goals as goal

pub loop-p-init : goal.loop-p-init
loop-p-init c =
    down_start _ _ _ _ c.requires.indexed _ _ (omega (arith, hash_small c.args.flag.now)) c.requires.hash

pub returns-then-same_row : goal.returns-then-same_row
returns-then-same_row c =
    down_found _ _ _ _ c.requires.indexed _ c.loop-p.p c.loop-p.invariant (omega arith)
    (rw c.from.ensures at (sym c.same_row.ensures ∙ c.if-same_row.true))

pub loop-p-smaller : goal.loop-p-smaller
loop-p-smaller c =
    rw c.from-in-loop-p.ensures
    (omega (arith, chain_below _ _ _ _ c.requires.indexed _ c.loop-p.p c.loop-p.invariant (omega arith)))

pub loop-p-preserved : goal.loop-p-preserved
loop-p-preserved c =
    rw c.from-in-loop-p.ensures
    (down_next _ _ _ _ c.requires.indexed _ c.loop-p.p c.loop-p.invariant (omega arith)
    (rw c.from.ensures at (sym c.same_row.ensures ∙ c.if-same_row.false)))

pub returns : goal.returns
returns c = down_none _ _ _ _ c.requires.indexed _ (rw c.loop-p-test.false at c.loop-p.invariant)
