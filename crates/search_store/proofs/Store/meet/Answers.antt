-- Four returns, one for each case: found before and nothing changes, found before with another byte for the first time,
-- new and there is no room, new and there is room.
-- Assumes nothing.
use native.Mathlib.Omega.{arith}
use Rattle.search_store.proofs.Meets.{moved_known, moved_same, moved_first, moved_full, moved_added}
use Rattle.search_store.proofs.Store.meet.Goals as goal
use Rattle.search_store.proofs.Store.meet.Goals.{then-s-ne0-via-then-s-ne0, then-s-ne0-via-else-s-ne0+then-self-from}

pub returns-then-s-ne0 : goal.returns-then-s-ne0
returns-then-s-ne0 c =
    let k = c.find-k.ensures in
    elim c.then-s-ne0.branch [
      | then-s-ne0-via-then-s-ne0 t ↦
          moved_known _ _ _ c.requires.held _ _ _ k c.if-k-n.true t.if-s-ne0.true
      | then-s-ne0-via-else-s-ne0+then-self-from t ↦
          moved_same _ _ _ c.requires.held _ _ _ k c.if-k-n.true (rw t.from.ensures at t.if-self-from.true)
    ]

pub returns-then-k-n : goal.returns-then-k-n
returns-then-k-n c =
    moved_first _ _ _ c.requires.held _ _ _ c.find-k.ensures c.if-k-n.true c.if-s-ne0.false
    (rw c.from.ensures at c.if-self-from.false)

pub returns-then-self-from-2 : goal.returns-then-self-from-2
returns-then-self-from-2 c =
    moved_full _ _ _ c.requires.held _ _ _ c.find-k.ensures c.if-k-n.false (omega (arith, c.if-self-from-2.true))

pub returns : goal.returns
returns c =
    moved_added _ _ _ c.requires.held _ _ _ c.requires.hash c.find-k.ensures c.if-k-n.false
    (omega (arith, c.if-self-from-2.false)) _ c.add.ensures
