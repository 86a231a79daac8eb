-- The loop's invariant: the walk has come down to the number p, and no row from there on is the flag. The measure is p,
-- since chains fall.
-- Assumes nothing.
use lib.ListN.{length}
use Rattle.search_index.proofs.Indexing.{Down}
use Rattle.search_store.proofs.Store.find.Given as goal

abbrev pub invariant-loop-p : goal.invariant-loop-p
invariant-loop-p l = Down (length l.flag) l.n l.self.table.now l.flag l.p

abbrev pub decreases-loop-p : goal.decreases-loop-p
decreases-loop-p l = l.p
