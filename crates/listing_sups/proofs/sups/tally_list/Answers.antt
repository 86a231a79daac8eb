-- `tally_list`: each entry is counted in its turn, and there is room for one more.
-- Assumes nothing.
use Rattle.order.proofs.Lists.{occurs_nil}
use Rattle.listing_sups.proofs.Raising.{occurs_take, raised_none, raised_then, list_few}
use Rattle.listing_sups.proofs.sups.tally_list.Goals as goal

pub loop-x-init : goal.loop-x-init
loop-x-init c = raised_none _ _ _ _ (λ x h. occurs_nil x)

pub tally_entry-requires-clause-x_bound : goal.tally_entry-requires-clause-x_bound
tally_entry-requires-clause-x_bound c =
    list_few _ _ _ _ _ _ c.requires.by_index c.loop-x.invariant c.loop-x-test.true _

pub loop-x-preserved : goal.loop-x-preserved
loop-x-preserved c =
    raised_then _ _ _ _ _ _ _ _ c.loop-x.invariant c.tally_entry.ensures
    (λ y. occurs_take y c.args.list.now _ _ c.loop-x-test.true c.from.ensures)
