-- `fill_entry`: k is written at the cursor of x, which is raised by one; or nothing is done.
-- Assumes nothing.
use Rattle.listing_sups.proofs.Strewing.{strewn_one, strewn_past}
use Rattle.listing_sups.proofs.Raising.{raised_one, raised_past}
use Rattle.listing_sups.proofs.sups.fill_entry.Goals as goal

pub returns-then-x-n : goal.returns-then-x-n
returns-then-x-n c =
    rw c.from-cursor.ensures record {
      raised = raised_one _ _ _ _ c.if-x-n.true c.requires.n_in_bounds.0;
      strewn = strewn_one _ _ _ _ c.args.next.now _ c.if-x-n.true (c.requires.x_in_bounds c.if-x-n.true);
    }

pub returns-else-x-n : goal.returns-else-x-n
returns-else-x-n c =
    record {
      raised = raised_past _ _ _ _ c.if-x-n.false;
      strewn = strewn_past _ _ _ _ _ _ c.if-x-n.false;
    }
