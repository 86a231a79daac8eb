-- `count_known`: the count of x is raised by one, or nothing is done. Assumes nothing.
use native.Mathlib.Omega.{arith}
use borrow.Author.Tests.{lt-ltb, le-ltb}
use Rattle.listing_sups.proofs.Raising.{raised_one, raised_past}
use Rattle.text_theory.specs.Said.{below_in}
use Rattle.text_sizes.proofs.rows.count_known.Goals as goal

pub overflow_add-up-then-x-n : goal.overflow_add-up-then-x-n
overflow_add-up-then-x-n c = omega (arith, c.requires.x_bound c.if-x-n.true)

pub returns-then-x-n : goal.returns-then-x-n
unfolding below_in
returns-then-x-n c =
    let h = c.if-x-n.true in record {
      raised = raised_one _ _ _ _ h c.requires.n_in_bounds;
      value = (rw (lt-ltb _ _ h), omega arith);
    }

pub returns : goal.returns
unfolding below_in
returns c =
    record {
      raised = raised_past _ _ _ _ c.if-x-n.false;
      value = (rw (le-ltb _ _ c.if-x-n.false), omega arith);
    }
