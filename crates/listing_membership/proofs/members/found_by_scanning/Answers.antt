-- `found_by_scanning`: the answer to the whole is the answer to what is left.
-- Assumes nothing.
use mathlib.Core.Path.{sym, ◌∙◌}
use borrow.Author.Tests.{eq-eqb, ne_eqb}
use Rattle.order.proofs.Positions.{has_step, has_end}
use Rattle.listing_membership.proofs.members.found_by_scanning.Goals as goal

pub returns-then-y-x : goal.returns-then-y-x
returns-then-y-x c =
    sym (c.loop-y.invariant ∙ has_step _ _ _ c.loop-y-test.true ∙ rw (eq-eqb _ _ c.if-y-x.true))

pub loop-y-preserved : goal.loop-y-preserved
loop-y-preserved c = c.loop-y.invariant ∙ has_step _ _ _ c.loop-y-test.true ∙ rw (ne_eqb _ _ c.if-y-x.false)

pub returns : goal.returns
returns c = sym (c.loop-y.invariant ∙ has_end _ _ _ c.loop-y-test.false)
