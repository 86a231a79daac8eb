-- The walk goes on with what work found, or ends with its refusal.
use Rattle.valid.proofs.InClosed.{is_closed}
use Rattle.search_store.proofs.Meets.{moved_err}
use Rattle.search_walk.proofs.Runs.{running_start, running_next, running_stop, running_end}
use Rattle.search_walk.proofs.walk.run.Goals as goal

pub loop-k-init : goal.loop-k-init
loop-k-init c = running_start _ _ c.requires.rows c.requires.flags

pub returns-in_err-s : goal.returns-in_err-s
returns-in_err-s c a =
    let C = is_closed c.args.cell.slices c.args.cell.closed in
    moved_err _ _ c.from_residual.ensures.1
    (running_stop _ _ C c.requires.inner c.loop-k.invariant c.loop-k-test.true c.in_err-s.ensures a)

pub loop-k-preserved : goal.loop-k-preserved
loop-k-preserved c =
    let C = is_closed c.args.cell.slices c.args.cell.closed in
    running_next _ _ C c.requires.inner c.loop-k.invariant c.loop-k-test.true c.in_ok-s.ensures

pub returns : goal.returns
returns c =
    let C = is_closed c.args.cell.slices c.args.cell.closed in
    running_end _ _ C c.requires.inner c.loop-k.invariant c.loop-k-test.false
