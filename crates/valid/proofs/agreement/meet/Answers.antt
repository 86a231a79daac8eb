-- The cursor of s stands before the end of its sups, and x stands there.
use Rattle.valid.proofs.Agreeing.{cursor_inside, met_at}
use Rattle.valid.proofs.agreement.meet.Goals as goal

pub bounds-cell-from : goal.bounds-cell-from
bounds-cell-from c =
    cursor_inside _ c.args.cell.shaped c.requires.cursors c.requires.s_lt_size c.from-at.ensures c.if-cell-low.false
    c.from.ensures

pub returns : goal.returns
returns c =
    λ e. met_at _ _ c.requires.cursors c.requires.s_lt_size c.from-at.ensures c.from.ensures c.if-cell-from.false
