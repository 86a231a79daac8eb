-- Three returns: a refusal of the closed test, more flags than there is room for, and what is answered after the
-- search.
-- Assumes nothing.
use mathlib.Core.Path.{◌∙◌}
use Rattle.listing.specs.Listing.{held}
use Rattle.listing.proofs.Told.{refuses}
use Rattle.search.proofs.Cases.{searched_err}
use Rattle.body.proofs.Cases.{body_stop, ends_full, ends_judged}
use Rattle.body.proofs.one_body.Goals as goal

pub returns-in_err-cell : goal.returns-in_err-cell
returns-in_err-cell c =
    let o = body_stop (held c.args.slices) c.args.table.now c.args.bytes.now _ c.in_err-cell.ensures.value
    (refuses c.in_err-cell.field-0.0) in record {
      value = searched_err _ _ c.from_residual.ensures.1 ∙ o.answer;
      table_after = o.flags;
      bytes_after = o.turns;
    }

pub returns-in-Err : goal.returns-in-Err
returns-in-Err c =
    let cell = c.in_ok-cell.cell in
    let o = ends_full c.args.slices cell.slices c.in_ok-cell.ensures.same cell.closed _ _ _ c.room_of-room.ensures
    _ (rw c.in-Err.is at c.search_whole.ensures) in
    record { value = o.answer; table_after = o.flags; bytes_after = o.turns }

pub returns-in-Ok : goal.returns-in-Ok
returns-in-Ok c =
    let cell = c.in_ok-cell.cell in
    let o = ends_judged c.args.slices cell.slices c.in_ok-cell.ensures.same cell.closed _ _ _ c.room_of-room.ensures
    _ (rw c.in-Ok.is at c.search_whole.ensures) _ c.flags_in_all.ensures _ c.judged.ensures in
    record { value = o.answer; table_after = o.flags; bytes_after = o.turns }
