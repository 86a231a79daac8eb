-- Three returns: a refusal of the closed test or 20, then 21, and what is answered after the walk.
-- Assumes nothing.
use mathlib.Core.Path.{sym, refl, ◌∙◌}
use Rattle.listing.specs.Listing.{held, limits}
use Rattle.listing.proofs.Answers.{no_of}
use Rattle.listing.proofs.Told.{refuses}
use Rattle.search.proofs.Cases.{searched_err, ends_start, ends_mask, ends_search}
use Rattle.search.proofs.search.Goals as goal

pub returns-in_err-cell : goal.returns-in_err-cell
returns-in_err-cell c =
    let o = ends_start limits (held c.args.slices) c.args.first.now c.args.mask c.args.table.now c.args.bytes.now _
    c.in_err-cell.ensures.value (refuses c.in_err-cell.field-0.0) in record {
      value = searched_err _ _ c.from_residual.ensures.1 ∙ o.answer;
      table_after = o.flags;
      bytes_after = o.turns;
    }

pub returns-then-not-fits : goal.returns-then-not-fits
returns-then-not-fits c =
    let o = ends_mask limits (held c.args.slices) c.args.first.now c.args.mask c.args.table.now c.args.bytes.now
    (no_of c.in_ok-cell.ensures.value refl) (sym c.fits.ensures ∙ c.if-not-fits.true) in
    record { value = o.answer; table_after = o.flags; bytes_after = o.turns }

pub returns : goal.returns
returns c =
    let o = ends_search c.args.slices c.args.first.now c.in_ok-cell.cell.slices c.in_ok-cell.ensures.same
    c.in_ok-cell.ensures.value (sym c.if-not-fits.false ∙ c.fits.ensures) c.room_of-room.ensures
    c.search_from.result c.search_from.ensures in
    record { value = c.after_walk.ensures ∙ o.answer; table_after = o.flags; bytes_after = o.turns }
