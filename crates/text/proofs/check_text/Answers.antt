-- The refusal of the reading, into slices as long as the limits, else that of the closed test.
use mathlib.Core.Path.{refl, sym, ◌∙◌}
use Prim.Native.Nat.{ℕ, ◌*◌}
use native.Mathlib.Omega.{arith}
use lib.ListN.{replicate, length-replicate}
use lib.Seq.{length-take-le}
use Rattle.listing.specs.Listing.{listing, limits}
use Rattle.listing.proofs.Told.{refuses, told_err}
use Rattle.text.proofs.Read.{AsLong, check_stops, counts_fit, ends_fit, inc_fit, check_goes}
use Rattle.text.proofs.check_text.Goals as goal

-- the slices, before
as_long : AsLong
    (listing (replicate limits.ranks 0) (replicate (2 * limits.elements) 0) (replicate limits.incidences 0))
as_long = record {
  counts = length-replicate {A = ℕ} limits.ranks 0;
  ends = length-replicate {A = ℕ} (2 * limits.elements) 0;
  inc = length-replicate {A = ℕ} limits.incidences 0;
}

pub returns-in_err-n : goal.returns-in_err-n
returns-in_err-n c = told_err _ _ c.from_residual.ensures.1 ∙ check_stops _ as_long c.in_err-n.ensures (refuses _)

pub slice_bounds-counts-end : goal.slice_bounds-counts-end
slice_bounds-counts-end c = omega (arith, counts_fit _ as_long c.in_ok-n.ensures refl, c.from.ensures)

pub slice_bounds-closed-end : goal.slice_bounds-closed-end
slice_bounds-closed-end c =
    sym (length-take-le _ _ (omega (arith, counts_fit _ as_long c.in_ok-n.ensures refl, c.from.ensures)))

pub slice_bounds-ends-end : goal.slice_bounds-ends-end
slice_bounds-ends-end c = omega (arith, ends_fit _ as_long c.in_ok-n.ensures refl, c.from-2.ensures)

pub slice_bounds-closed-end-2 : goal.slice_bounds-closed-end-2
slice_bounds-closed-end-2 c =
    sym (length-take-le _ _ (omega (arith, ends_fit _ as_long c.in_ok-n.ensures refl, c.from-2.ensures)))

pub slice_bounds-inc-end : goal.slice_bounds-inc-end
slice_bounds-inc-end c = omega (arith, inc_fit _ as_long c.in_ok-n.ensures refl, c.from-3.ensures)

pub slice_bounds-closed-end-3 : goal.slice_bounds-closed-end-3
slice_bounds-closed-end-3 c =
    sym (length-take-le _ _ (omega (arith, inc_fit _ as_long c.in_ok-n.ensures refl, c.from-3.ensures)))

pub returns-in_err-closed : goal.returns-in_err-closed
returns-in_err-closed c =
    let e = rw (c.from.ensures, c.from-2.ensures, c.from-3.ensures) at c.in_err-closed.ensures.value in
    told_err _ _ c.from_residual-in_err-closed.ensures.1 ∙ e ∙ check_goes _ as_long c.in_ok-n.ensures refl

pub returns : goal.returns
returns c =
    let e = rw (c.from.ensures, c.from-2.ensures, c.from-3.ensures) at c.in_ok-closed.ensures.value in
    e ∙ check_goes _ as_long c.in_ok-n.ensures refl
