-- `build`: what copy, put_elements and fill leave is the listing, whatever layers the notes are of.
-- Assumes nothing.
use mathlib.Core.Path.{sym}
use native.Mathlib.Omega.{arith}
use lib.Seq.{length-take-le}
use Rattle.listing_sups.proofs.Unfilled.{fill_asked, filled_all}
use Rattle.text_building.proofs.Flat.{lists, room_counts, flat}
use Rattle.text_building.proofs.Told.{unfilled_of, unfilled, ranks_inside, elements_few, ends_inside}
use Rattle.text_building.proofs.build.build.Goals as goal

pub copy-requires : goal.copy-requires
copy-requires c =
    let s = c.requires.1 in
    (omega (arith, s.ranks_are, s.notes.ranks), omega (arith, s.ranks_are, room_counts s))

pub put_elements-requires : goal.put_elements-requires
put_elements-requires c = let s = c.requires in (lists s.0, flat s.1)

pub slice_bounds-fill-end : goal.slice_bounds-fill-end
slice_bounds-fill-end c = ranks_inside c.requires c.copy.ensures c.put_elements.ensures

pub slice_bounds-fill-end-2 : goal.slice_bounds-fill-end-2
slice_bounds-fill-end-2 c =
    sym (length-take-le _ _ (ranks_inside c.requires c.copy.ensures c.put_elements.ensures))

pub overflow_mul-n : goal.overflow_mul-n
overflow_mul-n c = omega (arith, elements_few c.requires c.copy.ensures c.put_elements.ensures)

pub slice_bounds-fill-end-3 : goal.slice_bounds-fill-end-3
slice_bounds-fill-end-3 c = ends_inside c.requires c.copy.ensures c.put_elements.ensures

pub slice_bounds-fill-end-4 : goal.slice_bounds-fill-end-4
slice_bounds-fill-end-4 c =
    sym (length-take-le _ _ (ends_inside c.requires c.copy.ensures c.put_elements.ensures))

pub fill-requires : goal.fill-requires
fill-requires c = fill_asked (unfilled c.requires c.copy.ensures c.put_elements.ensures)

pub returns : goal.returns
returns c = λ M s.
    let w = unfilled_of s _ _ _ c.copy.ensures (c.put_elements.ensures (lists M) (flat s)) in
    let o = filled_all w _ c.fill.ensures in
    record { counts = o.0; ends = o.1.0; inc = o.1.1 }
