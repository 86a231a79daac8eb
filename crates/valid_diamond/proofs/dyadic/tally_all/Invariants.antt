-- Invariant: the totals are those of the tally, and the lists so far have been walked without refusal: the tally counts
-- them and nothing else.
use mathlib.Core.List.{[]}
use lib.ListN.{take}
use Rattle.listing.specs.Listing.{limits}
use Rattle.valid_diamond.specs.Dyadic.{subs_of_all, third}
use Rattle.valid_diamond.specs.Tally.{TotalsIn}
use Rattle.valid_diamond.proofs.Walks.{Walked}
use Rattle.valid_diamond.proofs.dyadic.tally_all.Given as goal

abbrev pub invariant-loop-sub : goal.invariant-loop-sub
invariant-loop-sub l =
    let walked = subs_of_all l.cell.slices.ends.now l.cell.slices.inc.now l.b (take l.sub-index l.subs) in
    TotalsIn limits.elements l.tally l.totals.met l.totals.twice
    × Walked limits.elements (third l.of.rank l.of.index) l.tally [] walked
