-- Invariant: the totals so far are those of the tally; and whatever the tally counted before, the indices so far have
-- been walked without refusal and are counted on top of it.
use mathlib.Core.List.{List}
use Prim.Native.Nat.{ℕ}
use lib.ListN.{take}
use Rattle.listing.specs.Listing.{limits}
use Rattle.valid_diamond.specs.Dyadic.{third}
use Rattle.valid_diamond.specs.Tally.{TotalsIn, Tally}
use Rattle.valid_diamond.proofs.Walks.{Walked}
use Rattle.valid_diamond.proofs.dyadic.tally_list.Given as goal

abbrev pub invariant-loop-sub_sub : goal.invariant-loop-sub_sub
invariant-loop-sub_sub l = TotalsIn limits.elements l.tally l.totals.met l.totals.twice
    × ((seen : List ℕ) → Tally limits.elements l.initial.tally seen
    → Walked limits.elements (third l.of.rank l.of.index) l.tally seen (take l.sub_sub-index l.subs))
