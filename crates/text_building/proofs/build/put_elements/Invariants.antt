-- `put_elements`. Invariant: the first e elements are written, and the places are those of the next one, whatever lists
-- the notes are of.
-- Assumes nothing.
use mathlib.Core.List.{List}
use Prim.Native.Nat.{ℕ}
use lib.ListN.{length}
use Rattle.text_building.specs.Building.{Flat}
use Rattle.text_building.proofs.Elements.{Reached}
use Rattle.text_building.proofs.build.put_elements.Given as goal

abbrev pub invariant-loop-e : goal.invariant-loop-e
invariant-loop-e l = (lists : ℕ → List ℕ)
    → Flat lists l.notes.many l.notes.subs l.notes.up l.n (length l.initial.ends) (length l.initial.inc)
    → Reached lists l.e l.p l.initial.ends l.initial.inc l.ends l.inc
