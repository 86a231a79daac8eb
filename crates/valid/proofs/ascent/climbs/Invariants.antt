-- Invariant: the list climbs from 0 exactly if what is left of it climbs from `from`.
use mathlib.Core.Path.{◌≡◌}
use lib.ListN.{drop}
use Rattle.valid.specs.Ascent.{climbs}
use Rattle.valid.proofs.ascent.climbs.Given as goal

abbrev pub invariant-loop-number : goal.invariant-loop-number
invariant-loop-number l = climbs 0 l.list ≡ climbs l.from (drop l.number-index l.list)
