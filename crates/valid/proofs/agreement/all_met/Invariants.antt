-- Invariant: the cursors of the elements before `at` have come to the end, and where `some` is set these have sups.
use mathlib.Core.Path.{◌≡◌}
use mathlib.Core.Bool.{true}
use Rattle.valid.specs.Agreement.{AllMet, SomeSups}
use Rattle.valid.proofs.agreement.all_met.Given as goal

abbrev pub invariant-loop-at : goal.invariant-loop-at
invariant-loop-at l = AllMet l.ends l.low.place l.at l.next × (l.some ≡ true → SomeSups l.ends l.low.place l.at)
