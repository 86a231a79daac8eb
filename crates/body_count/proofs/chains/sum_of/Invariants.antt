-- Invariant: what was added up, together with the numbers of the elements left, makes the answer once it stops
-- where it must; it has stopped there itself.
use mathlib.Core.Path.{◌≡◌}
use Prim.Native.Nat.{◌+◌, ◌≤◌}
use lib.ListN.{drop}
use Rattle.order.specs.Sums.{sum_over}
use Rattle.body_count.specs.Capped.{most, capped, number_at}
use Rattle.body_count.proofs.chains.sum_of.Given as goal

abbrev pub invariant-loop-x : goal.invariant-loop-x
invariant-loop-x l =
    let f = number_at l.numbers l.b in
    (l.sum ≤ most) × (capped (l.sum + sum_over f (drop l.x-index l.list)) ≡ capped (sum_over f l.list))
