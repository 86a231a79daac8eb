-- Invariant: n is how many subs the elements from `from` up to e list, and at most as many for each as there may be
-- incidences.
use mathlib.Core.Path.{◌≡◌}
use Prim.Native.Nat.{◌-◌, ◌*◌, ◌≤◌}
use Rattle.listing.specs.Listing.{limits}
use Rattle.product_sizes.specs.Sizing.{subs_between}
use Rattle.product_sizes.proofs.sizes.subs_listed.Given as goal

abbrev pub invariant-loop-e : goal.invariant-loop-e
invariant-loop-e l =
    (l.n ≡ subs_between l.slices.ends.now l.slices.inc.now l.from l.e)
    × (l.n ≤ limits.incidences * (l.e - l.from))
