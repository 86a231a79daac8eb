use mathlib.Core.Path.{◌≡◌}
use Prim.Native.Nat.{◌+◌}
use native.Mathlib.Omega.{arith}
use Rattle.listing_sups.proofs.sups.fill.Goals as goal

pub fill_ranks-requires-clause-by_index : goal.fill_ranks-requires-clause-by_index
fill_ranks-requires-clause-by_index c = λ e h.
    let z : 0 + e ≡ e = omega arith in
    rw z at (c.set_cursors.ensures.inside e (omega (arith, c.elements_before-n.ensures)))
