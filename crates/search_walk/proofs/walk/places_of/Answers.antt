use mathlib.Core.Path.{refl, sym}
use native.Mathlib.Omega.{arith}
use lib.ListN.{length-set}
use Rattle.order.proofs.Positions.{set_next}
use Rattle.listing.proofs.Listing.{before_zero, before_next}
use Rattle.listing.specs.Listing.{before}
use Rattle.search_walk.proofs.walk.places_of.Goals as goal

pub loop-r-init : goal.loop-r-init
loop-r-init c = (sym (before_zero _), omega arith, refl, λ k h. absurd (omega arith))

pub loop-r-preserved : goal.loop-r-preserved
loop-r-preserved c =
    let l = c.loop-r in
    let I = l.invariant in (
      rw (c.from-here.ensures, I.0) (sym (before_next _ _)),
      omega (arith, I.1),
      simp length-set I.2,
      set_next (before c.args.counts.now) l.places l.r l.here (omega (arith, I.2)) I.0 I.3,
    )
