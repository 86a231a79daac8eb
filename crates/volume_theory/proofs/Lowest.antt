-- The lowest-numbered vertex of a face: there is one, it is the only one, and it exists.
-- Assumes nothing.
use mathlib.Core.Path.{◌≡◌}
use Prim.Native.Nat.{ℕ, ◌<◌}
use native.Mathlib.Omega.{arith}
use Rattle.order.specs.Lists.{In}
use Rattle.order.proofs.Least.{least_le, least_in, least_only}
use Rattle.listing.specs.Listing.{Listing, count}
use Rattle.valid_incidence.specs.Incidence.{Incident}
use Rattle.valid_diamond.specs.Dyadic.{walk}
use Rattle.valid_diamond.proofs.DyadicExact.{walk_exact, there}
use Rattle.volume_theory.specs.Six.{lowest_of, LowestIn}

module _ (L : Listing) (I : Incident L) (f : ℕ) (h : f < count L 3) where
  -- a face has an edge, and that a vertex
  some_vertex : (x : ℕ) × In x (walk L 3 f)
  unfolding Incident
  some_vertex =
      let a = (I 3 f h).lower in
      let e = a.some (omega arith) in
      let v = (I 2 e.0 (a.each e.0 e.1).1).lower.some (omega arith) in
      (v.0, (walk_exact L 3 f v.0).1 (e.0, (e.1, v.1)))

  lowest_met : In (lowest_of L f) (walk L 3 f)
  unfolding lowest_of
  lowest_met = let s = some_vertex in least_in (walk L 3 f) s.0 s.1

  pub lowest_there : lowest_of L f < count L 1
  lowest_there = there L I 3 f (lowest_of L f) h lowest_met

  pub lowest_in : LowestIn L f (lowest_of L f)
  unfolding lowest_of
  lowest_in =
      let p = (walk_exact L 3 f (lowest_of L f)).0 lowest_met in
      record {
        edge = p.0;
        in_face = p.1.0;
        in_edge = p.1.1;
        least = λ e w i j. least_le (walk L 3 f) w ((walk_exact L 3 f w).1 (e, (i, j)));
      }

-- No other vertex is the lowest.
pub lowest_only : (L : Listing) (f v : ℕ) → LowestIn L f v → v ≡ lowest_of L f
unfolding lowest_of
lowest_only L f v l =
    least_only (walk L 3 f) v ((walk_exact L 3 f v).1 (l.edge, (l.in_face, l.in_edge)))
    (λ w m. let p = (walk_exact L 3 f w).0 m in l.least p.0 w p.1.0 p.1.1)
