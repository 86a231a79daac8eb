-- The lowest-numbered vertex of a face, met along its edges.
-- Assumes nothing.
use mathlib.Core.Path.{◌≡◌}
use mathlib.Core.List.{List}
use Prim.Native.Nat.{ℕ, ◌+◌, ◌≤◌, ◌<◌}
use native.Mathlib.Decide.{ℕ_discrete}
use native.Mathlib.Omega.{arith}
use lib.ListN.{length, get_or}
use Rattle.order.specs.Lists.{In, least_of}
use Rattle.order.proofs.Least.{least_le, least_in}
use Rattle.order.proofs.Positions.{in_at, at_in, in_some}
use Rattle.listing.specs.Listing.{Listing, count, subs}
use Rattle.valid_incidence.specs.Incidence.{Incident}
use Rattle.volume_theory.specs.Six.{lowest_of}
use Rattle.volume_theory.proofs.Lowest.{lowest_only}

module _ (L : Listing) (I : Incident L) where
  -- an element above rank 0 has a sub
  pub some_sub : (r i : ℕ) → 0 < r → i < count L r → 0 < length (subs L r i)
  unfolding Incident
  some_sub r i z h =
      let s = (I r i h).lower.some z in
      omega (arith, in_some (subs L r i) s.0 s.1)

  -- the kth edge of a face exists
  pub edge_there : (f k : ℕ) → f < count L 3 → k < length (subs L 3 f) → get_or (subs L 3 f) k 0 < count L 2
  unfolding Incident
  edge_there f k h i = ((I 3 f h).lower.each _ (in_at (subs L 3 f) k i)).1

  -- the edges of a face, as a list at hand
  module _ (f : ℕ) (h : f < count L 3) (l : List ℕ) (its : l ≡ subs L 3 f) where
    pub some_edge : 0 < length l
    some_edge = rw its (some_sub 3 f (omega arith) h)

    pub edges_there : (k : ℕ) → k < length l → get_or l k 0 < count L 2
    edges_there k i = rw its (edge_there f k h (rw its at i))

  -- the lowest vertex of an edge is one of its vertices
  edge_least : (e : ℕ) → e < count L 2 → In (least_of (subs L 2 e)) (subs L 2 e)
  unfolding Incident
  edge_least e h = let s = (I 2 e h).lower.some (omega arith) in least_in (subs L 2 e) s.0 s.1

-- v is a vertex of face f, and no vertex of its first k edges is lower
pub record LowestAmong (L : Listing) (f k v : ℕ) : Type 0 where
  pub edge : ℕ
  pub in_face : In edge (subs L 3 f)
  pub in_edge : In v (subs L 2 edge)
  pub least : (j w : ℕ) → j < k → In w (subs L 2 (get_or (subs L 3 f) j 0)) → v ≤ w

module _ (L : Listing) (I : Incident L) (f : ℕ) (h : f < count L 3) where
  abbrev edge_at : ℕ → ℕ
  edge_at k = get_or (subs L 3 f) k 0

  -- the first edge alone
  pub among_first : 0 < length (subs L 3 f) → LowestAmong L f 1 (least_of (subs L 2 (edge_at 0)))
  among_first z = record {
    edge = edge_at 0;
    in_face = in_at (subs L 3 f) 0 z;
    in_edge = edge_least L I (edge_at 0) (edge_there L I f 0 h z);
    least = λ j w i m. let e : j ≡ 0 = omega arith in least_le (subs L 2 (edge_at 0)) w (rw e at m);
  }

  module _ {k v : ℕ} (i : k < length (subs L 3 f)) (A : LowestAmong L f k v) where
    abbrev new : ℕ
    new = least_of (subs L 2 (edge_at k))

    -- one edge more, and a vertex that is no higher than the two
    next_least : (x : ℕ) → x ≤ v → x ≤ new → (j w : ℕ) → j < k + 1 → In w (subs L 2 (edge_at j)) → x ≤ w
    next_least x p q j w l m = go (ℕ_discrete j k)
      where
        go : Dec (j ≡ k) → x ≤ w
        go (yes e) = omega (arith, least_le (subs L 2 (edge_at k)) w (rw e at m))
        go (no e) = omega (arith, A.least j w (omega arith) m)

    -- its lowest vertex is lower, or it is not
    pub among_lower : new < v → LowestAmong L f (k + 1) new
    among_lower l = record {
      edge = edge_at k;
      in_face = in_at (subs L 3 f) k i;
      in_edge = edge_least L I (edge_at k) (edge_there L I f k h i);
      least = next_least new (omega arith) (omega arith);
    }

    pub among_kept : v ≤ new → LowestAmong L f (k + 1) v
    among_kept l = record {
      edge = A.edge;
      in_face = A.in_face;
      in_edge = A.in_edge;
      least = next_least v (omega arith) l;
    }

-- all edges
pub among_all : (L : Listing) (f k v : ℕ) → length (subs L 3 f) ≤ k → LowestAmong L f k v → v ≡ lowest_of L f
among_all L f k v h A =
    lowest_only L f v
    (record {
      edge = A.edge;
      in_face = A.in_face;
      in_edge = A.in_edge;
      least = λ e w i m.
          let p = at_in (subs L 3 f) e i in
          A.least p.0 w (omega (arith, p.1)) (rw (← p.2) at m);
    })
