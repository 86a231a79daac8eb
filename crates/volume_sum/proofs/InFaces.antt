-- The lists of edges and faces of a closed cell: they are there, none is empty, and what they name is there.
-- Assumes nothing.
use mathlib.Core.Path.{◌≡◌, refl, ap, ◌∙◌}
use mathlib.Core.Bool.{Bool, true, false}
use mathlib.Core.List.{List}
use Prim.Native.Nat.{ℕ, ◌+◌, ◌-◌, ◌*◌, ◌≤◌, ◌<◌}
use native.Mathlib.Omega.{arith}
use borrow.Author.Tests.{ltb-true, ltb-false}
use lib.Dec.{ltb}
use lib.ListN.{length, get_or, set, take, drop, length-set}
use Rattle.std.specs.Prelude.{min}
use Rattle.std.proofs.lemmas.List.{take_all, length-drop}
use Rattle.std.proofs.lemmas.Grind.{get_or_after_one}
use Rattle.order.specs.Lists.{least_of}
use Rattle.order.proofs.Least.{least_first}
use Rattle.order.proofs.Positions.{set_next}
use Rattle.listing.specs.declared.Slices.{Slices}
use Rattle.listing.specs.Listing.{Ends, held, limits, before, entries, subs}
use Rattle.listing.proofs.InCell.{ends_are, side_there, few_in, few_here}
use Rattle.listing.proofs.Listing.{before_next}
use Rattle.listing.proofs.Places.{side_at}
use Rattle.valid.specs.Ascent.{Ascends}
use Rattle.valid.specs.Tests.{closed}
use Rattle.valid.proofs.InClosed.{shaped, incident, ascends}
use Rattle.volume_theory.specs.Six.{lowest_of}
use Rattle.volume_sum.proofs.Edges.{LowestAmong, some_sub, edge_there, among_first, among_lower, among_kept, among_all}

-- a list without its first number
rest_is : (l : List ℕ) → take (length l - 1) (drop 1 l) ≡ drop 1 l
rest_is l = take_all (length l - 1) (drop 1 l) (omega (arith, length-drop 1 l))

rest_at : (l : List ℕ) (k : ℕ) → get_or (take (length l - 1) (drop 1 l)) k 0 ≡ get_or l (k + 1) 0
rest_at l k = let e : 1 + k ≡ k + 1 = omega arith in rw (rest_is l, get_or_after_one l k 0, e)

rest_long : (l : List ℕ) → length (take (length l - 1) (drop 1 l)) ≡ length l - 1
rest_long l = ap (λ (m : List ℕ). length m) (rest_is l) ∙ length-drop 1 l

module _ (s : Slices) (C : (closed limits (held s)).no ≡ 0) where
  pub lists_end : Ends s.ends.now s.inc.now
  lists_end = ends_are s (shaped s C)

  -- the subs of element i of rank r, which begins at place here
  module _ (r here i : ℕ) (e : here ≡ before s.counts.now r) (h : i < get_or s.counts.now r 0) where
    abbrev list : List ℕ
    list = entries s.ends.now s.inc.now (2 * (here + i) + 0)

    its_subs : list ≡ subs (held s) r i
    its_subs = side_at (held s) here r i 0 e

    pub subs_there : 2 * (here + i) + 0 < length s.ends.now
    subs_there = side_there s (shaped s C) r here i 0 e h (omega arith)

    pub some_in : 0 < r → 0 < length list
    some_in z = rw its_subs (some_sub (held s) (incident s C) r i z h)

  -- an edge's first vertex is its lowest
  pub edge_lowest : (here e : ℕ) → here ≡ before s.counts.now 2 → e < get_or s.counts.now 2 0
      → get_or (entries s.ends.now s.inc.now (2 * (here + e) + 0)) 0 0 ≡ least_of (subs (held s) 2 e)
  unfolding Ascends
  edge_lowest here e p h =
      ap (λ m. get_or m 0 0) (its_subs 2 here e p h)
      ∙ least_first _ (ascends s C 2 e h 0 (omega arith))
      (some_sub (held s) (incident s C) 2 e (omega arith) h)

  -- the edges of face i, where the faces begin at place here
  module _ (here i : ℕ) (e : here ≡ before s.counts.now 3) (h : i < get_or s.counts.now 3 0) (face : List ℕ)
      (its : face ≡ entries s.ends.now s.inc.now (2 * (here + i) + 0)) where
    its_edges : face ≡ subs (held s) 3 i
    its_edges = its ∙ side_at (held s) here 3 i 0 e

    pub edge_in : (k : ℕ) → k < length face → get_or face k 0 < get_or s.counts.now 2 0
    edge_in k l = rw its_edges (edge_there (held s) (incident s C) i k h (rw its_edges at l))

    pub first_edge : (v : ℕ) → v ≡ least_of (subs (held s) 2 (get_or face 0 0)) → LowestAmong (held s) i 1 v
    first_edge v d =
        let some = some_sub (held s) (incident s C) 3 i (omega arith) h in
        rw (d, its_edges) (among_first (held s) (incident s C) i h some)

    -- the edges after the first
    module _ (k : ℕ) (l : k < length face - 1) where
      abbrev next : ℕ
      next = get_or (take (length face - 1) (drop 1 face)) k 0

      next_is : next ≡ get_or (subs (held s) 3 i) (k + 1) 0
      next_is = rest_at face k ∙ ap (λ (m : List ℕ). get_or m (k + 1) 0) its_edges

      pub next_in : next < get_or s.counts.now 2 0
      next_in = rw (rest_at face k) (edge_in (k + 1) (omega arith))

      pub next_edge : (v w : ℕ) → LowestAmong (held s) i (k + 1) v → w ≡ least_of (subs (held s) 2 next)
          → LowestAmong (held s) i (k + 1 + 1) (min v w)
      next_edge v w A d = go (ltb w v) refl
        where
          is : w ≡ least_of (subs (held s) 2 (get_or (subs (held s) 3 i) (k + 1) 0))
          is = d ∙ ap (λ (e : ℕ). least_of (subs (held s) 2 e)) next_is

          there : k + 1 < length (subs (held s) 3 i)
          there = omega (arith, ap (λ (m : List ℕ). length m) its_edges)

          go : (b : Bool) → ltb w v ≡ b → LowestAmong (held s) i (k + 1 + 1) (min v w)
          go true t =
              let e : min v w ≡ w = omega (arith, ltb-true w v t) in
              rw (e, is) (among_lower (held s) (incident s C) i h there A (rw is at (ltb-true w v t)))
          go false t =
              let e : min v w ≡ v = omega (arith, ltb-false w v t) in
              rw e (among_kept (held s) (incident s C) i h there A (rw is at (ltb-false w v t)))

    pub all_edges : (k v : ℕ) → length (take (length face - 1) (drop 1 face)) ≤ k → LowestAmong (held s) i (k + 1) v
        → v ≡ lowest_of (held s) i
    all_edges k v l A =
        let all = ap (λ (m : List ℕ). length m) its_edges in
        among_all (held s) i (k + 1) v (omega (arith, l, rest_long face, all)) A

  pub faces_begin : (edges : ℕ) → edges ≡ before s.counts.now 2
      → edges + get_or s.counts.now 2 0 ≡ before s.counts.now 3
  faces_begin edges e = omega (arith, e, before_next s.counts.now 2)

  pub few_faces : get_or s.counts.now 3 0 ≤ limits.elements
  few_faces = few_in s (shaped s C) 3

  pub few_below : before s.counts.now 2 + get_or s.counts.now 2 0 ≤ limits.elements
  few_below = omega (arith, before_next s.counts.now 2, few_here s (shaped s C) 3)

  -- one face more
  pub next_face : (low : List ℕ) (i at v : ℕ) → at ≡ i → i < get_or s.counts.now 3 0 → v ≡ lowest_of (held s) i
      → (length low ≡ limits.elements) × ((k : ℕ) → k < i → get_or low k 0 ≡ lowest_of (held s) k)
      → (length (set low at v) ≡ limits.elements)
      × ((k : ℕ) → k < i + 1 → get_or (set low at v) k 0 ≡ lowest_of (held s) k)
  next_face low i at v e h d p =
      let l : i < length low = omega (arith, p.0, few_faces) in
      rw e (length-set low i v ∙ p.0, set_next (lowest_of (held s)) low i v l d p.1)

pub ruleset edges = (lists_end, subs_there, some_in, edge_lowest)

pub ruleset faces = (lists_end, subs_there, some_in, edge_in, first_edge, next_edge, next_in)

pub ruleset all_faces = (faces_begin, few_faces, few_below)
