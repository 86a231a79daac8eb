-- The vertices of a flag of a cell of rank 4 and of its edge: what changes do to them, and that an edge has no third.
-- Assumes nothing.
use mathlib.Core.Path.{◌≡◌, sym, ap, ◌∙◌}
use mathlib.Core.Logic.{◌≢◌, inl, inr, ⊎_elim}
use mathlib.Core.List.{List}
use Prim.Native.Nat.{ℕ, ◌<◌}
use native.Mathlib.Omega.{arith}
use lib.ListN.{length, get_or}
use lib.Seq.{get_or-set_same, get_or-set_other}
use Rattle.order.specs.Lists.{In}
use Rattle.order.specs.Diamond.{OneOther}
use Rattle.listing.specs.Listing.{Listing, limits, rank, count, subs}
use Rattle.valid_incidence.specs.Incidence.{Incident}
use Rattle.valid_diamond.specs.Dyadic.{LiesBetween, DiamondAt, DiamondUpTo}
use Rattle.valid.specs.Closed.{Closed}
use Rattle.flag_change.specs.Flags.{IsFlag}
use Rattle.flag_change.specs.Change.{between, replaced_at, change_at, Changes}
use Rattle.flag_change.proofs.Changes.{changes}
use Rattle.flag_change.proofs.Replaced.{changed_apart}
use Rattle.volume_theory.specs.Six.{cell_rank, vertex_at, edge_at, face_at, other_vertex, OtherEnd}

-- a change keeps what stands at other ranks
pub kept : (L : Listing) (f : List ℕ) (r q : ℕ) → q ≢ r → get_or (change_at L r f) q 0 ≡ get_or f q 0
unfolding change_at
kept L f r q d = get_or-set_other f r q _ 0 d

-- the other vertex goes by what stands at the ranks 0 to 2
other_same : (L : Listing) (f g : List ℕ) → 1 < length f → 1 < length g → get_or f 0 0 ≡ get_or g 0 0
    → vertex_at f ≡ vertex_at g → edge_at f ≡ edge_at g → other_vertex L f ≡ other_vertex L g
unfolding change_at replaced_at between
other_same L f g h k a b c = rw (get_or-set_same f 1 _ 0 h, get_or-set_same g 1 _ 0 k, a, b, c)

module _ {L : Listing} (C : Closed limits L) (R : rank L ≡ cell_rank) where
  -- the ranks of changes
  pub inner : (r : ℕ) → 0 < r → r < cell_rank → (0 < r) × (r < rank L)
  inner r h k = (h, omega (arith, R))

  flag_long : {f : List ℕ} → IsFlag L f → 1 < length f
  flag_long F = omega (arith, F.one_each, R)

  change : {f : List ℕ} → IsFlag L f → (r : ℕ) → 0 < r → r < cell_rank → Changes L f r
  change {f} F r h k = changes L C r h (inner r h k).1 f F

  pub change_flag : {f : List ℕ} → IsFlag L f → (r : ℕ) → 0 < r → r < cell_rank → IsFlag L (change_at L r f)
  change_flag F r h k = (change F r h k).is_flag

  module _ {f : List ℕ} (F : IsFlag L f) where
    pub vertex_there : vertex_at f < count L 1
    vertex_there = F.exists 1 (flag_long F)

    pub face_there : face_at f < count L 3
    face_there = F.exists 3 (omega (arith, F.one_each, R))

    pub other_there : other_vertex L f < count L 1
    other_there = let G = change_flag F 1 (omega arith) (omega arith) in G.exists 1 (flag_long G)

    -- the change at rank 1 exchanges the two vertices of the edge
    pub other_back : other_vertex L (change_at L 1 f) ≡ vertex_at f
    other_back = ap vertex_at (change F 1 (omega arith) (omega arith)).back

    -- the change at rank 3 keeps both
    pub other_kept : other_vertex L (change_at L 3 f) ≡ other_vertex L f
    other_kept =
        let G = change_flag F 3 (omega arith) (omega arith) in
        other_same L (change_at L 3 f) f (flag_long G) (flag_long F) (kept L f 3 0 (λ e. omega arith))
        (kept L f 3 1 (λ e. omega arith)) (kept L f 3 2 (λ e. omega arith))

  -- ---- an edge has two vertices

  -- each vertex of an edge lies between it and the minimal element
  between_least : (e x : ℕ) → e < count L 2 → In x (subs L 2 e) → LiesBetween L 2 e 0 x
  unfolding Incident
  between_least e x h i =
      let k = ((C.incident 2 e h).lower.each x i).1 in
      let a = (C.incident 1 x k).lower in
      let s = a.some (omega arith) in
      let z : s.0 ≡ 0 = omega (arith, (a.each s.0 s.1).1, C.bounded.one_minimal) in
      (i, rw z at s.1)

  module _ {f : List ℕ} (F : IsFlag L f) where
    abbrev here : In (vertex_at f) (subs L 2 (edge_at f))
    here = F.under 1 (omega (arith, F.one_each, R))

    edge_there : edge_at f < count L 2
    edge_there = F.exists 2 (omega (arith, F.one_each, R))

    -- the changed flag has the same edge
    beyond : In (other_vertex L f) (subs L 2 (edge_at f))
    beyond =
        let G = change_flag F 1 (omega arith) (omega arith) in
        let e : edge_at (change_at L 1 f) ≡ edge_at f = kept L f 1 2 (λ e. omega arith) in
        rw e at (G.under 1 (omega (arith, G.one_each, R)))

    two : OneOther (LiesBetween L 2 (edge_at f) 0) (vertex_at f)
    unfolding DiamondUpTo DiamondAt
    two =
        C.diamond 2 (omega arith) (omega (arith, R)) (edge_at f) 0 (vertex_at f) edge_there
        (between_least (edge_at f) (vertex_at f) edge_there here)

    -- The other vertex is the only other vertex of the flag's edge.
    pub other_end : OtherEnd L (edge_at f) (vertex_at f) (other_vertex L f)
    other_end = record {
      this = here;
      other = beyond;
      differs = apart;
      only = λ x i. ⊎_elim inl (λ e. inr (e ∙ sym is)) (two.only x (between_least (edge_at f) x edge_there i));
    }
      where
        apart : other_vertex L f ≢ vertex_at f
        apart = changed_apart (change F 1 (omega arith) (omega arith)).changed

        is : other_vertex L f ≡ two.other
        is =
            ⊎_elim (λ e. absurd (apart e)) (λ e. e)
            (two.only (other_vertex L f) (between_least (edge_at f) (other_vertex L f) edge_there beyond))
