-- A closed listing is a closed cell in the sense of the order theory; and back, where the sups are the derived ones.
-- Assumes nothing.
use mathlib.Core.Path.{◌≡◌, refl, ap}
use mathlib.Core.Bool.{false}
use Prim.Native.Nat.{ℕ, suc, ◌-◌, ◌<◌}
use native.Mathlib.Decide.{dec_lt}
use native.Mathlib.Numerals.{add-one, sub-one}
use native.Mathlib.Omega.{arith}
use Rattle.order.specs.Lists.{Ascending}
use Rattle.order.specs.Structure.{turned}
use Rattle.order.specs.Diamond.{Rooted, OneLowest, Frame, Cell}
use Rattle.order.proofs.Pairs.{pair_path}
use Rattle.order.proofs.Lists.{ascending_once}
use Rattle.listing.specs.Listing.{Listing, Limits, rank, count, side, subs}
use Rattle.listing.specs.Shape.{Shaped}
use Rattle.listing.specs.Layers.{layers, order, derived}
use Rattle.listing.proofs.Layers.{layers_topped, in_range, derived_in, derived_ascending}
use Rattle.valid_incidence.specs.Incidence.{LowerAt, UpperAt, Incident}
use Rattle.listing.proofs.Places.{at_sides}
use Rattle.valid_diamond.specs.Dyadic.{DiamondUpTo}
use Rattle.valid.specs.Bounds.{Bounded}
use Rattle.valid.specs.Ascent.{Ascends}
use Rattle.valid.specs.Closed.{Closed}
use Rattle.valid.specs.Derived.{Derived}
use Rattle.product_pairs.specs.Sound.{Sound, Sorted}
use Rattle.product_closure.proofs.Diamonds.{diamond_same}

module _ (L : Listing) where
  -- ---- lists

  pub incident_sound : Incident L → Sound (layers L)
  unfolding Sound Incident
  incident_sound I r b a h m = let t = (I r b h).lower.each a m in (t.0, rw sub-one at t.1)

  pub ascends_sorted : Ascends L → Sorted (layers L)
  unfolding Ascends Sorted
  ascends_sorted a r b h = a r b h 0 (omega arith)

  -- no subs list holds an index twice, so that the derived sups ascend
  sups_ascend : Sorted (layers L) → (r i : ℕ) → Ascending (derived (layers L) r i)
  unfolding Sorted
  sups_ascend o r i = derived_ascending (layers L) r i (λ b h. ascending_once i (subs L (suc r) b) (o (suc r) b h))

  sorted_ascends : Sorted (layers L) → Derived L → Ascends L
  unfolding Ascends Sorted Derived
  sorted_ascends o d r i h = at_sides (λ s. Ascending (side L s r i)) (o r i h) (rw (d r i h) (sups_ascend o r i))

  -- ---- the ends

  -- the one element of a rank
  lone : (r : ℕ) → count L r ≡ 1 → (x : ℕ × ℕ) → x.1 < count L x.0 → x.0 ≡ r → x ≡ (r, 0)
  lone r c x e p = pair_path p (omega (arith, rw p at e))

  one_lowest : Bounded L → OneLowest (order (layers L))
  one_lowest b = record {
    least = (0, 0);
    least_exists = omega (arith, b.one_minimal);
    least_rank = refl;
    least_only = lone 0 b.one_minimal;
  }

  one_highest : Bounded L → OneLowest (turned (order (layers L)))
  one_highest b = record {
    least = (rank L, 0);
    least_exists = omega (arith, b.one_maximal);
    least_rank = omega arith;
    least_only = λ x e h.
        lone (rank L) b.one_maximal x e (omega (arith, in_range (layers L) (layers_topped L) x.0 x.1 e));
  }

  -- a rank whose elements are all equal to one of them has that one only
  lone_count : (r : ℕ) (y : ℕ × ℕ) → y.1 < count L y.0 → y.0 ≡ r
      → ((x : ℕ × ℕ) → x.1 < count L x.0 → x.0 ≡ r → x ≡ y) → count L r ≡ 1
  lone_count r y e p only = go (dec_lt 1 (count L r)) (rw p at e)
    where
      same : (i : ℕ) → i < count L r → i ≡ y.1
      same i h = ap (λ (x : ℕ × ℕ). x.1) (only (r, i) h refl)

      go : Dec (1 < count L r) → y.1 < count L r → count L r ≡ 1
      go (yes l) h = absurd (omega (arith, same 0 (omega arith), same 1 l))
      go (no l) h = omega arith

  pub frame_bounded : Frame false false (order (layers L)) → Bounded L
  frame_bounded f =
      let low = f.one_lowest tt in
      let high = f.one_highest tt in
      let c = in_range (layers L) (layers_topped L) _ _ high.least_exists in
      record {
        one_minimal = lone_count 0 low.least low.least_exists low.least_rank low.least_only;
        one_maximal =
            lone_count (rank L) high.least high.least_exists (omega (arith, high.least_rank))
            (λ x e p. high.least_only x e (omega arith));
      }

  -- ---- incidences

  rooted : Incident L → Rooted (order (layers L))
  unfolding Rooted Incident
  rooted I y e h =
      let a = (I y.0 y.1 e).lower in
      let t = a.some h in
      let s = a.each t.0 t.1 in
      ((y.0 - 1, t.0), (s.1, e, omega arith, t.1))

  hung : Incident L → Rooted (turned (order (layers L)))
  unfolding Rooted Incident
  hung I x e h =
      let a = (I x.0 x.1 e).upper in
      let t = a.some (omega arith) in
      let s = a.each t.0 t.1 in
      ((suc x.0, t.0), (e, rw add-one at s.0, refl, rw add-one at s.1))

  pub framed : Bounded L → Incident L → Frame false false (order (layers L))
  framed b I =
      let low = one_lowest b in
      let high = one_highest b in
      record {
        one_lowest = λ t. low;
        one_highest = λ t. high;
        rooted = rooted I;
        hung = hung I;
        some_lowest = record { low = low.least; low_exists = low.least_exists; low_rank = low.least_rank };
        some_highest = record { low = high.least; low_exists = high.least_exists; low_rank = high.least_rank };
      }

  module _ (f : Frame false false (order (layers L))) (s : Sound (layers L)) (d : Derived L) where
    frame_lower : (r i : ℕ) → i < count L r → LowerAt L r i
    unfolding Rooted Sound Derived
    frame_lower r i h = record {
      some = λ p. let t = f.rooted (r, i) h p in (t.0.1, t.1.3);
      each = λ x m.
          let t = s r i x h m in
          let e : suc (r - 1) ≡ r = omega (arith, t.0) in
          let k : x < count L (r - 1) = rw sub-one t.1 in
          (t.0, k, rw (d (r - 1) x k) ((derived_in (layers L) (r - 1) x i).1 (rw e h, rw e m)));
    }

    frame_upper : (r i : ℕ) → i < count L r → UpperAt L r i
    unfolding Rooted Derived
    frame_upper r i h = record {
      some = λ p.
          let t = f.hung (r, i) h (omega arith) in
          let u = (derived_in (layers L) r i t.0.1).1 (rw t.1.2 at t.1.1, rw t.1.2 at t.1.3) in
          (t.0.1, rw (d r i h) u);
      each = λ x m.
          let t = (derived_in (layers L) r i x).0 (rw (d r i h) at m) in
          (rw add-one t.0, rw add-one t.1);
    }

    pub frame_incident : Incident L
    unfolding Incident
    frame_incident r i h = record { lower = frame_lower r i h; upper = frame_upper r i h }

-- ---- closed listings and closed cells

module _ (L : Listing) where
  cell_diamond : Cell false false (order (layers L)) → Sound (layers L) → DiamondUpTo L (rank L)
  cell_diamond g s = (diamond_same L s).1 g.diamond

  module _ {m : Limits} where
    pub closed_cell : Closed m L → Cell false false (order (layers L))
    closed_cell c = record {
      frame = framed L c.bounded c.incident;
      diamond = (diamond_same L (incident_sound L c.incident)).0 c.diamond;
      low_diamond = λ t. absurd t;
      high_diamond = λ t. absurd t;
    }

    pub cell_closed : Shaped m L → Cell false false (order (layers L)) → Sound (layers L) → Sorted (layers L)
        → Derived L → Closed m L
    cell_closed h g s o d = record {
      shaped = h;
      bounded = frame_bounded L g.frame;
      incident = frame_incident L g.frame s d;
      ascends = sorted_ascends L o d;
      diamond = cell_diamond g s;
    }
