-- The dual of a closed listing is closed, and of one body one body; turned over, the order of a listing is that of its
-- dual.
-- Assumes nothing.
use mathlib.Core.Path.{◌≡◌, refl, ap, ◌∙◌}
use mathlib.Core.Bool.{false}
use Prim.Native.Nat.{ℕ, ◌+◌, ◌-◌, ◌≤◌, ◌<◌}
use native.Mathlib.Omega.{arith}
use Rattle.order.specs.Lists.{In, Ascending}
use Rattle.order.specs.Structure.{Ranked, turned, Renumbering}
use Rattle.order.specs.Diamond.{Cell}
use Rattle.order.proofs.Pairs.{pair_path}
use Rattle.order.proofs.Renumbering.{Renumbering-cell, turned-ranked, turned-cell}
use Rattle.order.proofs.Flags.{Renumbering-connected, turned-connected}
use Rattle.listing.specs.Listing.{Listing, Limits, rank, count, side, subs, sups}
use Rattle.listing.specs.Shape.{Shaped}
use Rattle.listing.specs.Layers.{layers, order}
use Rattle.listing.proofs.Layers.{layers_topped, order_ranked}
use Rattle.listing.proofs.Places.{at_sides}
use Rattle.valid_incidence.specs.Incidence.{SubBack, SupBack, LowerAt, UpperAt, Incident}
use Rattle.valid.specs.Bounds.{Bounded}
use Rattle.valid.specs.Ascent.{Ascends}
use Rattle.valid.specs.Closed.{Closed}
use Rattle.product_closure.proofs.Cells.{incident_sound, closed_cell}
use Rattle.product_closure.proofs.Diamonds.{diamond_same}
use Rattle.body_theory.specs.Pieces.{OnePiece, OneBody}
use Rattle.body_theory.proofs.Elements.{one_piece_connected}
use Rattle.dual_theory.specs.Dual.{dual_el, Dual}
use Rattle.dual_theory.proofs.Duals.{twice, there}

-- ---- elements

module _ {L D : Listing} (d : Dual L D) where
  -- an element of the listing, of the opposite rank in the dual; and one of the dual, in the listing
  pub dual_there : (r i : ℕ) → i < count L r → i < count D (rank L - r)
  dual_there r i h =
      let e = d.sizes (rank L - r) (omega arith) ∙ ap (count L) (twice (rank L) r (there L r i h)) in
      rw e h

  pub there_dual : (r i : ℕ) → i < count D r → (r ≤ rank L) × (i < count L (rank L - r))
  there_dual r i h =
      let k : r ≤ rank L = omega (arith, there D r i h, d.ranks) in
      (k, rw (d.sizes r k) at h)

  -- the lists of an element of the listing are those of the dual, exchanged
  pub under_dual : (r i : ℕ) → i < count L r → subs D (rank L - r) i ≡ sups L r i
  under_dual r i h =
      let e = twice (rank L) r (there L r i h) in
      d.under (rank L - r) i (omega arith) (rw e h) ∙ ap (λ (s : ℕ). sups L s i) e

  module _ (I : Incident L) where
    pub dual_under : (x y : ℕ × ℕ) → (order (layers L)).Under y x
        → (order (layers D)).Under (dual_el (rank L) x) (dual_el (rank L) y)
    unfolding Incident
    dual_under x y u =
        let s : x.0 - 1 ≡ y.0 = omega (arith, u.2) in
        let b = rw s at ((I x.0 x.1 u.1).lower.each y.1 u.3).2 in (
          dual_there x.0 x.1 u.1,
          dual_there y.0 y.1 u.0,
          omega (arith, u.2, there L x.0 x.1 u.1),
          rw (under_dual y.0 y.1 u.0) b,
        )

    pub under_back : (x y : ℕ × ℕ) → (order (layers D)).Under x y
        → (order (layers L)).Under (dual_el (rank L) y) (dual_el (rank L) x)
    unfolding Incident
    under_back x y u =
        let p = there_dual x.0 x.1 u.0 in
        let q = there_dual y.0 y.1 u.1 in
        let s : rank L - y.0 + 1 ≡ rank L - x.0 = omega (arith, u.2, q.0) in
        let m = rw (d.under y.0 y.1 q.0 q.1) at u.3 in
        let b = (I (rank L - y.0) y.1 q.1).upper.each x.1 m in
        (q.1, p.1, omega (arith, s), rw s at b.1)

    -- Turned over, the order of a listing is that of its dual.
    unfoldable pub dual_order : Renumbering (turned (order (layers L))) (order (layers D))
    dual_order = record {
      to = dual_el (rank L);
      from = dual_el (rank L);
      to_exists = λ x e. dual_there x.0 x.1 e;
      from_exists = λ y e. (there_dual y.0 y.1 e).1;
      from_to = λ x e. pair_path (twice (rank L) x.0 (there L x.0 x.1 e)) refl;
      to_from = λ y e. pair_path (twice (rank L) y.0 (there_dual y.0 y.1 e).0) refl;
      to_under = dual_under;
      from_under = under_back;
      same_rank = λ x e. refl;
      same_top = d.ranks;
    }

-- ---- incidences

module _ {L D : Listing} (d : Dual L D) (I : Incident L) (r i : ℕ) (low : r ≤ rank L)
    (h : i < count L (rank L - r)) where
  -- the opposite rank
  abbrev s : ℕ
  s = rank L - r

  dual_sub : (x : ℕ) → In x (subs D r i) → SubBack D r i x
  unfolding Incident
  dual_sub x m =
      let b = (I s i h).upper.each x (rw (d.under r i low h) at m) in
      let k : s + 1 ≤ rank L = there L (s + 1) x b.0 in
      let e : rank L - (r - 1) ≡ s + 1 = omega arith in (
        omega arith,
        rw (d.sizes (r - 1) (omega arith), e) b.0,
        rw (d.above (r - 1) x (omega arith) (rw e b.0), e) b.1,
      )

  dual_sup : (x : ℕ) → In x (sups D r i) → SupBack D r i x
  unfolding Incident
  dual_sup x m =
      let b = (I s i h).lower.each x (rw (d.above r i low h) at m) in
      let e : rank L - (r + 1) ≡ s - 1 = omega arith in (
        rw (d.sizes (r + 1) (omega (arith, b.0)), e) b.1,
        rw (d.under (r + 1) x (omega (arith, b.0)) (rw e b.1), e) b.2,
      )

  dual_lower : LowerAt D r i
  unfolding Incident
  dual_lower = record {
    some = λ p. rw (d.under r i low h) ((I s i h).upper.some (omega arith));
    each = dual_sub;
  }

  dual_upper : UpperAt D r i
  unfolding Incident
  dual_upper = record {
    some = λ p. rw (d.above r i low h) ((I s i h).lower.some (omega (arith, d.ranks)));
    each = dual_sup;
  }

-- ---- closed listings

module _ {L D : Listing} (d : Dual L D) where
  dual_bounded : Bounded L → Bounded D
  dual_bounded b =
      let z : rank L - 0 ≡ rank L = omega arith in
      let e : rank L - rank L ≡ 0 = omega arith in
      record {
        one_minimal = d.sizes 0 (omega arith) ∙ ap (count L) z ∙ b.one_maximal;
        one_maximal = ap (count D) d.ranks ∙ d.sizes (rank L) (omega arith) ∙ ap (count L) e ∙ b.one_minimal;
      }

  pub dual_incident : Incident L → Incident D
  unfolding Incident
  dual_incident I r i h =
      let t = there_dual d r i h in
      record { lower = dual_lower d I r i t.0 t.1; upper = dual_upper d I r i t.0 t.1 }

  dual_ascends : Ascends L → Ascends D
  unfolding Ascends
  dual_ascends a r i h =
      let t = there_dual d r i h in
      at_sides (λ s. Ascending (side D s r i))
      (rw (d.under r i t.0 t.1) (a (rank L - r) i t.1 1 (omega arith)))
      (rw (d.above r i t.0 t.1) (a (rank L - r) i t.1 0 (omega arith)))

-- the order of a listing
ranked : (L : Listing) → Ranked (order (layers L))
ranked L = order_ranked (layers L) (layers_topped L)

module _ {m : Limits} {L D : Listing} (d : Dual L D) where
  dual_cell : Closed m L → Cell false false (order (layers D))
  dual_cell C =
      Renumbering-cell (turned-ranked (ranked L)) (ranked D) (dual_order d C.incident)
      (turned-cell (ranked L) (closed_cell L C))

  -- The dual of a closed listing is closed.
  pub dual_closed : Shaped m D → Closed m L → Closed m D
  dual_closed S C =
      let I = dual_incident d C.incident in
      record {
        shaped = S;
        bounded = dual_bounded d C.bounded;
        incident = I;
        ascends = dual_ascends d C.ascends;
        diamond = (diamond_same D (incident_sound D I)).1 (dual_cell C).diamond;
      }

  dual_piece : Shaped m D → OneBody m L → OnePiece D
  dual_piece S b =
      (one_piece_connected D S.some_rank).1
      (Renumbering-connected (turned-ranked (ranked L)) (ranked D) (dual_order d b.closed.incident)
      (turned-connected (ranked L) ((one_piece_connected L b.closed.shaped.some_rank).0 b.one_piece)))

  -- The dual of one body is one body.
  pub dual_body : Shaped m D → OneBody m L → OneBody m D
  dual_body S b = record { closed = dual_closed S b.closed; one_piece = dual_piece S b }
