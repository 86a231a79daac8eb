-- A closed cell less an end: the rank at that end is struck. And what was added at an end is struck again.
-- Assumes nothing.
use mathlib.Core.Path.{◌≡◌, refl, ap, ◌∙◌, subst}
use mathlib.Core.Logic.{◌↔◌}
use mathlib.Core.Bool.{Bool, true, false}
use Prim.Native.Nat.{ℕ, suc, pred, ◌-◌, ◌≤◌, ◌<◌}
use native.Mathlib.Omega.{arith}
use Rattle.order.specs.Structure.{Order, Ranked, turned, Renumbering}
use Rattle.order.specs.Diamond.{Between, Diamond, LowDiamond, Rooted, SomeLowest, OneLowest, Frame, Cell}
use Rattle.order.specs.Ends.{Added, end, old, AddedExists, added_rank, AddedUnder}
use Rattle.order.specs.Ends.{with_min, with_max, without_min, without_max}
use Rattle.order.proofs.Renumbering.{from_rank, Renumbering-back, Renumbering-then, Renumbering-turned}
use Rattle.order.proofs.Renumbering.{turned-ranked, turned-turned, OneOther-same, turned-frame, turned-cell}
use Rattle.order.proofs.Added.{with_min-ranked}

-- Ranks one lower, and counted from above, as plain numbers.
pred_step : (r s : ℕ) → 0 < r → s ≡ suc r → pred s ≡ suc (pred r)
pred_step r s p h = omega arith

pred_le : (r t : ℕ) → r ≤ t → pred r ≤ pred t
pred_le r t h = omega arith

pred_zero : (r : ℕ) → 0 < r → pred r ≡ 0 → r ≡ 1
pred_zero r p h = omega arith

pred_pos : (r : ℕ) → 0 < pred r → 1 < r
pred_pos r h = omega arith

highest : (t r : ℕ) → 0 < r → (pred t - pred r ≡ 0) ↔ (t - r ≡ 0)
highest t r p = (λ h. omega arith, λ h. omega arith)

not_highest : (t r : ℕ) → 0 < pred t - pred r → 0 < t - r
not_highest t r h = omega arith

pub without_min-ranked : {W : Order} → Ranked W → Ranked (without_min W)
without_min-ranked r_w = record {
  exist = λ x y r. let e = r_w.exist x y r.0 in ((e.0, r.1), (e.1, omega (arith, r_w.step x y r.0)));
  step = λ x y r. pred_step _ _ r.1 (r_w.step x y r.0);
  cap = λ x e. pred_le _ _ (r_w.cap x e.0);
}

pub without_max-ranked : {W : Order} → Ranked W → Ranked (without_max W)
without_max-ranked r_w = turned-ranked (without_min-ranked (turned-ranked r_w))

module _ {W : Order} (r_w : Ranked W) where
  without_min-diamond : Diamond W → Diamond (without_min W)
  unfolding Diamond
  without_min-diamond d x y z r s =
      OneOther-same (Between W x z) (Between (without_min W) x z) y
      (λ w p. ((p.0, r.1), (p.1, omega (arith, r_w.step x w p.0)))) (λ w p. (p.0.0, p.1.0))
      (d x y z r.0 s.0)

  -- whatever has rank 1 lies directly over the least element
  pub over_least : Rooted W → (s : OneLowest W) (x : W.Elem) → W.Exists x → W.rank x ≡ 1 → W.Under s.least x
  unfolding Rooted
  over_least d s x e h =
      let t = d x e (omega arith) in
      let low = s.least_only t.0 (r_w.exist _ _ t.1).0 (omega (arith, r_w.step _ _ t.1)) in
      subst (λ v. W.Under v x) low t.1

  -- what is left under y is what lies between the least element and y
  without_min-low_diamond : Rooted W → OneLowest W → Diamond W → LowDiamond (without_min W)
  unfolding LowDiamond Diamond
  without_min-low_diamond ro s d x y r h =
      OneOther-same (Between W s.least y) (λ w. (without_min W).Under w y) x
      (λ w p. (p.1, omega (arith, r_w.step _ _ p.0))) (λ w p. (over w p.0, p.0))
      (d s.least x y (over x r.0) r.0)
    where
      one : W.rank x ≡ 1
      one = pred_zero _ r.1 h

      over : (w : W.Elem) → W.Under w y → W.Under s.least w
      over w u = over_least ro s w (r_w.exist w y u).0 (omega (arith, one, r_w.step w y u, r_w.step x y r.0))

  without_min-high_diamond : LowDiamond (turned W) → LowDiamond (turned (without_min W))
  unfolding LowDiamond
  without_min-high_diamond d x y r h =
      OneOther-same (λ w. W.Under y w) (λ w. (without_min W).Under y w) x (λ w p. (p, r.1)) (λ w p. p.0)
      (d x y r.0 ((highest _ _ (omega (arith, r_w.step y x r.0))).0 h))

  without_min-one_highest : 0 < W.top → OneLowest (turned W) → OneLowest (turned (without_min W))
  without_min-one_highest p s =
      let pos : 0 < W.rank s.least = omega (arith, s.least_rank) in
      record {
        least = s.least;
        least_exists = (s.least_exists, pos);
        least_rank = (highest _ _ pos).1 s.least_rank;
        least_only = λ x e h. s.least_only x e.0 ((highest _ _ e.1).0 h);
      }

  without_min-some_highest : 0 < W.top → SomeLowest (turned W) → SomeLowest (turned (without_min W))
  without_min-some_highest p s =
      let pos : 0 < W.rank s.low = omega (arith, s.low_rank) in
      record { low = s.low; low_exists = (s.low_exists, pos); low_rank = (highest _ _ pos).1 s.low_rank }

  without_min-rooted : Rooted W → Rooted (without_min W)
  unfolding Rooted
  without_min-rooted d y e h =
      let t = d y e.0 e.1 in
      (t.0, (t.1, omega (arith, r_w.step _ _ t.1, pred_pos (W.rank y) h)))

  without_min-hung : Rooted (turned W) → Rooted (turned (without_min W))
  unfolding Rooted
  without_min-hung d x e h = let t = d x e.0 (not_highest _ _ h) in (t.0, (t.1, e.1))

  -- something lies over the least element, since it is not of the highest rank
  without_min-some_lowest : 0 < W.top → Rooted (turned W) → SomeLowest W → SomeLowest (without_min W)
  unfolding Rooted
  without_min-some_lowest p d s =
      let t = d s.low s.low_exists (omega (arith, s.low_rank)) in
      let up = r_w.step s.low t.0 t.1 in
      record {
        low = t.0;
        low_exists = ((r_w.exist _ _ t.1).1, omega arith);
        low_rank = ap pred (up ∙ ap suc s.low_rank);
      }

pub without_min-frame : {max : Bool} {W : Order} → Ranked W → 0 < W.top → Frame false max W
    → Frame true max (without_min W)
without_min-frame r_w p g = record {
  one_lowest = λ t. absurd t;
  one_highest = λ t. without_min-one_highest r_w p (g.one_highest t);
  rooted = without_min-rooted r_w g.rooted;
  hung = without_min-hung r_w g.hung;
  some_lowest = without_min-some_lowest r_w p g.hung g.some_lowest;
  some_highest = without_min-some_highest r_w p g.some_highest;
}

pub without_min-cell : {max : Bool} {W : Order} → Ranked W → 0 < W.top → Cell false max W
    → Cell true max (without_min W)
without_min-cell r_w p g = record {
  frame = without_min-frame r_w p g.frame;
  diamond = without_min-diamond r_w g.diamond;
  low_diamond = λ t. without_min-low_diamond r_w g.frame.rooted (g.frame.one_lowest tt) g.diamond;
  high_diamond = λ t. without_min-high_diamond r_w (g.high_diamond t);
}

pub without_max-frame : {min : Bool} {W : Order} → Ranked W → 0 < W.top → Frame min false W
    → Frame min true (without_max W)
without_max-frame r_w p g =
    let t_w = turned-ranked r_w in
    turned-frame (without_min-ranked t_w) (without_min-frame t_w p (turned-frame r_w g))

pub without_max-cell : {min : Bool} {W : Order} → Ranked W → 0 < W.top → Cell min false W
    → Cell min true (without_max W)
without_max-cell r_w p g =
    let t_w = turned-ranked r_w in
    turned-cell (without_min-ranked t_w) (without_min-cell t_w p (turned-cell r_w g))

unfoldable pub without_min-renumbered : {A B : Order} → Ranked A → Ranked B → Renumbering A B
    → Renumbering (without_min A) (without_min B)
without_min-renumbered r_a r_b f = record {
  to = f.to;
  from = f.from;
  to_exists = λ x e. (f.to_exists x e.0, omega (arith, f.same_rank x e.0, e.1));
  from_exists = λ y e. (f.from_exists y e.0, omega (arith, from_rank f y e.0, e.1));
  from_to = λ x e. f.from_to x e.0;
  to_from = λ y e. f.to_from y e.0;
  to_under = λ x y r. (f.to_under x y r.0, omega (arith, f.same_rank x (r_a.exist x y r.0).0, r.1));
  from_under = λ x y r. (f.from_under x y r.0, omega (arith, from_rank f x (r_b.exist x y r.0).0, r.1));
  same_rank = λ x e. ap pred (f.same_rank x e.0);
  same_top = ap pred f.same_top;
}

unfoldable pub without_max-renumbered : {A B : Order} → Ranked A → Ranked B → Renumbering A B
    → Renumbering (without_max A) (without_max B)
without_max-renumbered r_a r_b f =
    Renumbering-turned (without_min-renumbered (turned-ranked r_a) (turned-ranked r_b) (Renumbering-turned f))

-- The element that was there, and d for the added one.
abbrev pub before : {E : Type 0} → E → Added E → E
before d end = d
before d (old x) = x

-- What was added is struck again: the laws of a renumbering, one by one, and then the renumbering.
module _ (W : Order) (d : W.Elem) where
  pub before_exists : (x : Added W.Elem) → AddedExists W x × (0 < added_rank W x) → W.Exists (before d x)
  before_exists end e = absurd (omega (arith, e.1))
  before_exists (old x) e = e.0

  pub old_before : (x : Added W.Elem) → AddedExists W x × (0 < added_rank W x) → old (before d x) ≡ x
  old_before end e = absurd (omega (arith, e.1))
  old_before (old x) e = refl

  pub before_under : (x y : Added W.Elem) → AddedUnder W x y × (0 < added_rank W x)
      → W.Under (before d x) (before d y)
  before_under end y r = absurd (omega (arith, r.1))
  before_under (old x) end r = absurd r.0
  before_under (old x) (old y) r = r.0

  pub before_rank : (x : Added W.Elem) → AddedExists W x × (0 < added_rank W x)
      → W.rank (before d x) ≡ pred (added_rank W x)
  before_rank end e = absurd (omega (arith, e.1))
  before_rank (old x) e = refl

  unfoldable pub without_min-with_min : Renumbering (without_min (with_min W)) W
  without_min-with_min = record {
    to = before d;
    from = old;
    to_exists = before_exists;
    from_exists = λ y e. (e, omega arith);
    from_to = old_before;
    to_from = λ y e. refl;
    to_under = before_under;
    from_under = λ x y r. (r, omega arith);
    same_rank = before_rank;
    same_top = refl;
  }

unfoldable pub without_max-with_max : {W : Order} → Ranked W → W.Elem → Renumbering (without_max (with_max W)) W
without_max-with_max {W} r_w d =
    let t_w = turned-ranked r_w in
    let r_m = with_min-ranked t_w in
    let back = Renumbering-back (turned-turned r_m) in
    let struck = without_min-renumbered (turned-ranked (turned-ranked r_m)) r_m back in
    Renumbering-then (Renumbering-turned (Renumbering-then struck (without_min-with_min (turned W) d)))
    (Renumbering-back (turned-turned r_w))
