-- Renumberings compose, turn back and turn over; and each property of a structure is carried over by one.
-- Assumes nothing.
use mathlib.Core.Path.{◌≡◌, refl, sym, ap, ◌∙◌, subst}
use mathlib.Core.Logic.{◌⊎◌, inl, inr}
use mathlib.Core.Bool.{Bool}
use native.Mathlib.Omega.{arith}
use Rattle.order.specs.Structure.{Order, Ranked, turned, Renumbering}
use Rattle.order.specs.Diamond.{OneOther, Between, Diamond, LowDiamond}
use Rattle.order.specs.Diamond.{Rooted, SomeLowest, OneLowest, Frame, Cell}

unfoldable pub Renumbering-same : (W : Order) → Renumbering W W
Renumbering-same W = record {
  to = λ x. x;
  from = λ x. x;
  to_exists = λ x e. e;
  from_exists = λ x e. e;
  from_to = λ x e. refl;
  to_from = λ x e. refl;
  to_under = λ x y r. r;
  from_under = λ x y r. r;
  same_rank = λ x e. refl;
  same_top = refl;
}

pub from_rank : {A B : Order} (f : Renumbering A B) (y : B.Elem) → B.Exists y → A.rank (f.from y) ≡ B.rank y
from_rank {A} {B} f y e = sym (f.same_rank (f.from y) (f.from_exists y e)) ∙ ap B.rank (f.to_from y e)

unfoldable pub Renumbering-back : {A B : Order} → Renumbering A B → Renumbering B A
Renumbering-back f = record {
  to = f.from;
  from = f.to;
  to_exists = f.from_exists;
  from_exists = f.to_exists;
  from_to = f.to_from;
  to_from = f.from_to;
  to_under = f.from_under;
  from_under = f.to_under;
  same_rank = from_rank f;
  same_top = sym f.same_top;
}

unfoldable pub Renumbering-then : {A B C : Order} → Renumbering A B → Renumbering B C → Renumbering A C
Renumbering-then f g = record {
  to = λ x. g.to (f.to x);
  from = λ z. f.from (g.from z);
  to_exists = λ x e. g.to_exists _ (f.to_exists x e);
  from_exists = λ z e. f.from_exists _ (g.from_exists z e);
  from_to = λ x e. ap f.from (g.from_to _ (f.to_exists x e)) ∙ f.from_to x e;
  to_from = λ z e. ap g.to (f.to_from _ (g.from_exists z e)) ∙ g.to_from z e;
  to_under = λ x y r. g.to_under _ _ (f.to_under x y r);
  from_under = λ y z r. f.from_under _ _ (g.from_under y z r);
  same_rank = λ x e. g.same_rank _ (f.to_exists x e) ∙ f.same_rank x e;
  same_top = g.same_top ∙ f.same_top;
}

-- Back by f, over by g, and on by h.
unfoldable pub Renumbering-across : {A B C D : Order} → Renumbering A B → Renumbering A C → Renumbering C D
    → Renumbering B D
Renumbering-across f g h = Renumbering-then (Renumbering-back f) (Renumbering-then g h)

-- An element z that f takes to x, and g to y, which h takes to w: then x goes to w.
pub across_to : {A B C D : Order} (f : Renumbering A B) (g : Renumbering A C) (h : Renumbering C D) (z : A.Elem)
    {x : B.Elem} {y : C.Elem} {w : D.Elem} → A.Exists z → f.to z ≡ x → g.to z ≡ y → h.to y ≡ w
    → (Renumbering-across f g h).to x ≡ w
unfolding Renumbering-across Renumbering-then Renumbering-back
across_to f g h z e p q r =
    ap (λ t. h.to (g.to (f.from t))) (sym p) ∙ ap (λ t. h.to (g.to t)) (f.from_to z e) ∙ ap h.to q ∙ r

unfoldable pub Renumbering-turned : {A B : Order} → Renumbering A B → Renumbering (turned A) (turned B)
Renumbering-turned f = record {
  to = f.to;
  from = f.from;
  to_exists = f.to_exists;
  from_exists = f.from_exists;
  from_to = f.from_to;
  to_from = f.to_from;
  to_under = λ x y r. f.to_under y x r;
  from_under = λ x y r. f.from_under y x r;
  same_rank = λ x e. omega (arith, f.same_rank x e, f.same_top);
  same_top = f.same_top;
}

pub turned-ranked : {W : Order} → Ranked W → Ranked (turned W)
turned-ranked r_w = record {
  exist = λ x y r. let e = r_w.exist y x r in (e.1, e.0);
  step = λ x y r. omega (arith, r_w.step y x r, r_w.cap x (r_w.exist y x r).1);
  cap = λ x e. omega arith;
}

unfoldable pub turned-turned : {W : Order} → Ranked W → Renumbering W (turned (turned W))
turned-turned r_w = record {
  to = λ x. x;
  from = λ x. x;
  to_exists = λ x e. e;
  from_exists = λ x e. e;
  from_to = λ x e. refl;
  to_from = λ x e. refl;
  to_under = λ x y r. r;
  from_under = λ x y r. r;
  same_rank = λ x e. omega (arith, r_w.cap x e);
  same_top = refl;
}

-- Where f takes the things with P one to one onto those with Q, one other with P gives one other with Q.
pub OneOther-map : {E F : Type 0} (P : E → Type 0) (Q : F → Type 0) (f : E → F) (y : E) (z : F)
    → ((w : E) → P w → Q (f w)) → ((v : F) → Q v → (w : E) × P w × (v ≡ f w))
    → ((v w : E) → P v → P w → f v ≡ f w → v ≡ w) → P y → f y ≡ z → OneOther P y → OneOther Q z
OneOther-map P Q f y z to from inj py e o = record {
  other = f o.other;
  differs = λ p. o.differs (inj _ _ o.holds py (p ∙ sym e));
  holds = to _ o.holds;
  only = λ v q. let t = from v q in go v t (o.only t.0 t.1);
}
  where
    go : (v : _) (t : (w : _) × P w × (v ≡ f w)) → (t.0 ≡ y) ⊎ (t.0 ≡ o.other) → (v ≡ z) ⊎ (v ≡ f o.other)
    go v t (inl p) = inl (t.2 ∙ ap f p ∙ e)
    go v t (inr p) = inr (t.2 ∙ ap f p)

-- The same for two properties of the same things.
pub OneOther-same : {E : Type 0} (P Q : E → Type 0) (y : E) → ((w : E) → P w → Q w) → ((w : E) → Q w → P w)
    → OneOther P y → OneOther Q y
OneOther-same P Q y to from o = record {
  other = o.other;
  differs = o.differs;
  holds = to _ o.holds;
  only = λ w q. o.only w (from w q);
}

module _ {A B : Order} (f : Renumbering A B) where
  -- to_under, where the upper element is given in B
  under_to : (w : A.Elem) (y : B.Elem) → B.Exists y → A.Under w (f.from y) → B.Under (f.to w) y
  under_to w y e r = subst (λ t. B.Under (f.to w) t) (f.to_from y e) (f.to_under _ _ r)

  pub Renumbering-rooted : Rooted A → Rooted B
  unfolding Rooted
  Renumbering-rooted d y e h =
      let t = d (f.from y) (f.from_exists y e) (rw (from_rank f y e) h) in
      (f.to t.0, under_to _ y e t.1)

  pub Renumbering-some-lowest : SomeLowest A → SomeLowest B
  Renumbering-some-lowest s = record {
    low = f.to s.low;
    low_exists = f.to_exists _ s.low_exists;
    low_rank = f.same_rank _ s.low_exists ∙ s.low_rank;
  }

  pub Renumbering-one-lowest : OneLowest A → OneLowest B
  Renumbering-one-lowest s = record {
    least = f.to s.least;
    least_exists = f.to_exists _ s.least_exists;
    least_rank = f.same_rank _ s.least_exists ∙ s.least_rank;
    least_only = λ x e h.
        sym (f.to_from x e) ∙ ap f.to (s.least_only (f.from x) (f.from_exists x e) (from_rank f x e ∙ h));
  }

  -- one other among elements that exist is carried over
  carry : (P : A.Elem → Type 0) (Q : B.Elem → Type 0) (y : B.Elem) → B.Exists y → P (f.from y)
      → ((w : A.Elem) → P w → A.Exists w) → ((w : B.Elem) → Q w → B.Exists w)
      → ((w : A.Elem) → P w → Q (f.to w)) → ((w : B.Elem) → Q w → P (f.from w))
      → OneOther P (f.from y) → OneOther Q y
  carry P Q y ey py pe qe to from o =
      OneOther-map P Q f.to (f.from y) y to (λ v q. (f.from v, from v q, sym (f.to_from v (qe v q))))
      (λ v w p q e. sym (f.from_to v (pe v p)) ∙ ap f.from e ∙ f.from_to w (pe w q)) py (f.to_from y ey) o

module _ {A B : Order} (r_a : Ranked A) (r_b : Ranked B) (f : Renumbering A B) where
  -- one other between two elements, and one other under an element, carried over
  pub Renumbering-between : (x y z : B.Elem) → B.Under x y → B.Under y z
      → OneOther (Between A (f.from x) (f.from z)) (f.from y) → OneOther (Between B x z) y
  unfolding Renumbering-turned
  Renumbering-between x y z r s o =
      let ex = (r_b.exist x y r).0 in
      let ez = (r_b.exist y z s).1 in
      carry f (Between A (f.from x) (f.from z)) (Between B x z) y (r_b.exist x y r).1
      (f.from_under _ _ r, f.from_under _ _ s) (λ w p. (r_a.exist _ _ p.0).1) (λ w q. (r_b.exist _ _ q.0).1)
      (λ w p. (under_to (Renumbering-turned f) w x ex p.0, under_to f w z ez p.1))
      (λ w q. (f.from_under _ _ q.0, f.from_under _ _ q.1)) o

  pub Renumbering-below : (x y : B.Elem) → B.Under x y → OneOther (λ w. A.Under w (f.from y)) (f.from x)
      → OneOther (λ w. B.Under w y) x
  Renumbering-below x y r o =
      let e = r_b.exist x y r in
      carry f (λ w. A.Under w (f.from y)) (λ w. B.Under w y) x e.0 (f.from_under _ _ r)
      (λ w p. (r_a.exist _ _ p).0) (λ w q. (r_b.exist _ _ q).0) (λ w p. under_to f w y e.1 p)
      (λ w q. f.from_under _ _ q) o

  Renumbering-diamond : Diamond A → Diamond B
  unfolding Diamond
  Renumbering-diamond d x y z r s = Renumbering-between x y z r s (d _ _ _ (f.from_under _ _ r) (f.from_under _ _ s))

  pub Renumbering-low-diamond : LowDiamond A → LowDiamond B
  unfolding LowDiamond
  Renumbering-low-diamond d x y r h =
      Renumbering-below x y r (d _ _ (f.from_under _ _ r) (from_rank f x (r_b.exist x y r).0 ∙ h))

pub Renumbering-frame : {min max : Bool} {A B : Order} → Renumbering A B → Frame min max A → Frame min max B
Renumbering-frame f g =
    let f' = Renumbering-turned f in
    record {
      one_lowest = λ t. Renumbering-one-lowest f (g.one_lowest t);
      one_highest = λ t. Renumbering-one-lowest f' (g.one_highest t);
      rooted = Renumbering-rooted f g.rooted;
      hung = Renumbering-rooted f' g.hung;
      some_lowest = Renumbering-some-lowest f g.some_lowest;
      some_highest = Renumbering-some-lowest f' g.some_highest;
    }

pub Renumbering-cell : {min max : Bool} {A B : Order} → Ranked A → Ranked B → Renumbering A B → Cell min max A
    → Cell min max B
Renumbering-cell r_a r_b f g = record {
  frame = Renumbering-frame f g.frame;
  diamond = Renumbering-diamond r_a r_b f g.diamond;
  low_diamond = λ t. Renumbering-low-diamond r_a r_b f (g.low_diamond t);
  high_diamond = λ t.
      Renumbering-low-diamond (turned-ranked r_a) (turned-ranked r_b) (Renumbering-turned f) (g.high_diamond t);
}

turned-diamond : (W : Order) → Diamond W → Diamond (turned W)
unfolding Diamond
turned-diamond W d x y z r s =
    OneOther-same (Between W z x) (Between (turned W) x z) y (λ w p. (p.1, p.0)) (λ w p. (p.1, p.0)) (d z y x s r)

pub turned-frame : {min max : Bool} {W : Order} → Ranked W → Frame min max W → Frame max min (turned W)
turned-frame r_w g =
    let f = turned-turned r_w in
    record {
      one_lowest = g.one_highest;
      one_highest = λ t. Renumbering-one-lowest f (g.one_lowest t);
      rooted = g.hung;
      hung = Renumbering-rooted f g.rooted;
      some_lowest = g.some_highest;
      some_highest = Renumbering-some-lowest f g.some_lowest;
    }

pub turned-cell : {min max : Bool} {W : Order} → Ranked W → Cell min max W → Cell max min (turned W)
turned-cell {W = W} r_w g =
    let r'' = turned-ranked (turned-ranked r_w) in
    record {
      frame = turned-frame r_w g.frame;
      diamond = turned-diamond W g.diamond;
      low_diamond = g.high_diamond;
      high_diamond = λ t. Renumbering-low-diamond r_w r'' (turned-turned r_w) (g.low_diamond t);
    }
