-- An element more at an end makes a closed cell of one whose end was taken off.
-- Assumes nothing.
use mathlib.Core.Path.{◌≡◌, refl, ap, ◌∙◌}
use mathlib.Core.Bool.{Bool, true, false}
use Prim.Native.Nat.{suc, ◌-◌, ◌≤◌, ◌<◌}
use native.Mathlib.Decide.{dec_lt}
use native.Mathlib.Omega.{arith}
use lib.Dec.{T}
use Rattle.order.specs.Structure.{Order, Ranked, turned, Renumbering}
use Rattle.order.specs.Diamond.{Between, Diamond, LowDiamond, Rooted, SomeLowest, OneLowest, Frame, Cell}
use Rattle.order.specs.Ends.{Added, end, old, AddedExists, added_rank, AddedUnder, with_min, with_max}
use Rattle.order.proofs.Renumbering.{Renumbering-back, Renumbering-turned, turned-ranked}
use Rattle.order.proofs.Renumbering.{OneOther-map, turned-frame, turned-cell}

pub with_min-ranked : {W : Order} → Ranked W → Ranked (with_min W)
with_min-ranked {W} r_w = record { exist = exist; step = step; cap = cap }
  where
    exist : (x y : Added W.Elem) → AddedUnder W x y → AddedExists W x × AddedExists W y
    exist end end r = absurd r
    exist end (old y) r = (tt, r.0)
    exist (old x) end r = absurd r
    exist (old x) (old y) r = r_w.exist x y r

    step : (x y : Added W.Elem) → AddedUnder W x y → added_rank W y ≡ suc (added_rank W x)
    step end end r = absurd r
    step end (old y) r = ap suc r.1
    step (old x) end r = absurd r
    step (old x) (old y) r = ap suc (r_w.step x y r)

    cap : (x : Added W.Elem) → AddedExists W x → added_rank W x ≤ suc W.top
    cap end e = omega arith
    cap (old x) e = omega (arith, r_w.cap x e)

pub with_max-ranked : {W : Order} → Ranked W → Ranked (with_max W)
with_max-ranked r_w = turned-ranked (with_min-ranked (turned-ranked r_w))

old_same : {E : Type 0} (v w : E) → old v ≡ old w → v ≡ w
old_same v w e = cc

module _ (W : Order) where
  -- what lies between old elements, under one and over one, is old
  between_back : (x z : W.Elem) (v : Added W.Elem) → Between (with_min W) (old x) (old z) v
      → (w : W.Elem) × Between W x z w × (v ≡ old w)
  between_back x z end q = absurd q.0
  between_back x z (old w) q = (w, q, refl)

  under_back : (z : W.Elem) (v : Added W.Elem) → Between (with_min W) end (old z) v
      → (w : W.Elem) × W.Under w z × (v ≡ old w)
  under_back z end q = absurd q.0
  under_back z (old w) q = (w, q.1, refl)

  over_back : (x : W.Elem) (v : Added W.Elem) → AddedUnder W (old x) v → (w : W.Elem) × W.Under x w × (v ≡ old w)
  over_back x end q = absurd q
  over_back x (old w) q = (w, q, refl)

  -- over the added element the diamond is the low diamond
  with_min-diamond : Ranked W → Diamond W → LowDiamond W → Diamond (with_min W)
  unfolding Diamond LowDiamond
  with_min-diamond r_w d l end end z r s = absurd r
  with_min-diamond r_w d l end (old y) end r s = absurd s
  with_min-diamond r_w d l end (old y) (old z) r s =
      OneOther-map (λ w. W.Under w z) (Between (with_min W) end (old z)) old y (old y)
      (λ w u. (((r_w.exist _ _ u).0, omega (arith, r_w.step _ _ u, r_w.step _ _ s, r.1)), u))
      (under_back z) (λ v w p q e. old_same v w e) s refl (l y z s r.1)
  with_min-diamond r_w d l (old x) end z r s = absurd r
  with_min-diamond r_w d l (old x) (old y) end r s = absurd s
  with_min-diamond r_w d l (old x) (old y) (old z) r s =
      OneOther-map (Between W x z) (Between (with_min W) (old x) (old z)) old y (old y) (λ w p. p) (between_back x z)
      (λ v w p q e. old_same v w e) (r, s) refl (d x y z r s)

  with_min-high_diamond : 0 < W.top → LowDiamond (turned W) → LowDiamond (turned (with_min W))
  unfolding LowDiamond
  with_min-high_diamond p l end end r h = absurd r
  with_min-high_diamond p l end (old y) r h = absurd r
  with_min-high_diamond p l (old x) end r h = absurd (omega (arith, r.1))
  with_min-high_diamond p l (old x) (old y) r h =
      OneOther-map (λ w. W.Under y w) (λ w. AddedUnder W (old y) w) old x (old x) (λ w u. u) (over_back y)
      (λ v w p q e. old_same v w e) r refl (l x y r (omega arith))

  with_min-one_lowest : OneLowest (with_min W)
  with_min-one_lowest = record { least = end; least_exists = tt; least_rank = refl; least_only = only }
    where
      only : (x : Added W.Elem) → AddedExists W x → added_rank W x ≡ 0 → x ≡ end
      only end e h = refl
      only (old x) e h = absurd (omega arith)

  with_min-one_highest : OneLowest (turned W) → OneLowest (turned (with_min W))
  with_min-one_highest s = record {
    least = old s.least;
    least_exists = s.least_exists;
    least_rank = omega (arith, s.least_rank);
    least_only = only;
  }
    where
      only : (x : Added W.Elem) → AddedExists W x → suc W.top - added_rank W x ≡ 0 → x ≡ old s.least
      only end e h = absurd (omega arith)
      only (old x) e h = ap old (s.least_only x e (omega arith))

  with_min-rooted : Rooted W → Rooted (with_min W)
  unfolding Rooted
  with_min-rooted d end e h = absurd (omega arith)
  with_min-rooted d (old y) e h = go (dec_lt 0 (W.rank y))
    where
      go : Dec (0 < W.rank y) → (x : Added W.Elem) × AddedUnder W x (old y)
      go (yes k) = let t = d y e k in (old t.0, t.1)
      go (no k) = (end, (e, omega arith))

  with_min-hung : SomeLowest W → Rooted (turned W) → Rooted (turned (with_min W))
  unfolding Rooted
  with_min-hung l d end e h = (old l.low, (l.low_exists, l.low_rank))
  with_min-hung l d (old x) e h = let t = d x e (omega arith) in (old t.0, t.1)

pub with_min-frame : {max : Bool} {W : Order} → Frame true max W → Frame false max (with_min W)
with_min-frame {W = W} g = record {
  one_lowest = λ t. with_min-one_lowest W;
  one_highest = λ t. with_min-one_highest W (g.one_highest t);
  rooted = with_min-rooted W g.rooted;
  hung = with_min-hung W g.some_lowest g.hung;
  some_lowest = record { low = end; low_exists = tt; low_rank = refl };
  some_highest =
      let s = g.some_highest in
      record { low = old s.low; low_exists = s.low_exists; low_rank = omega (arith, s.low_rank) };
}

pub with_min-cell : {max : Bool} {W : Order} → Ranked W → (T max → 0 < W.top) → Cell true max W
    → Cell false max (with_min W)
with_min-cell {W = W} r_w p g = record {
  frame = with_min-frame g.frame;
  diamond = with_min-diamond W r_w g.diamond (g.low_diamond tt);
  low_diamond = λ t. absurd t;
  high_diamond = λ t. with_min-high_diamond W (p t) (g.high_diamond t);
}

pub with_max-frame : {min : Bool} {W : Order} → Ranked W → Frame min true W → Frame min false (with_max W)
with_max-frame r_w g = turned-frame (with_min-ranked (turned-ranked r_w)) (with_min-frame (turned-frame r_w g))

pub with_max-cell : {min : Bool} {W : Order} → Ranked W → (T min → 0 < W.top) → Cell min true W
    → Cell min false (with_max W)
with_max-cell r_w p g =
    let t_w = turned-ranked r_w in
    turned-cell (with_min-ranked t_w) (with_min-cell t_w p (turned-cell r_w g))

-- A map, with the added element taken to the added element.
abbrev pub map_added : {E F : Type 0} → (E → F) → Added E → Added F
map_added f end = end
map_added f (old x) = old (f x)

-- A renumbering goes on to the structures with an element more: its laws, one by one, and then the renumbering.
module _ {A B : Order} (f : Renumbering A B) where
  pub added_exists : (x : Added A.Elem) → AddedExists A x → AddedExists B (map_added f.to x)
  added_exists end e = tt
  added_exists (old x) e = f.to_exists x e

  pub added_back : (x : Added A.Elem) → AddedExists A x → map_added f.from (map_added f.to x) ≡ x
  added_back end e = refl
  added_back (old x) e = ap old (f.from_to x e)

  pub added_under : (x y : Added A.Elem) → AddedUnder A x y → AddedUnder B (map_added f.to x) (map_added f.to y)
  added_under end end r = absurd r
  added_under end (old y) r = (f.to_exists y r.0, f.same_rank y r.0 ∙ r.1)
  added_under (old x) end r = absurd r
  added_under (old x) (old y) r = f.to_under x y r

  pub added_rank_lem : (x : Added A.Elem) → AddedExists A x → added_rank B (map_added f.to x) ≡ added_rank A x
  added_rank_lem end e = refl
  added_rank_lem (old x) e = ap suc (f.same_rank x e)

unfoldable pub with_min-renumbered : {A B : Order} → Renumbering A B → Renumbering (with_min A) (with_min B)
unfolding Renumbering-back
with_min-renumbered f = record {
  to = map_added f.to;
  from = map_added f.from;
  to_exists = added_exists f;
  from_exists = added_exists (Renumbering-back f);
  from_to = added_back f;
  to_from = added_back (Renumbering-back f);
  to_under = added_under f;
  from_under = added_under (Renumbering-back f);
  same_rank = added_rank_lem f;
  same_top = ap suc f.same_top;
}

unfoldable pub with_max-renumbered : {A B : Order} → Renumbering A B → Renumbering (with_max A) (with_max B)
with_max-renumbered f = Renumbering-turned (with_min-renumbered (Renumbering-turned f))
