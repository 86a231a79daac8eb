-- The pairs of two structures, exchanged, turned over, and with renumbered factors.
-- Assumes nothing.
use mathlib.Core.Path.{◌≡◌, refl, sym, ap}
use Prim.Native.Nat.{suc, ◌+◌}
use native.Mathlib.Omega.{arith}
use Rattle.order.specs.Structure.{Order, Ranked, turned, Renumbering}
use Rattle.order.specs.Pairs.{Step, left, right, Pairs, swap}

pub pair_path : {E F : Type 0} {x y : E × F} → x.0 ≡ y.0 → x.1 ≡ y.1 → x ≡ y
pair_path p q = λ i. (p i, q i)

pub Pairs-ranked : {A B : Order} → Ranked A → Ranked B → Ranked (Pairs A B)
Pairs-ranked {A} {B} r_a r_b = record {
  exist = λ x y r. (r.0, r.1);
  step = λ x y r. go x y r.2;
  cap = λ x e. omega (arith, r_a.cap _ e.0, r_b.cap _ e.1);
}
  where
    go : (x y : A.Elem × B.Elem) → Step A.Under B.Under x y
        → A.rank y.0 + B.rank y.1 ≡ suc (A.rank x.0 + B.rank x.1)
    go x y (left a e) = omega (arith, r_a.step _ _ a, ap B.rank e)
    go x y (right e b) = omega (arith, r_b.step _ _ b, ap A.rank e)

-- a step with the members of the pairs exchanged, turned over, and mapped
pub swap_step : {E F : Type 0} {R : E → E → Type 0} {S : F → F → Type 0} {x y : E × F} → Step R S x y
    → Step S R (swap x) (swap y)
swap_step (left a e) = right e a
swap_step (right e b) = left b e

pub turn_step : {E F : Type 0} {R : E → E → Type 0} {S : F → F → Type 0} {x y : E × F} → Step R S x y
    → Step (λ a b. R b a) (λ a b. S b a) y x
turn_step (left a e) = left a (sym e)
turn_step (right e b) = right (sym e) b

pub map_step : {E F G H : Type 0} {R : E → E → Type 0} {S : F → F → Type 0} {T : G → G → Type 0} {U : H → H → Type 0}
    (f : E → G) (g : F → H) → ((x y : E) → R x y → T (f x) (f y)) → ((x y : F) → S x y → U (g x) (g y))
    → {x y : E × F} → Step R S x y → Step T U (f x.0, g x.1) (f y.0, g y.1)
map_step f g sf sg (left u e) = left (sf _ _ u) (ap g e)
map_step f g sf sg (right e u) = right (ap f e) (sg _ _ u)

unfoldable pub Pairs-swap : (A B : Order) → Renumbering (Pairs A B) (Pairs B A)
Pairs-swap A B = record {
  to = swap;
  from = swap;
  to_exists = λ x e. swap e;
  from_exists = λ x e. swap e;
  from_to = λ x e. refl;
  to_from = λ x e. refl;
  to_under = λ x y r. (swap r.0, swap r.1, swap_step r.2);
  from_under = λ x y r. (swap r.0, swap r.1, swap_step r.2);
  same_rank = λ x e. omega arith;
  same_top = omega arith;
}

-- Turned over, pairs are the pairs of what is turned over.
unfoldable pub Pairs-turned : {A B : Order} → Ranked A → Ranked B
    → Renumbering (Pairs (turned A) (turned B)) (turned (Pairs A B))
Pairs-turned r_a r_b = record {
  to = λ x. x;
  from = λ x. x;
  to_exists = λ x e. e;
  from_exists = λ x e. e;
  from_to = λ x e. refl;
  to_from = λ x e. refl;
  to_under = λ x y r. (r.1, r.0, turn_step r.2);
  from_under = λ x y r. (r.1, r.0, turn_step r.2);
  same_rank = λ x e. omega (arith, r_a.cap _ e.0, r_b.cap _ e.1);
  same_top = refl;
}

unfoldable pub Pairs-renumbered : {A A' B B' : Order} → Renumbering A A' → Renumbering B B'
    → Renumbering (Pairs A B) (Pairs A' B')
Pairs-renumbered {A} {A'} {B} {B'} f g = record {
  to = λ x. (f.to x.0, g.to x.1);
  from = λ x. (f.from x.0, g.from x.1);
  to_exists = to_exists;
  from_exists = from_exists;
  from_to = λ x e. pair_path (f.from_to _ e.0) (g.from_to _ e.1);
  to_from = λ x e. pair_path (f.to_from _ e.0) (g.to_from _ e.1);
  to_under = λ x y r.
      (to_exists x r.0, to_exists y r.1, map_step f.to g.to f.to_under g.to_under r.2);
  from_under = λ x y r.
      (from_exists x r.0, from_exists y r.1, map_step f.from g.from f.from_under g.from_under r.2);
  same_rank = λ x e. omega (arith, f.same_rank _ e.0, g.same_rank _ e.1);
  same_top = omega (arith, f.same_top, g.same_top);
}
  where
    to_exists : (x : A.Elem × B.Elem) → (Pairs A B).Exists x → (Pairs A' B').Exists (f.to x.0, g.to x.1)
    to_exists x e = (f.to_exists _ e.0, g.to_exists _ e.1)

    from_exists : (x : A'.Elem × B'.Elem) → (Pairs A' B').Exists x → (Pairs A B).Exists (f.from x.0, g.from x.1)
    from_exists x e = (f.from_exists _ e.0, g.from_exists _ e.1)
