-- A ranked structure: elements, which of them exist, their ranks, and which lies directly under which.
--
-- Order         a structure, with nothing asked of it yet
-- Ranked        what lies directly under what exists, one rank apart; nothing lies above the highest rank
-- turned        the same structure upside down
-- Renumbering   one to one on what exists, both ways; keeps the rank and what lies directly under what
use Rattle.std.specs.Prelude.{◌≡◌, ℕ, suc, ◌-◌, ◌≤◌}

pub record Order : Type 1 where
  pub Elem : Type 0
  pub Exists : Elem → Type 0
  pub rank : Elem → ℕ
  pub top : ℕ
  pub Under : Elem → Elem → Type 0

pub record Ranked (W : Order) : Type 0 where
  pub exist : (x y : W.Elem) → W.Under x y → W.Exists x × W.Exists y
  pub step : (x y : W.Elem) → W.Under x y → W.rank y ≡ suc (W.rank x)
  pub cap : (x : W.Elem) → W.Exists x → W.rank x ≤ W.top

abbrev pub turned : Order → Order
turned W = record {
  Elem = W.Elem;
  Exists = W.Exists;
  rank = λ x. W.top - W.rank x;
  top = W.top;
  Under = λ x y. W.Under y x;
}

pub record Renumbering (A B : Order) : Type 0 where
  pub to : A.Elem → B.Elem
  pub from : B.Elem → A.Elem
  pub to_exists : (x : A.Elem) → A.Exists x → B.Exists (to x)
  pub from_exists : (y : B.Elem) → B.Exists y → A.Exists (from y)
  pub from_to : (x : A.Elem) → A.Exists x → from (to x) ≡ x
  pub to_from : (y : B.Elem) → B.Exists y → to (from y) ≡ y
  pub to_under : (x x' : A.Elem) → A.Under x x' → B.Under (to x) (to x')
  pub from_under : (y y' : B.Elem) → B.Under y y' → A.Under (from y) (from y')
  pub same_rank : (x : A.Elem) → A.Exists x → B.rank (to x) ≡ A.rank x
  pub same_top : B.top ≡ A.top
