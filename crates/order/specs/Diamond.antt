-- What makes a structure a closed cell, and what is left of it where an end has been taken off.
--
-- OneOther     of the things with a property, of which y is one, there is exactly one other
-- TheTwo       x and y are the two things with a property: both have it, they differ, and no third has it
-- Between      directly above one element and directly under another
-- Diamond      whenever some element lies between two others, exactly one other does
-- LowDiamond   an element right above the lowest rank has exactly two under it: the diamond over a minimal element that
--              was taken off
-- Rooted       every element above the lowest rank has one directly under it
-- SomeLowest   an element of the lowest rank
-- OneLowest    bounded at the lower end: exactly one element of the lowest rank
-- Frame        bounded and rooted at both ends; the minimal (maximal) element is taken off where min (max) says so
-- Cell         a closed cell, with its ends or without them as in Frame: a frame with the diamond
use Rattle.std.specs.Prelude.{◌≡◌, ◌≢◌, ◌⊎◌, Bool, not, ◌<◌, T}
use Rattle.order.specs.Structure.{Order, turned}

pub record OneOther {E : Type 0} (P : E → Type 0) (y : E) : Type 0 where
  pub other : E
  pub differs : other ≢ y
  pub holds : P other
  pub only : (w : E) → P w → (w ≡ y) ⊎ (w ≡ other)

pub record TheTwo {E : Type 0} (P : E → Type 0) (x y : E) : Type 0 where
  pub first : P x
  pub second : P y
  pub differ : y ≢ x
  pub only : (w : E) → P w → (w ≡ x) ⊎ (w ≡ y)

abbrev pub Between : (W : Order) → W.Elem → W.Elem → W.Elem → Type 0
Between W x z w = W.Under x w × W.Under w z

unfoldable pub Diamond : Order → Type 0
Diamond W = (x y z : W.Elem) → W.Under x y → W.Under y z → OneOther (Between W x z) y

unfoldable pub LowDiamond : Order → Type 0
LowDiamond W = (x y : W.Elem) → W.Under x y → W.rank x ≡ 0 → OneOther (λ w. W.Under w y) x

unfoldable pub Rooted : Order → Type 0
Rooted W = (y : W.Elem) → W.Exists y → 0 < W.rank y → (x : W.Elem) × W.Under x y

pub record SomeLowest (W : Order) : Type 0 where
  pub low : W.Elem
  pub low_exists : W.Exists low
  pub low_rank : W.rank low ≡ 0

pub record OneLowest (W : Order) : Type 0 where
  pub least : W.Elem
  pub least_exists : W.Exists least
  pub least_rank : W.rank least ≡ 0
  pub least_only : (x : W.Elem) → W.Exists x → W.rank x ≡ 0 → x ≡ least

pub record Frame (min max : Bool) (W : Order) : Type 0 where
  pub one_lowest : T (not min) → OneLowest W
  pub one_highest : T (not max) → OneLowest (turned W)
  pub rooted : Rooted W
  pub hung : Rooted (turned W)
  pub some_lowest : SomeLowest W
  pub some_highest : SomeLowest (turned W)

pub record Cell (min max : Bool) (W : Order) : Type 0 where
  pub frame : Frame min max W
  pub diamond : Diamond W
  pub low_diamond : T min → LowDiamond W
  pub high_diamond : T max → LowDiamond (turned W)
