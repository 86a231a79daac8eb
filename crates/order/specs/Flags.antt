-- Flags of a structure, and that they are in one piece.
--
-- Near         two lists that hold something, as long as one another, and differ at one place at the most
-- Chain        a list that climbs, each element directly over the one before it, and ends at the highest rank; First
--              says what it may begin with, and None whether it may hold nothing
-- Above        a chain that goes on over an element, which it does not hold, to the highest rank
-- Lowest       an element of the lowest rank
-- Flag         a chain from the lowest rank to the highest
-- Moves        from a list to a chain near it
-- Connected    moves from flag to flag lead from each flag to each other
-- Thick        there is more than one rank, or there are no two elements
-- need_thick   how high a factor must be, so that it is thick when its ends have been taken off
use Rattle.std.specs.Prelude.{◌≡◌, ◌⊎◌, Bool, true, false, List, [], ◌∷◌, ℕ, ◌<◌}
use Rattle.order.specs.Structure.{Order}
use Rattle.order.specs.Steps.{Reach}

pub data Near {E : Type 0} : List E → List E → Type 0 where
  first : {x y : E} {l : List E} → Near (x ∷ l) (y ∷ l)
  later : {x : E} {l m : List E} → Near l m → Near (x ∷ l) (x ∷ m)

unfoldable pub Chain : (W : Order) → (W.Elem → Type 0) → Type 0 → List W.Elem → Type 0
Chain W First None [] = None
Chain W First None (x ∷ l) = First x × Chain W (W.Under x) (W.rank x ≡ W.top) l

abbrev pub Above : (W : Order) → W.Elem → List W.Elem → Type 0
Above W x l = Chain W (W.Under x) (W.rank x ≡ W.top) l

abbrev pub Lowest : (W : Order) → W.Elem → Type 0
Lowest W x = W.Exists x × (W.rank x ≡ 0)

abbrev pub Flag : (W : Order) → List W.Elem → Type 0
Flag W l = Chain W (Lowest W) ⊥ l

abbrev pub Moves : (W : Order) → (W.Elem → Type 0) → Type 0 → List W.Elem → List W.Elem → Type 0
Moves W First None l m = Near l m × Chain W First None m

unfoldable pub Connected : Order → Type 0
Connected W = (l m : List W.Elem) → Flag W l → Flag W m → Reach (Moves W (Lowest W) ⊥) l m

unfoldable pub Thick : Order → Type 0
Thick W = (0 < W.top) ⊎ ((x y : W.Elem) → W.Exists x → W.Exists y → x ≡ y)

abbrev pub need_thick : Bool → Bool → ℕ
need_thick true true = 3
need_thick true false = 1
need_thick false true = 1
need_thick false false = 0
