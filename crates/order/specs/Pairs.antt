-- Pairs of the elements of two structures.
--
-- Step    one member of a pair is equal, and the other directly under
-- Pairs   the structure of all pairs: ranks add up, and `directly under` is a step between pairs that exist
-- swap    a pair with its members exchanged
use Rattle.std.specs.Prelude.{◌≡◌, ◌+◌}
use Rattle.order.specs.Structure.{Order}

pub data Step {E F : Type 0} (R : E → E → Type 0) (S : F → F → Type 0) (x y : E × F) : Type 0 where
  left : R x.0 y.0 → x.1 ≡ y.1 → Step R S x y
  right : x.0 ≡ y.0 → S x.1 y.1 → Step R S x y

abbrev pub Pairs : Order → Order → Order
Pairs A B = record {
  Elem = A.Elem × B.Elem;
  Exists = λ x. A.Exists x.0 × B.Exists x.1;
  rank = λ x. A.rank x.0 + B.rank x.1;
  top = A.top + B.top;
  Under = λ x y.
      (A.Exists x.0 × B.Exists x.1) × (A.Exists y.0 × B.Exists y.1) × Step A.Under B.Under x y;
}

abbrev pub swap : {E F : Type 0} → E × F → F × E
swap x = (x.1, x.0)
