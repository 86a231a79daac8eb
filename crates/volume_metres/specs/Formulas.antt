-- Sums, differences and products of coordinates as formulas, so that it can be said of each step of working one out
-- that it is not rounded.
--
-- Operation     a sum, a difference, a product
-- float_by      an operation on two floats, rounded as IEEE 754 says
-- whole_by      an operation on two integers
-- Formula       nothing, an empty sum; a coordinate, by its place in a list; an operation on two formulas
-- in_floats     a formula worked out in floats
-- in_whole      and over the integers
-- most_exact    every integer up to this size is a float
-- Exact         a float is an integer, smaller in size than that
-- NoRounding    so it is at each step of working a formula out: the integer is what that step gives over the integers
-- minor         two coordinates of two vertices multiplied crosswise, and subtracted
-- det_formula   the determinant of where three vertices stand
-- det_in        the determinant of three points, worked out in floats
-- running_sum   formulas added to a first one, one after another
use Rattle.std.specs.Prelude.{ℕ, ◌+◌, ◌*◌, ◌^◌, ◌<◌, List, [], ◌∷◌, ℤ, pos, ◌+ℤ◌, ◌-ℤ◌, ◌*ℤ◌, slice_index_or, unsigned_abs, Float}
use Rattle.std.specs.Float.{nan, binary64}
use Rattle.std.specs.Float.Ieee.{of_int, add, sub, mul}
use Rattle.volume_metres.specs.declared.point.Point.{Point}
use Rattle.volume_metres.specs.Whole.{IsWhole, metres_of}

pub data Operation : Type 0 where
  plus : Operation
  minus : Operation
  times : Operation

abbrev pub float_by : Operation → Float → Float → Float
float_by plus x y = add binary64 x y
float_by minus x y = sub binary64 x y
float_by times x y = mul binary64 x y

abbrev pub whole_by : Operation → ℤ → ℤ → ℤ
whole_by plus x y = x +ℤ y
whole_by minus x y = x -ℤ y
whole_by times x y = x *ℤ y

pub data Formula : Type 0 where
  nothing : Formula
  number : ℕ → Formula
  of : Operation → Formula → Formula → Formula

abbrev pub most_exact : ℕ
most_exact = 2 ^ 53

pub record Exact (x : Float) (z : ℤ) : Type 0 where
  pub is : IsWhole x z
  pub small : unsigned_abs z < most_exact

module _ (xs : List Float) where
  unfoldable pub in_floats : Formula → Float
  in_floats nothing = of_int binary64 (pos 0)
  in_floats (number k) = slice_index_or xs k nan
  in_floats (of o p q) = float_by o (in_floats p) (in_floats q)

  unfoldable pub in_whole : Formula → ℤ
  in_whole nothing = pos 0
  in_whole (number k) = metres_of (slice_index_or xs k nan)
  in_whole (of o p q) = whole_by o (in_whole p) (in_whole q)

  unfoldable pub NoRounding : Formula → Type 0
  unfolding in_floats in_whole
  NoRounding nothing = Exact (in_floats nothing) (in_whole nothing)
  NoRounding (number k) = Exact (in_floats (number k)) (in_whole (number k))
  NoRounding (of o p q) = Exact (in_floats (of o p q)) (in_whole (of o p q)) × NoRounding p × NoRounding q

abbrev minor : ℕ → ℕ → ℕ → ℕ → Formula
minor b c i j =
    of minus
    (of times (number (3 * b + i)) (number (3 * c + j)))
    (of times (number (3 * b + j)) (number (3 * c + i)))

unfoldable pub det_formula : ℕ → ℕ → ℕ → Formula
det_formula a b c =
    of plus
    (of minus
    (of times (number (3 * a + 0)) (minor b c 1 2))
    (of times (number (3 * a + 1)) (minor b c 0 2)))
    (of times (number (3 * a + 2)) (minor b c 0 1))

unfoldable pub det_in : Point → Point → Point → Float
unfolding in_floats det_formula
det_in a b c =
    in_floats (a.x ∷ a.y ∷ a.z ∷ b.x ∷ b.y ∷ b.z ∷ c.x ∷ c.y ∷ c.z ∷ []) (det_formula 0 1 2)

unfoldable pub running_sum : Formula → List Formula → Formula
running_sum p [] = p
running_sum p (q ∷ l) = running_sum (of plus p q) l
