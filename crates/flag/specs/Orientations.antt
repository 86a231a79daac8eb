-- The orientation of a flag.
--
-- byte_of   its byte: 0 even, 1 odd
-- of_byte   the orientation that a byte stands for: 0 even, any other odd
-- flip_of   the other orientation
-- sign_of   its sign: 1.0 or -1.0
use Rattle.std.specs.Prelude.{cond, ℕ, eqb, pos, neg_ℤ, Float}
use Rattle.std.specs.Float.{binary64}
use Rattle.std.specs.Float.Ieee.{of_int}
use Rattle.flag.specs.declared.Orientation.{Orientation}
use Rattle.flag.specs.declared.Orientation.TheVariants.{Even, Odd}

unfoldable pub byte_of : Orientation → ℕ
byte_of Even = 0
byte_of Odd = 1

unfoldable pub of_byte : ℕ → Orientation
of_byte b = cond (eqb b 0) Even Odd

unfoldable pub flip_of : Orientation → Orientation
flip_of Even = Odd
flip_of Odd = Even

unfoldable pub sign_of : Orientation → Float
sign_of Even = of_int binary64 (pos 1)
sign_of Odd = of_int binary64 (neg_ℤ (pos 1))
