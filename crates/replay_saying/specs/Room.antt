-- How large an array is.
--
-- spare   how many more numbers it has than its limit
use Rattle.std.specs.Prelude.{ℕ}

abbrev pub spare : ℕ
spare = 16
