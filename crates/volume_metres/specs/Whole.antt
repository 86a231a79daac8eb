-- Floats that are whole numbers, and coordinates: whole metres, from -1,000 to 1,000.
--
-- signed            a number with a sign, minus where it is true
-- IsWhole           a float is finite and is the whole number z; a zero may have either sign
-- farthest          how many metres from 0 a coordinate may lie
-- IsCoordinate      a float is a whole number, not farther than that from 0
-- coordinate        whether it is, by looking
-- metres_of         the whole number that a coordinate is
-- AllCoordinates    every float of a list is a coordinate
-- all_coordinates   whether that is so, by looking
use Rattle.std.specs.Prelude.{◌≡◌, ℕ, ◌*◌, ◌/◌, ◌%◌, ◌<◌, ◌≤◌, Bool, true, false, ◌&&◌, List, length, ℤ, pos, neg_ℤ, ◌==◌, nat_le, slice_index_or, unsigned_abs, Float}
use Rattle.std.specs.Float.{nan, inf, fin}
use Rattle.std.specs.Float.Ieee.{up, down}
use Rattle.order.specs.Tests.{every}

abbrev pub signed : Bool → ℕ → ℤ
signed false n = pos n
signed true n = neg_ℤ (pos n)

abbrev pub IsWhole : Float → ℤ → Type 0
IsWhole nan z = ⊥
IsWhole (inf s) z = ⊥
IsWhole (fin s m e) z = (n : ℕ) × (m * up e ≡ n * down e) × (signed s n ≡ z)

abbrev pub farthest : ℕ
farthest = 1000

pub record IsCoordinate (x : Float) : Type 0 where
  pub metres : ℤ
  pub whole : IsWhole x metres
  pub near : unsigned_abs metres ≤ farthest

unfoldable pub coordinate : Float → Bool
coordinate nan = false
coordinate (inf s) = false
coordinate (fin s m e) = nat_le (m * up e) (farthest * down e) && m * up e % down e == 0

unfoldable pub metres_of : Float → ℤ
metres_of nan = pos 0
metres_of (inf s) = pos 0
metres_of (fin s m e) = signed s (m * up e / down e)

abbrev pub AllCoordinates : List Float → Type 0
AllCoordinates xs = (k : ℕ) → k < length xs → IsCoordinate (slice_index_or xs k nan)

unfoldable pub all_coordinates : List Float → Bool
all_coordinates xs = every (λ k. coordinate (slice_index_or xs k nan)) (length xs)
