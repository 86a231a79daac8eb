-- How far a slice is filled.
--
-- IsPrefixLen   the list has n numbers at its start to take: n is not past its end. Said by taking them, too, for callers
--               that cut the slice there
use Rattle.std.specs.Prelude.{◌≡◌, ℕ, ◌≤◌, List, length, take}

abbrev pub IsPrefixLen : ℕ → List ℕ → Type 0
IsPrefixLen n list = (n ≤ length list) × (n ≡ length (take n list))
