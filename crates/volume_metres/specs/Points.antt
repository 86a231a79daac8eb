-- Where vertices stand, and the determinant of three places.
--
-- Site       a place, or a move, in whole metres
-- det        the determinant of three places
-- moved      a place moved by so many metres
-- site_of    where vertex v stands, by coordinates that have three numbers for each vertex
-- point_of   the same in floats
use Rattle.std.specs.Prelude.{ℕ, ◌+◌, ◌*◌, List, ℤ, ◌+ℤ◌, ◌-ℤ◌, ◌*ℤ◌, slice_index_or, Float}
use Rattle.std.specs.Float.{nan}
use Rattle.volume_metres.specs.declared.point.Point.{Point}
use Rattle.volume_metres.specs.Whole.{metres_of}

pub record Site : Type 0 where
  pub x : ℤ
  pub y : ℤ
  pub z : ℤ

unfoldable pub det : Site → Site → Site → ℤ
det a b c =
    a.x *ℤ (b.y *ℤ c.z -ℤ b.z *ℤ c.y) -ℤ a.y *ℤ (b.x *ℤ c.z -ℤ b.z *ℤ c.x)
    +ℤ a.z *ℤ (b.x *ℤ c.y -ℤ b.y *ℤ c.x)

abbrev pub moved : Site → Site → Site
moved t a = record { x = a.x +ℤ t.x; y = a.y +ℤ t.y; z = a.z +ℤ t.z }

abbrev pub site_of : List Float → ℕ → Site
site_of xs v = record {
  x = metres_of (slice_index_or xs (3 * v) nan);
  y = metres_of (slice_index_or xs (3 * v + 1) nan);
  z = metres_of (slice_index_or xs (3 * v + 2) nan);
}

abbrev pub point_of : List Float → ℕ → Point
point_of xs v = record { x = slice_index_or xs (3 * v) nan; y = slice_index_or xs (3 * v + 1) nan; z = slice_index_or xs (3 * v + 2) nan }
