-- The class of a number, band by band.
-- Assumes nothing.
use Rattle.std.proofs.Common.{◌≡◌, ℕ, ◌<◌, ◌≤◌, cond, ◌&&◌, leb, arith, le-leb, Some, None}
use borrow.Author.Tests.{lt-leb}
use Rattle.listing.specs.Refusals.{band}
use Rattle.listing.specs.declared.Band.TheVariants.{Shape, Structure, Flags, Products}

module _ (n : ℕ) where
  pub band_shape : 1 ≤ n → n ≤ 9 → band n ≡ Some Shape
  unfolding band
  band_shape l h = simp (le-leb 1 n l, le-leb n 9 h)

  pub band_structure : 10 ≤ n → n ≤ 19 → band n ≡ Some Structure
  unfolding band
  band_structure l h = simp (le-leb 1 n (omega arith), lt-leb n 9 l, le-leb 10 n l, le-leb n 19 h)

  pub band_flags : 20 ≤ n → n ≤ 29 → band n ≡ Some Flags
  unfolding band
  band_flags l h =
      simp (
        le-leb 1 n (omega arith),
        lt-leb n 9 (omega arith),
        le-leb 10 n (omega arith),
        lt-leb n 19 l,
        le-leb 20 n l,
        le-leb n 29 h,
      )

  -- from 30 on the lower bands are left behind
  past : 30 ≤ n → band n ≡ cond (leb 30 n && leb n 39) (Some Products) None
  unfolding band
  past l =
      simp (
        le-leb 1 n (omega arith),
        lt-leb n 9 (omega arith),
        le-leb 10 n (omega arith),
        lt-leb n 19 (omega arith),
        le-leb 20 n (omega arith),
        lt-leb n 29 l,
      )

  pub band_products : 30 ≤ n → n ≤ 39 → band n ≡ Some Products
  band_products l h = rw (past l) (simp (le-leb 30 n l, le-leb n 39 h))

  pub band_over : 40 ≤ n → band n ≡ None
  band_over l = rw (past (omega arith)) (simp (le-leb 30 n (omega arith), lt-leb n 39 l))

  pub band_none : n < 1 → band n ≡ None
  unfolding band
  band_none h =
      simp (
        lt-leb 1 n h,
        lt-leb 10 n (omega arith),
        lt-leb 20 n (omega arith),
        lt-leb 30 n (omega arith),
      )

-- one law for each band
pub ruleset bands = (band_shape, band_structure, band_flags, band_products, band_over, band_none)
