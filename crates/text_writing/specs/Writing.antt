-- Parts of a text written at a place of a slice, with the place after them answered.
--
-- line_from    the line of the ith element from place `here` on: what lies under it
-- lines_from   the lines of the n elements from place `here` on
-- PutAt        d' is d with the bytes s written from place `at` on, and r is the place after them
use Rattle.std.specs.Prelude.{◌≡◌, List, ℕ, ◌+◌, ◌*◌, length}
use Rattle.listing.specs.Listing.{entries}
use Rattle.listing.specs.Written.{joined}
use Rattle.listing.specs.Laid.{LaidList}
use Rattle.text_theory.specs.Text.{subs_key, line, line_bytes}

abbrev pub line_from : List ℕ → List ℕ → ℕ → ℕ → List ℕ
line_from ends inc here i = line_bytes (line subs_key (entries ends inc (2 * (here + i) + 0)))

unfoldable pub lines_from : List ℕ → List ℕ → ℕ → ℕ → List ℕ
lines_from ends inc here n = joined (line_from ends inc here) n

pub record PutAt (s : List ℕ) (at : ℕ) (d d' : List ℕ) (r : ℕ) : Type 0 where
  pub laid : LaidList at s d d'
  pub next : r ≡ at + length s
