-- What is promised of six_volume of L from a first flag with coordinates xs, that was lent a table and bytes and left
-- table' and bytes' in them, and answered r.
--
-- Summed           r is what flags add: over the integers, as a float, the positive zero where it is 0; worked out in
--                  floats in that order it comes to the same, and no step is rounded or comes to 2^53; and of each flag
--                  the vertices that are meant are the lowest of its face and the other one of its edge
-- VolumePromised   which refusal comes when; in the slices stands what a search with every change leaves, which is
--                  refused as six_volume is, or else answered, so that at 50 to 53 and at 0 they hold its flags; and
--                  answered with 0, r is what the even ones of the flags in the table add
-- Negated          of two answers one is an integer and the other its negative, and so they are as floats, but for 0,
--                  where both are the positive zero
use Rattle.std.specs.Prelude.{◌≡◌, ◌≢◌, ℕ, ◌+◌, ◌≤◌, ◌<◌, ℤ, pos, neg_ℤ, Float}
use mathlib.Core.List.{List, Memᴰ}
use Rattle.std.specs.Float.{binary64}
use Rattle.std.specs.Float.Ieee.{of_bits, of_int, neg}
use Rattle.listing.specs.Refusals.{not_rank_four}
use Rattle.listing.specs.Listing.{Listing, Limits, rank}
use Rattle.listing.specs.Rules.{FirstBroken}
use Rattle.search_theory.specs.Search.{evens}
use Rattle.search_index.specs.Rows.{rows}
use Rattle.search_masks.specs.Masks.{every_rank}
use Rattle.search.specs.declared.Searched.{Searched}
use Rattle.search.specs.Promised.{room_in, Promised}
use Rattle.volume_metres.specs.Formulas.{in_floats, in_whole, NoRounding}
use Rattle.volume_theory.specs.Six.{vertex_at, edge_at, face_at, other_vertex, lowest_of, six_of, six_formula}
use Rattle.volume_theory.specs.Six.{OtherEnd, LowestIn}
use Rattle.volume.specs.declared.Measured.{Measured}
use Rattle.volume.specs.Volumes.{measured}
use Rattle.volume.specs.Rules.{volume_rules}

pub record Summed (L : Listing) (xs : List Float) (flags : List (List ℕ)) (r : Measured) : Type 0 where
  pub exact : r ≡ measured (of_int binary64 (six_of L xs flags))
  pub positive : six_of L xs flags ≡ pos 0 → r ≡ measured (of_bits binary64 0)
  pub worked_out : r ≡ measured (in_floats xs (six_formula L flags))
  pub whole : in_whole xs (six_formula L flags) ≡ six_of L xs flags
  pub no_rounding : NoRounding xs (six_formula L flags)
  pub lowest : (f : List ℕ) → Memᴰ f flags → LowestIn L (face_at f) (lowest_of L (face_at f))
  pub other : (f : List ℕ) → Memᴰ f flags → OtherEnd L (edge_at f) (vertex_at f) (other_vertex L f)

pub record VolumePromised (m : Limits) (L : Listing) (first : List ℕ) (xs : List Float) (table bytes : List ℕ)
    (r : Measured) (table' bytes' : List ℕ) : Type 0 where
  pub refusals : FirstBroken (volume_rules m L first xs (room_in m L table bytes)) r.no
  pub search : Searched
  pub searched : Promised m L first (every_rank (rank L)) table bytes search table' bytes'
  pub as_searched : r.no < not_rank_four → r.no ≡ search.answer.no
  pub found : not_rank_four ≤ r.no → search.answer.no ≡ 0
  pub sum : r.no ≡ 0 → Summed L xs (evens (rows (rank L + 1) table' search.count) bytes') r

pub record Negated (r s : Measured) : Type 0 where
  pub six : ℤ
  pub this : r ≡ measured (of_int binary64 six)
  pub other : s ≡ measured (of_int binary64 (neg_ℤ six))
  pub opposite : six ≢ pos 0 → s.six ≡ neg r.six
