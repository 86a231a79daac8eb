-- What flags add, worked out in floats: no step is rounded, and the result is the integer `six_of` as a float, the
-- positive zero where it is 0.
-- Assumes nothing.
use mathlib.Core.Path.{◌≡◌, refl, ap, ap₂, ◌∙◌}
use mathlib.Core.List.Memᴰ
use mathlib.Core.List.{List, [], ◌∷◌, map, Memᴰ}
use Prim.Native.Nat.{ℕ, ◌+◌, ◌*◌, ◌≤◌, ◌<◌}
use native.Mathlib.Omega.{arith}
use lib.ListN.{length, length-map}
use lib.IntN.{◌+ℤ◌, +ℤ_idl}
use lib.Ieee.{Float, binary64, of_int}
use Rattle.order.specs.Sums.{add_up}
use Rattle.listing.specs.Listing.{Listing, limits, rank, count}
use Rattle.valid.specs.Closed.{Closed}
use Rattle.flag_change.specs.Flags.{IsFlag}
use Rattle.volume_metres.specs.Whole.{farthest, AllCoordinates}
use Rattle.volume_metres.specs.Formulas.{Formula, nothing, in_floats, in_whole, NoRounding}
use Rattle.volume_metres.proofs.Rounding.{size_of, PlacesBelow, det_whole, det_size, det_places, running_whole}
use Rattle.volume_metres.proofs.Rounding.{running_no_rounding}
use Rattle.volume_metres.proofs.Running.{running_is}
use Rattle.volume_theory.specs.Six.{cell_rank, vertex_at, face_at, other_vertex, lowest_of, six_of}
use Rattle.volume_theory.specs.Six.{part_formula, six_formula}
use Rattle.volume_theory.proofs.Vertices.{vertex_there, face_there, other_there}
use Rattle.volume_theory.proofs.Lowest.{lowest_there}

-- the largest part that a flag can add
abbrev largest_part : ℕ
largest_part = 6 * (farthest * farthest * farthest)

module _ (L : Listing) (xs : List Float) where
  parts_whole : (flags : List (List ℕ)) → add_up (in_whole xs) (map (part_formula L) flags) ≡ six_of L xs flags
  unfolding add_up
  parts_whole [] = refl
  parts_whole (f ∷ l) =
      ap₂ ◌+ℤ◌ (det_whole xs (lowest_of L (face_at f)) (vertex_at f) (other_vertex L f)) (parts_whole l)

  -- The formula is over the integers what the flags add.
  pub six_whole : (flags : List (List ℕ)) → in_whole xs (six_formula L flags) ≡ six_of L xs flags
  unfolding six_formula in_whole
  six_whole flags =
      running_whole xs nothing (map (part_formula L) flags) ∙ +ℤ_idl (add_up (in_whole xs) (map (part_formula L) flags))
      ∙ parts_whole flags

module _ {L : Listing} (C : Closed limits L) (R : rank L ≡ cell_rank) (xs : List Float) (all : AllCoordinates xs)
    (long : length xs ≡ 3 * count L 1) where
  -- the coordinates of a vertex that exists are there
  three : {v : ℕ} → v < count L 1 → 3 * v + 2 < length xs
  three h = omega (arith, long)

  part_fits : {f : List ℕ} → IsFlag L f
      → PlacesBelow (length xs) (part_formula L f) × (size_of (part_formula L f) ≤ largest_part)
  part_fits {f} F =
      let a = lowest_there L C.incident (face_at f) (face_there C R F) in (
        det_places (length xs) _ _ _ (three a) (three (vertex_there C R F)) (three (other_there C R F)),
        omega (arith, det_size (lowest_of L (face_at f)) (vertex_at f) (other_vertex L f)),
      )

  module _ (flags : List (List ℕ)) (each : (f : List ℕ) → Memᴰ f flags → IsFlag L f)
      (few : length flags ≤ limits.flags) where
    parts_fit : (q : Formula) → Memᴰ q (map (part_formula L) flags)
        → PlacesBelow (length xs) q × (size_of q ≤ largest_part)
    parts_fit q m = let t = Memᴰ.of_map (part_formula L) flags m in rw t.2 at (part_fits (each t.0 t.1))

    -- No step of working out what the flags add is rounded.
    pub six_no_rounding : NoRounding xs (six_formula L flags)
    unfolding six_formula
    six_no_rounding =
        running_no_rounding xs all (map (part_formula L) flags) largest_part parts_fit
        (omega (arith, length-map flags (part_formula L)))

    -- So the result is the integer as a float.
    pub six_exact : in_floats xs (six_formula L flags) ≡ of_int binary64 (six_of L xs flags)
    unfolding six_formula
    six_exact = running_is xs (map (part_formula L) flags) six_no_rounding ∙ ap (of_int binary64) (six_whole L xs flags)
