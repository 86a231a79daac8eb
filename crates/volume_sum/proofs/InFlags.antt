-- The vertices that a flag of a cell of rank 4 adds a determinant of: the lowest of its face, its own, and the other
-- one of its edge. All three exist, so that their coordinates are there.
-- Assumes nothing.
use mathlib.Core.Path.{◌≡◌, sym, ap, ◌∙◌}
use mathlib.Core.List.{List}
use Prim.Native.Nat.{ℕ, ◌+◌, ◌*◌, ◌<◌}
use native.Mathlib.Omega.{arith}
use lib.ListN.{length, get_or}
use lib.Ieee.{Float}
use Rattle.listing.specs.declared.Slices.{Slices}
use Rattle.listing.specs.Listing.{held, limits, rank, before}
use Rattle.listing.proofs.InCell.{few_in}
use Rattle.listing.proofs.Listing.{before_zero}
use Rattle.valid.specs.Tests.{closed}
use Rattle.valid.proofs.InClosed.{is_closed, shaped, incident}
use Rattle.flag_change.specs.Flags.{IsFlag}
use Rattle.flag_change.specs.Change.{replaced_at, Flanked}
use Rattle.flag_change.specs.declared.chain.Replaced.{Replaced}
use Rattle.flag_change.proofs.Replaced.{taken_is, put_is, flag_flanked}
use Rattle.volume_metres.specs.declared.point.Point.{Point}
use Rattle.volume_metres.specs.Points.{point_of}
use Rattle.volume_metres.specs.Formulas.{in_floats, det_in}
use Rattle.volume_metres.proofs.Rounding.{det_in_lem}
use Rattle.volume_theory.specs.Six.{cell_rank, vertex_at, face_at, other_vertex, lowest_of, part_formula}
use Rattle.volume_theory.proofs.Vertices.{vertex_there, face_there, other_there}
use Rattle.volume_theory.proofs.Lowest.{lowest_there}
use Rattle.volume_sum.specs.Sums.{LowestOfEach}

pub lowest_place : (s : Slices) → 0 ≡ before s.counts.now 0
lowest_place s = sym (before_zero s.counts.now)

module _ (s : Slices) (R : rank (held s) ≡ cell_rank) (f : List ℕ) (F : IsFlag (held s) f) where
  pub flanked : Flanked (held s) f 1
  flanked = flag_flanked (held s) f 1 (omega arith) (omega (arith, R)) F

  pub four : 3 < length f
  four = omega (arith, F.one_each, R)

  module _ (C : (closed limits (held s)).no ≡ 0) where
    pub face_in : face_at f < limits.elements
    face_in = omega (arith, face_there (is_closed s C) R F, few_in s (shaped s C) 3)

    module _ (xs : List Float) (three : length xs ≡ 3 * get_or s.counts.now 1 0) (low : List ℕ)
        (each : LowestOfEach (held s) low) (p : Replaced) (e : p ≡ replaced_at (held s) 1 f) where
      lowest_is : get_or low (face_at f) 0 ≡ lowest_of (held s) (face_at f)
      lowest_is = each (face_at f) (face_there (is_closed s C) R F)

      taken : p.taken ≡ vertex_at f
      taken = ap (λ (p : Replaced). p.taken) e ∙ taken_is (held s) f 1

      put : p.put ≡ other_vertex (held s) f
      put = ap (λ (p : Replaced). p.put) e ∙ put_is (held s) f 1 (omega (arith, F.one_each, R))

      pub has_lowest : 3 * get_or low (face_at f) 0 + 2 < length xs
      has_lowest =
          let h = lowest_there (held s) (incident s C) (face_at f) (face_there (is_closed s C) R F) in
          omega (arith, lowest_is, h, three)

      pub has_taken : 3 * p.taken + 2 < length xs
      has_taken = omega (arith, taken, vertex_there (is_closed s C) R F, three)

      pub has_put : 3 * p.put + 2 < length xs
      has_put = omega (arith, put, other_there (is_closed s C) R F, three)

      pub adds : (a b c : Point) → a ≡ point_of xs (get_or low (face_at f) 0) → b ≡ point_of xs p.taken
          → c ≡ point_of xs p.put → det_in a b c ≡ in_floats xs (part_formula (held s) f)
      adds a b c i j k =
          let low_at = i ∙ ap (point_of xs) lowest_is in
          let here = j ∙ ap (point_of xs) taken in
          let beyond = k ∙ ap (point_of xs) put in
          (λ t. det_in (low_at t) (here t) (beyond t))
          ∙ det_in_lem xs (lowest_of (held s) (face_at f)) (vertex_at f) (other_vertex (held s) f)

pub ruleset part = (lowest_place, flanked, four, face_in, has_lowest, adds)
