-- What is promised of six_volume holds: which refusal comes when, what the slices then hold, and what is answered.
-- Assumes nothing.
use mathlib.Core.Path.{◌≡◌, sym, ap, ◌∙◌}
use mathlib.Core.List.{List}
use Prim.Native.Nat.{ℕ}
use lib.Ieee.{Float, binary64, of_int}
use Rattle.listing.specs.Listing.{Listing, limits, rank}
use Rattle.search_masks.specs.Masks.{every_rank}
use Rattle.search.specs.Promised.{room_in}
use Rattle.search.proofs.Exact.{promised}
use Rattle.volume_metres.proofs.Running.{zero_literal}
use Rattle.volume_theory.specs.Six.{face_at, even_flags, six_of}
use Rattle.volume_theory.proofs.Vertices.{face_there, other_end}
use Rattle.volume_theory.proofs.Lowest.{lowest_in}
use Rattle.volume_theory.proofs.Exactly.{six_whole, six_no_rounding, six_exact}
use Rattle.volume.specs.declared.Measured.{Measured}
use Rattle.volume.specs.Volumes.{measured, volume_test, volume_by, volume_table_after, volume_bytes_after}
use Rattle.volume.specs.Promised.{Summed, VolumePromised}
use Rattle.volume.proofs.Cases.{said, Answered, answered, evens_left, evens_flags, few}
use Rattle.volume.proofs.VolumeBroken.{number_is, volume_broken, as_searched, searched_first}

module _ (L : Listing) (first : List ℕ) (xs : List Float) (table bytes : List ℕ) where
  abbrev r : Measured
  r = volume_by limits L first xs table bytes

  abbrev E : List (List ℕ)
  E = even_flags L first (room_in limits L table bytes)

  -- Where nothing is refused, the answer is the sum over the even flags.
  pub six_answered : r.no ≡ 0 → Answered L first xs table bytes × (r ≡ measured (of_int binary64 (six_of L xs E)))
  unfolding volume_by
  six_answered z =
      let h : (volume_test L.counts xs (said L first xs table bytes)).no ≡ 0 =
      sym (number_is L first xs table bytes) ∙ z in
      (answered L first xs table bytes h, rw h)

  summed : r.no ≡ 0 → Summed L xs E r
  summed z =
      let a = six_answered z in
      let A = a.0 in
      let C = A.searchable.closed in
      let R = A.is_cell in
      let flag = evens_flags L first xs table bytes A in
      let n = few L first xs table bytes A in
      record {
        exact = a.1;
        positive = λ e. a.1 ∙ ap (λ y. measured (of_int binary64 y)) e ∙ ap measured (sym zero_literal);
        worked_out = a.1 ∙ ap measured (sym (six_exact C R xs A.metres A.three_each E flag n));
        whole = six_whole L xs E;
        no_rounding = six_no_rounding C R xs A.metres A.three_each E flag n;
        lowest = λ f m. lowest_in L C.incident (face_at f) (face_there C R (flag f m));
        other = λ f m. other_end C R (flag f m);
      }

  pub volume_promised : VolumePromised limits L first xs table bytes r
      (volume_table_after limits L first table bytes) (volume_bytes_after limits L first table bytes)
  volume_promised = record {
    refusals = volume_broken L first xs table bytes;
    search = said L first xs table bytes;
    searched = promised limits L first (every_rank (rank L)) table bytes;
    as_searched = as_searched L first xs table bytes;
    found = searched_first L first xs table bytes;
    sum = λ z. rw (evens_left L first xs table bytes (six_answered z).0) (summed z);
  }
