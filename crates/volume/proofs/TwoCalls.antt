-- Two calls of six_volume on one listing: from flags one change apart, and with all vertices moved alike.
-- Assumes nothing.
use mathlib.Core.Path.{◌≡◌, sym, ap, ◌∙◌}
use mathlib.Core.List.{List}
use Prim.Native.Nat.{ℕ, ◌<◌}
use lib.IntN.{ℤ, neg_ℤ}
use lib.Ieee.{Float, binary64, of_int, neg}
use Rattle.listing.specs.Listing.{Listing, limits}
use Rattle.flag_change.specs.Change.{change_at}
use Rattle.search.specs.Promised.{room_in}
use Rattle.volume_metres.specs.Points.{Site}
use Rattle.volume_metres.proofs.Running.{neg_of_int}
use Rattle.volume_theory.specs.Six.{cell_rank, even_flags, six_of, Shifted}
use Rattle.volume_theory.proofs.Changed.{six_negated, six_moved}
use Rattle.volume.specs.declared.Measured.{Measured}
use Rattle.volume.specs.Volumes.{measured, volume_by}
use Rattle.volume.specs.Promised.{Negated}
use Rattle.volume.proofs.Cases.{oriented}
use Rattle.volume.proofs.Exact.{six_answered}

abbrev of_six : Measured → Float
of_six r = r.six

-- an integer and its negative as answers
negated : (z y : ℤ) → y ≡ neg_ℤ z → {r s : Measured} → r ≡ measured (of_int binary64 z)
    → s ≡ measured (of_int binary64 y) → Negated r s
negated z y e a b = record {
  six = z;
  this = a;
  other = b ∙ ap (λ x. measured (of_int binary64 x)) e;
  opposite = λ n.
      ap of_six b ∙ ap (of_int binary64) e ∙ neg_of_int z n ∙ ap neg (sym (ap of_six a));
}

module _ (L : Listing) (first : List ℕ) (xs : List Float) (table bytes : List ℕ)
    (z : (volume_by limits L first xs table bytes).no ≡ 0) where
  -- From a flag one change away the answer is negated.
  pub volume_negated : (q : ℕ) → 0 < q → q < cell_rank → (t b : List ℕ)
      → (volume_by limits L (change_at L q first) xs t b).no ≡ 0
      → Negated (volume_by limits L first xs table bytes) (volume_by limits L (change_at L q first) xs t b)
  volume_negated q h k t b y =
      let a = six_answered L first xs table bytes z in
      let c = six_answered L (change_at L q first) xs t b y in
      negated (six_of L xs (even_flags L first (room_in limits L table bytes)))
      (six_of L xs (even_flags L (change_at L q first) (room_in limits L t b)))
      (six_negated (oriented L first xs table bytes a.0) a.0.is_cell xs h k
      (oriented L (change_at L q first) xs t b c.0))
      a.1 c.1

  -- With all vertices moved alike it is the same.
  pub volume_moved : (m : Site) (ys : List Float) → Shifted L m xs ys → (t b : List ℕ)
      → (volume_by limits L first ys t b).no ≡ 0
      → volume_by limits L first ys t b ≡ volume_by limits L first xs table bytes
  volume_moved m ys S t b y =
      let a = six_answered L first xs table bytes z in
      let c = six_answered L first ys t b y in
      c.1
      ∙ ap (λ x. measured (of_int binary64 x))
      (six_moved (oriented L first xs table bytes a.0) a.0.is_cell xs m ys S (oriented L first ys t b c.0))
      ∙ sym a.1
