-- The lines of a listing: those of a rank are the line of its count with one behind it for each element, and all are
-- the line of the rank with those of each rank behind it. Where their numbers stand in the slices.
-- Assumes nothing.
use mathlib.Core.Path.{◌≡◌, refl, sym, ap, ◌∙◌}
use mathlib.Core.List.{List, [], ◌∷◌, ◌++◌}
use Prim.Native.Nat.{ℕ, ◌+◌, ◌-◌, ◌*◌, ◌≤◌, ◌<◌}
use native.Mathlib.Omega.{arith}
use lib.ListN.{length, take, drop, length-append}
use lib.Seq.{drop-cons}
use Rattle.listing.specs.Listing.{Listing, Limits, limits, width, rank, count, before, entries, subs}
use Rattle.listing.specs.Shape.{Shaped}
use Rattle.listing.specs.Layers.{layers}
use Rattle.listing.specs.Written.{joined}
use Rattle.listing.proofs.Entries.{entries_few}
use Rattle.listing.proofs.InCell.{side_there}
use Rattle.listing.proofs.Places.{side_at, few_in_rank}
use Rattle.listing.proofs.Listing.{before_next, before_step}
use Rattle.listing.proofs.ShapeExact.{shaped_ranks}
use Rattle.listing.proofs.Written.{joined_same, joined_longer}
use Rattle.text_theory.specs.Text.{rank_key, count_key, subs_key, line, line_bytes, rank_bytes, text_of}
use Rattle.text_theory.proofs.ByRank.{text_ranks, rank_lines}
use Rattle.text_writing.specs.Writing.{lines_from}

-- ---- a rank

abbrev pub count_bytes : Listing → ℕ → List ℕ
count_bytes L r = line_bytes (line count_key (count L r ∷ []))

abbrev pub subs_bytes : Listing → ℕ → ℕ → List ℕ
subs_bytes L r i = line_bytes (line subs_key (subs L r i))

module _ (L : Listing) (r : ℕ) where
  pub rank_length : length (rank_bytes (layers L) r)
      ≡ length (count_bytes L r) + length (joined (subs_bytes L r) (count L r))
  rank_length = ap length (rank_lines (layers L) r) ∙ length-append (count_bytes L r) _

  -- the count, as a part of a slice
  pub count_part : r < length L.counts → take (r + 1 - r) (drop r L.counts) ≡ count L r ∷ []
  count_part h =
      let e : r + 1 - r ≡ 1 = omega arith in
      rw (e, drop-cons L.counts r 0 h)

  pub count_bytes_lem : r < length L.counts
      → line_bytes (line count_key (take (r + 1 - r) (drop r L.counts))) ≡ count_bytes L r
  count_bytes_lem h = ap (λ (l : List ℕ). line_bytes (line count_key l)) (count_part h)

  module _ (here : ℕ) (e : here ≡ before L.counts r) where
    -- the subs of an element, found from where its rank begins
    pub subs_bytes_lem : (i : ℕ) (list : List ℕ) → list ≡ entries L.ends L.inc (2 * (here + i) + 0)
        → line_bytes (line subs_key list) ≡ subs_bytes L r i
    subs_bytes_lem i list q = ap (λ (l : List ℕ). line_bytes (line subs_key l)) (q ∙ side_at L here r i 0 e)

    pub rank_put : rank_bytes (layers L) r ≡ count_bytes L r ++ lines_from L.ends L.inc here (count L r)
    unfolding lines_from
    rank_put =
        rank_lines (layers L) r
        ∙ ap (λ (s : List ℕ). count_bytes L r ++ s)
        (sym (joined_same _ (subs_bytes L r) (count L r) (λ i h. subs_bytes_lem i _ refl)))

    -- there is room for the line of its count and for the lines of its elements
    pub rank_room : (at room : ℕ) → at + length (rank_bytes (layers L) r) ≤ room
        → at + (length (count_bytes L r) + length (lines_from L.ends L.inc here (count L r))) ≤ room
    rank_room at room h =
        omega (arith, ap length rank_put, length-append (count_bytes L r) (lines_from L.ends L.inc here (count L r)))

-- a list has fewer numbers than there are values
pub list_narrow : (L : Listing) → Shaped limits L → (k : ℕ) (list : List ℕ) → list ≡ entries L.ends L.inc k
    → length list < width
list_narrow L S k list e =
    omega (arith, ap length e, entries_few L.ends L.inc k, S.few_incidences)

-- ---- all ranks

abbrev pub rank_first : Listing → List ℕ
rank_first L = line_bytes (line rank_key (rank L ∷ []))

module _ {m : Limits} (L : Listing) (S : Shaped m L) where
  pub text_put : text_of (layers L) ≡ rank_first L ++ joined (rank_bytes (layers L)) (length L.counts)
  text_put =
      text_ranks (layers L) ∙ ap (λ (n : ℕ). rank_first L ++ joined (rank_bytes (layers L)) n) (shaped_ranks L S)

  pub text_length : length (text_of (layers L))
      ≡ length (rank_first L) + length (joined (rank_bytes (layers L)) (length L.counts))
  text_length = ap length text_put ∙ length-append (rank_first L) _

-- how long the lines of a rank are: one more, and all
pub ruleset rank_lengths = (joined_longer, side_there, subs_bytes_lem, rank_length, few_in_rank)

-- how long the lines of all ranks are, with one rank more
pub ruleset text_lengths = (before_next, before_step, joined_longer)
