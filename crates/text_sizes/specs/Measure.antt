-- The first reading of a text t, with the limits m: how far it has come, and what it finds. up has, for each element,
-- how many sups it has, as far as the lines that were read tell. The numbers of these lines are noted down.
--
-- left_test     the refusals that are left from line k on
-- Raising       the sups of all ranks that lie two or more below rank r are counted, the others not yet; no count
--               passes the place that was reached
-- CountsNoted   the counts of the ranks below r stand in a list, which is long enough for all
-- SubsNoted     how many subs each of the first e elements has, and which, stand in two lists, long enough for all
-- Arrived       the reading stands where the lines of a rank begin: what was read is good, and what is left decides; it
--               is noted, and each sub took two bytes
-- Entered       the same after the line with the count, n, of that rank
-- SizesRead     of a text that is not refused: the room and the sups are those of its listing, and the numbers that it
--               says are noted
use Rattle.std.specs.Prelude.{◌≡◌, List, ℕ, suc, ◌+◌, ◌*◌, ◌≤◌, ◌<◌, ltb, length, get_or, drop}
use Rattle.order.specs.Sums.{sum}
use Rattle.listing.specs.declared.Answer.{Answer}
use Rattle.listing.specs.Refusals.{more_bytes}
use Rattle.listing.specs.Answers.{plain, on, ◌or_else◌, first_of}
use Rattle.listing.specs.Listing.{Limits}
use Rattle.listing.specs.Shape.{Shaped}
use Rattle.listing.specs.Layers.{Layers, derived}
use Rattle.listing_outputs.specs.declared.outputs.Room.{Room}
use Rattle.listing_outputs.specs.Output.{need_of}
use Rattle.listing_sups.specs.Sups.{Counted}
use Rattle.text_theory.specs.Text.{line_count}
use Rattle.text_theory.specs.Said.{from_line, count_line, said, listing_in, size_below, incidences_to, line_test}
use Rattle.text_theory.specs.Said.{text_test}
use Rattle.text_theory.specs.Notes.{subs_to, Noted}
use Rattle.text_sizes.specs.declared.measure.Headway.{Headway}

unfoldable pub left_test : Limits → List ℕ → ℕ → Answer
left_test m t k =
    let n = line_count (said t) in
    first_of (line_test m t) k n or_else on (ltb 0 (length (from_line t n))) (plain more_bytes)

pub record Raising (m : Limits) (t : List ℕ) (r from at : ℕ) (up : List ℕ) : Type 0 where
  pub long : m.elements ≤ length up
  pub done : (q x : ℕ) → suc q < r → x < (said t).size q
      → get_or up (sum (said t).size q + x) 0 ≡ length (derived (said t) q x)
  pub rest : (k : ℕ) → from ≤ k → get_or up k 0 ≡ 0
  pub few : (k : ℕ) → get_or up k 0 < at

pub record CountsNoted (m : Limits) (M : Layers) (r : ℕ) (noted : List ℕ) : Type 0 where
  pub long : m.ranks ≤ length noted
  pub at : (q : ℕ) → q < r → get_or noted q 0 ≡ M.size q

pub record SubsNoted (m : Limits) (M : Layers) (e : ℕ) (many subs : List ℕ) : Type 0 where
  pub long : m.elements ≤ length many
  pub room : m.incidences ≤ length subs
  pub each : (r i : ℕ) → i < M.size r → sum M.size r + i < e
      → get_or many (sum M.size r + i) 0 ≡ length (M.under r i)
  pub sub : (r i j : ℕ) → i < M.size r → sum M.size r + i < e → j < length (M.under r i)
      → get_or subs (subs_to M r i + j) 0 ≡ get_or (M.under r i) j 0

pub record Arrived (m : Limits) (t : List ℕ) (s : Headway) (up many subs : List ℕ) : Type 0 where
  pub short : length t ≤ m.text
  pub ranks : (said t).top < m.ranks
  pub rank : s.rank ≤ suc (said t).top
  pub inside : s.at ≤ length t
  pub here : drop s.at t ≡ from_line t (count_line t s.rank)
  pub left : text_test m t ≡ left_test m t (count_line t s.rank)
  pub below : s.below ≡ size_below (said t) s.rank
  pub total : s.from + s.below ≡ sum (said t).size s.rank
  pub elements : s.from + s.below ≤ m.elements
  pub weighs : s.incidences ≡ incidences_to (said t) s.rank 0
  pub incidences : s.incidences ≤ m.incidences
  pub sups : Raising m t s.rank s.from s.at up
  pub passed : s.subs ≡ subs_to (said t) s.rank 0
  pub half : 2 * s.subs ≤ s.at
  pub light : s.subs ≤ s.incidences
  pub notes : SubsNoted m (said t) (s.from + s.below) many subs

pub record Entered (m : Limits) (t : List ℕ) (s : Headway) (n : ℕ) (up many subs : List ℕ) : Type 0 where
  pub short : length t ≤ m.text
  pub ranks : (said t).top < m.ranks
  pub rank : s.rank ≤ (said t).top
  pub size : n ≡ (said t).size s.rank
  pub inside : s.at ≤ length t
  pub here : drop s.at t ≡ from_line t (suc (count_line t s.rank))
  pub left : text_test m t ≡ left_test m t (suc (count_line t s.rank))
  pub below : s.below ≡ size_below (said t) s.rank
  pub total : s.from + s.below ≡ sum (said t).size s.rank
  pub elements : s.from + s.below + n ≤ m.elements
  pub weighs : s.incidences ≡ incidences_to (said t) s.rank 0
  pub incidences : s.incidences ≤ m.incidences
  pub sups : Raising m t s.rank s.from s.at up
  pub passed : s.subs ≡ subs_to (said t) s.rank 0
  pub half : 2 * s.subs ≤ s.at
  pub light : s.subs ≤ s.incidences
  pub notes : SubsNoted m (said t) (s.from + s.below) many subs

pub record SizesRead (m : Limits) (t : List ℕ) (up counts many subs : List ℕ) (r : Room) : Type 0 where
  pub need : r ≡ need_of (listing_in t)
  pub shaped : Shaped m (listing_in t)
  pub counted : Counted (said t) up
  pub noted : Noted (said t) counts many subs
