-- The shape of a listing.
--
-- fills        the numbers do not fall, begin at `from` or later, and the last is n (with no numbers: from is n)
-- elements     the elements of all ranks
-- shape_test   the shape tests in their order, 1 to 6
-- Shaped       what they ask, said of the listing
use Rattle.std.specs.Prelude.{◌≡◌, Bool, not, ◌&&◌, List, [], ◌∷◌, ℕ, ◌*◌, ◌≤◌, ◌<◌, leb, ltb, eqb, length, get_or}
use Rattle.listing.specs.declared.Answer.{Answer}
use Rattle.listing.specs.Refusals.{no_ranks, over_ranks, over_elements, wrong_ends, over_incidences, falling_ends}
use Rattle.listing.specs.Answers.{plain, on, ◌or_else◌}
use Rattle.listing.specs.Listing.{Listing, Limits, before, start}

unfoldable pub fills : ℕ → List ℕ → ℕ → Bool
fills from [] n = eqb from n
fills from (x ∷ l) n = leb from x && fills x l n

abbrev pub elements : Listing → ℕ
elements L = before L.counts (length L.counts)

unfoldable pub shape_test : Limits → Listing → Answer
shape_test m L =
    on (eqb (length L.counts) 0) (plain no_ranks) or_else
    on (ltb m.ranks (length L.counts)) (plain over_ranks) or_else
    on (ltb m.elements (elements L)) (plain over_elements) or_else
    on (not (eqb (length L.ends) (2 * elements L))) (plain wrong_ends) or_else
    on (ltb m.incidences (length L.inc)) (plain over_incidences) or_else
    on (not (fills 0 L.ends (length L.inc))) (plain falling_ends)

pub record Shaped (m : Limits) (L : Listing) : Type 0 where
  pub some_rank : 0 < length L.counts
  pub few_ranks : length L.counts ≤ m.ranks
  pub few_elements : elements L ≤ m.elements
  pub two_ends_each : length L.ends ≡ 2 * elements L
  pub few_incidences : length L.inc ≤ m.incidences
  pub rising : (k : ℕ) → k < length L.ends → start L.ends k ≤ get_or L.ends k 0
  pub full : start L.ends (length L.ends) ≡ length L.inc
