-- The two ways that test 2 looks from an element: down along its subs, up along its sups. What a way says stands with
-- `Way` in src/incidence.rt.
--
-- down         the way from rank r to the rank below
-- up           the way from rank r to the rank above
-- WayFits      the elements of a way are there
-- back         the list of element x of a way that leads back
-- entry_test   one entry x of a list of element i of rank r: x is an element of the way, and its list back holds i
-- along_test   the first refusal along a list, its entries in order
-- list_test    a list along its way: the refusal of an empty one, then its entries
use Rattle.std.specs.Prelude.{cond, not, ◌&&◌, List, ℕ, ◌+◌, ◌-◌, ◌*◌, ◌≤◌, ltb, eqb, length}
use Rattle.order.specs.Lists.{has}
use Rattle.listing.specs.declared.Answer.{Answer}
use Rattle.listing.specs.declared.Side.TheVariants.{Subs, Sups}
use Rattle.listing.specs.Told.{side_no, other_side, bare_no, not_back_no, missing_no}
use Rattle.listing.specs.Answers.{refusal, on, ◌or_else◌, first_in}
use Rattle.listing.specs.Listing.{Listing, rank, count, below, before, entries}
use Rattle.valid_incidence.specs.declared.incidence.Way.{Way}

abbrev pub down : Listing → ℕ → Way
down L r = record {
  side = Subs;
  size = below L r;
  place = before L.counts (r - 1);
  asked = ltb 0 r;
}

abbrev pub up : Listing → ℕ → Way
up L r = record {
  side = Sups;
  size = count L (r + 1);
  place = before L.counts (r + 1);
  asked = ltb r (rank L);
}

abbrev pub WayFits : List ℕ → Way → Type 0
WayFits ends w = 2 * (w.place + w.size) ≤ length ends

abbrev pub back : List ℕ → List ℕ → Way → ℕ → List ℕ
back ends inc w x = entries ends inc (2 * (w.place + x) + side_no (other_side w.side))

unfoldable pub entry_test : List ℕ → List ℕ → Way → ℕ → ℕ → ℕ → Answer
entry_test ends inc w r i x =
    cond (ltb x w.size) (on (not (has (back ends inc w x) i)) (refusal (not_back_no w.side) r i x 0))
    (refusal (missing_no w.side) r i x 0)

unfoldable pub along_test : List ℕ → List ℕ → Way → ℕ → ℕ → List ℕ → Answer
along_test ends inc w r i list = first_in (entry_test ends inc w r i) list

unfoldable pub list_test : List ℕ → List ℕ → Way → ℕ → ℕ → List ℕ → Answer
list_test ends inc w r i list =
    on (w.asked && eqb (length list) 0) (refusal (bare_no w.side) r i 0 0) or_else along_test ends inc w r i list
