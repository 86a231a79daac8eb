-- Counts of chains that stop at one more than the most flags that a search can have room for.
--
-- most           where they stop
-- capped         a number, or that where it is larger
-- number_at      the number of element x of the rank that begins at place b
-- Capped         no number of an array is larger than that
-- CountedBelow   an array with a number for each element that there can be, none too large, has at the place of each
--                element of the ranks below r, and of the first i of rank r, how many chains lead to it, or `most`
--                where these are more
use Rattle.std.specs.Prelude.{◌≡◌, List, ℕ, ◌+◌, ◌≤◌, ◌<◌, min, length, get_or}
use Rattle.order.specs.Lists.{Earlier}
use Rattle.listing.specs.Listing.{Listing, limits, count, before}
use Rattle.body_theory.specs.InAll.{chains_to}

abbrev pub most : ℕ
most = limits.flags + 1

abbrev pub capped : ℕ → ℕ
capped n = min n most

abbrev pub number_at : List ℕ → ℕ → ℕ → ℕ
number_at numbers b x = get_or numbers (b + x) 0

abbrev pub Capped : List ℕ → Type 0
Capped l = (k : ℕ) → get_or l k 0 ≤ most

pub record CountedBelow (L : Listing) (r i : ℕ) (numbers : List ℕ) : Type 0 where
  pub long : length numbers ≡ limits.elements
  pub none_larger : Capped numbers
  pub counted : (q j : ℕ) → Earlier q j r i → j < count L q
      → get_or numbers (before L.counts q + j) 0 ≡ capped (chains_to L q j)
