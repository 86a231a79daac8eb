-- The ascent test, 19: every list strictly ascends.
--
-- climbs           the numbers strictly ascend, the first of them not below `from`
-- side_ascent      refusal 19 at a list of an element that does not strictly ascend
-- element_ascent   the same at an element: its subs, then its sups
-- ascent_test      refusal 19 at the first list, by rank, index, subs before sups, that does not strictly ascend
-- AscendsAt        what the ascent test asks of an element: its subs and its sups strictly ascend
-- Ascends          the same of every element
use Rattle.std.specs.Prelude.{Bool, true, not, ◌&&◌, List, [], ◌∷◌, ℕ, ◌+◌, ◌<◌, leb, length}
use Rattle.order.specs.Lists.{Ascending}
use Rattle.listing.specs.declared.Answer.{Answer}
use Rattle.listing.specs.Refusals.{not_ascending}
use Rattle.listing.specs.Answers.{refusal, on, ◌or_else◌, first_of}
use Rattle.listing.specs.Listing.{Listing, count, side}

unfoldable pub climbs : ℕ → List ℕ → Bool
climbs from [] = true
climbs from (x ∷ l) = leb from x && climbs (x + 1) l

abbrev pub side_ascent : Listing → ℕ → ℕ → ℕ → Answer
side_ascent L r i s = on (not (climbs 0 (side L s r i))) (refusal not_ascending r i s 0)

unfoldable pub element_ascent : Listing → ℕ → ℕ → Answer
element_ascent L r i = side_ascent L r i 0 or_else side_ascent L r i 1

unfoldable pub ascent_test : Listing → Answer
ascent_test L = first_of (λ r. first_of (element_ascent L r) 0 (count L r)) 0 (length L.counts)

abbrev pub AscendsAt : Listing → ℕ → ℕ → Type 0
AscendsAt L r i = (s : ℕ) → s < 2 → Ascending (side L s r i)

unfoldable pub Ascends : Listing → Type 0
Ascends L = (r i : ℕ) → i < count L r → AscendsAt L r i
