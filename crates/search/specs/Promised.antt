-- What is promised of a search of L from a first flag by the changes of a mask, that was lent a table and bytes and
-- left table' and bytes' in them, and answered r. Only `first_found` names the search itself, with more room.
--
-- room_in    how many flags there is room for
-- Promised   which refusal comes when, and what then stands in the table and the bytes: refused with another number
--            than 22 they are as they were, and at 22 they hold the first flags found, as many as there is room for;
--            and answered with 0, all flags that the changes lead to, each once and in the order found, counted, and
--            coloured, or the place of the event that shows that they cannot be
use Rattle.std.specs.Prelude.{◌≡◌, ◌≢◌, List, ℕ, ◌+◌, ◌≤◌, length, take}
use Rattle.listing.specs.Refusals.{more_flags}
use Rattle.listing.specs.Listing.{Listing, Limits, rank}
use Rattle.listing.specs.Rules.{FirstBroken}
use Rattle.search_index.specs.Rows.{rows}
use Rattle.search_walk.specs.Searched.{found_by}
use Rattle.search.specs.declared.Searched.{Searched}
use Rattle.search.specs.SearchedBy.{refused_as, room_of}
use Rattle.search.specs.Exact.{Holds, Finds}
use Rattle.search.specs.Rules.{search_rules}

abbrev pub room_in : Limits → Listing → List ℕ → List ℕ → ℕ
room_in m L table bytes = room_of m L (length table) (length bytes)

pub record Promised (m : Limits) (L : Listing) (first : List ℕ) (mask : ℕ) (table bytes : List ℕ) (r : Searched)
    (table' bytes' : List ℕ) : Type 0 where
  pub refusals : FirstBroken (search_rules m L first mask (room_in m L table bytes)) r.answer.no
  pub numbers : r.answer.no ≢ 0 → r ≡ refused_as r.answer
  pub untouched : r.answer.no ≢ 0 → r.answer.no ≢ more_flags → (table' ≡ table) × (bytes' ≡ bytes)
  pub full : r.answer.no ≡ more_flags → Holds L first mask table' bytes' table bytes (room_in m L table bytes)
  pub first_found : r.answer.no ≡ more_flags → (more : ℕ) → room_in m L table bytes ≤ more
      → rows (rank L + 1) table' (room_in m L table bytes)
      ≡ take (room_in m L table bytes) (found_by L first mask more).found
  pub holds : r.answer.no ≡ 0 → Holds L first mask table' bytes' table bytes r.count
  pub finds : r.answer.no ≡ 0 → Finds L first mask table' bytes' r
