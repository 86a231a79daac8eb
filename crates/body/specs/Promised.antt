-- What is promised of the test for one body of L, that was lent a table and bytes and left table' and bytes' in them,
-- and answered r.
--
-- BodyPromised   which refusal comes when; refused, its numbers are 0; where a listing is not closed, the slices are as
--                they were; else in the table and the bytes stands what a search with every change from the flag of
--                first sups leaves, which of a closed listing is refused with 22 only; and answered with 0, its
--                numbers are that search's, and the table holds all flags
use Rattle.std.specs.Prelude.{◌≡◌, ◌≢◌, ℕ, ◌+◌}
use mathlib.Core.List.{List, Memᴰ}
use Rattle.listing.specs.Listing.{Listing, Limits, rank}
use Rattle.listing.specs.Rules.{FirstBroken}
use Rattle.valid.specs.Closed.{Closed}
use Rattle.flag_change.specs.Flags.{IsFlag}
use Rattle.search_index.specs.Rows.{rows}
use Rattle.search_masks.specs.Masks.{every_rank}
use Rattle.search.specs.declared.Searched.{Searched}
use Rattle.search.specs.SearchedBy.{refused_as}
use Rattle.search.specs.Exact.{Searchable}
use Rattle.search.specs.Promised.{room_in, Promised}
use Rattle.body_theory.specs.First.{sups_flag}
use Rattle.body.specs.Rules.{body_rules}

pub record BodyPromised (m : Limits) (L : Listing) (table bytes : List ℕ) (r : Searched) (table' bytes' : List ℕ)
    : Type 0 where
  pub refusals : FirstBroken (body_rules m L (room_in m L table bytes)) r.answer.no
  pub numbers : r.answer.no ≢ 0 → r ≡ refused_as r.answer
  pub untouched : ¬ Closed m L → (table' ≡ table) × (bytes' ≡ bytes)
  pub whole : Closed m L → Searchable m L (sups_flag L) (every_rank (rank L))
  pub search : Searched
  pub searched : Promised m L (sups_flag L) (every_rank (rank L)) table bytes search table' bytes'
  pub same : r.answer.no ≡ 0 → r ≡ search
  pub all : r.answer.no ≡ 0 → (f : List ℕ) → IsFlag L f → Memᴰ f (rows (rank L + 1) table' r.count)
