-- What the test for one body answers. In the table and the bytes it leaves what a search with every change from the
-- flag of first sups leaves, which is refused as the closed test refuses, or else with 22 only.
--
-- whole_search       what the search finds, with room for so many flags
-- parts_test         22 if there are more flags in all than room; 25 if fewer were found than there are
-- judged_as          the answer after that: the numbers of the search, all 0 at a refusal
-- body_test          the refusals in their order: those of the closed test, 22, 25
-- body_by            the answer, with a table and bytes lent
-- body_table_after   what the table holds afterwards
-- body_bytes_after   what the bytes are afterwards
use Rattle.std.specs.Prelude.{List, ℕ, ltb, length}
use Rattle.listing.specs.declared.Answer.{Answer}
use Rattle.listing.specs.Refusals.{more_flags, several_parts}
use Rattle.listing.specs.Answers.{plain, on, ◌or_else◌}
use Rattle.listing.specs.Listing.{Listing, Limits, rank}
use Rattle.valid.specs.Tests.{closed}
use Rattle.search_theory.specs.Search.{State}
use Rattle.search_masks.specs.Masks.{every_rank}
use Rattle.search_walk.specs.Searched.{found_by}
use Rattle.search.specs.declared.Searched.{Searched}
use Rattle.search.specs.SearchedBy.{searched_as, searched_of, table_after, bytes_after}
use Rattle.search.specs.Promised.{room_in}
use Rattle.body_theory.specs.InAll.{flags_in_all}
use Rattle.body_theory.specs.First.{sups_flag}

abbrev pub whole_search : Listing → ℕ → State (List ℕ)
whole_search L room = found_by L (sups_flag L) (every_rank (rank L)) room

unfoldable pub parts_test : ℕ → ℕ → ℕ → Answer
parts_test room found all = on (ltb room all) (plain more_flags) or_else on (ltb found all) (plain several_parts)

abbrev pub judged_as : ℕ → ℕ → ℕ → ℕ → Searched
judged_as room all count place = searched_as (parts_test room count all) count place

unfoldable pub body_test : Limits → Listing → ℕ → Answer
unfolding parts_test
body_test m L room = closed m L or_else parts_test room (length (whole_search L room).found) (flags_in_all L)

unfoldable pub body_by : Limits → Listing → List ℕ → List ℕ → Searched
unfolding body_test searched_of
body_by m L table bytes =
    let room = room_in m L table bytes in
    searched_of (body_test m L room) (whole_search L room)

abbrev pub body_table_after : Limits → Listing → List ℕ → List ℕ → List ℕ
body_table_after m L table bytes = table_after m L (sups_flag L) (every_rank (rank L)) table bytes

abbrev pub body_bytes_after : Limits → Listing → List ℕ → List ℕ → List ℕ
body_bytes_after m L table bytes = bytes_after m L (sups_flag L) (every_rank (rank L)) table bytes
