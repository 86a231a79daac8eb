-- What a search answers and writes, from what it found.
--
-- refused_as    the answer of a refusal: all numbers are 0
-- found_as      the answer of a search that came to its end
-- told_walk     what a walk is told as that has come to its end: what it found, or 22 where there was no more room
-- searched_as   the answer by its refusal: a refusal's, or that of a search that found so many flags
-- room_of       how many flags there is room for: the whole flags that fit the table, the bytes, the limit
-- search_test   the refusals in their order: those of the closed test, 20, 21, and 22 exactly if there are more than
--               room
-- searched_of   the answer: how many flags, how many came before the cell showed itself not orientable, whether it is
-- left_after    what a lent slice holds afterwards: on success and at 22 what was found, written over its beginning
-- searched_by   what a search answers, with a table and bytes lent to it
-- table_after   what the table holds afterwards
-- bytes_after   what the bytes are afterwards
use Rattle.std.specs.Prelude.{not, cond, ◌||◌, Result, Ok, Err, List, ℕ, ◌+◌, ◌/◌, min, eqb, length}
use Rattle.order.specs.Lists.{over}
use Rattle.listing.specs.declared.Answer.{Answer}
use Rattle.listing.specs.declared.Refusal.{Refusal}
use Rattle.listing.specs.Refusals.{outside_ranks, more_flags}
use Rattle.listing.specs.Answers.{plain, fine, if_zero, on, ◌or_else◌}
use Rattle.listing.specs.Told.{answer_of}
use Rattle.listing.specs.Listing.{Listing, Limits, rank}
use Rattle.flag_change.specs.Flags.{start_test}
use Rattle.search_theory.specs.Search.{State}
use Rattle.search_index.specs.Rows.{flatten}
use Rattle.search_masks.specs.Masks.{mask_fits}
use Rattle.search_store.specs.declared.Found.{Found}
use Rattle.search_store.specs.declared.Full.{Full}
use Rattle.search.specs.declared.Searched.{Searched}
use Rattle.search_walk.specs.Searched.{found_by}

abbrev pub refused_as : Answer → Searched
refused_as a = record { answer = a; count = 0; place = 0; orientable = 0 }

abbrev pub found_as : Answer → ℕ → ℕ → Searched
found_as a count place = record { answer = a; count = count; place = place; orientable = cond (eqb place 0) 1 0 }

abbrev pub told_searched : Result Found Refusal → Searched
told_searched (Ok found) = found_as fine found.count found.place
told_searched (Err why) = refused_as (answer_of why)

abbrev pub told_walk : Result Found Full → Searched
told_walk (Ok found) = found_as fine found.count found.place
told_walk (Err full) = refused_as (plain more_flags)

abbrev pub searched_as : Answer → ℕ → ℕ → Searched
searched_as a count place = if_zero a.no (found_as a count place) (refused_as a)

unfoldable pub room_of : Limits → Listing → ℕ → ℕ → ℕ
room_of m L table bytes = min (min (table / (rank L + 1)) bytes) m.flags

unfoldable pub search_test : Limits → Listing → List ℕ → ℕ → ℕ → Answer
search_test m L first mask room =
    start_test m L first or_else
    on (not (mask_fits (rank L) mask)) (plain outside_ranks) or_else
    on (found_by L first mask room).overflow (plain more_flags)

unfoldable pub searched_of : Answer → State (List ℕ) → Searched
searched_of a s = searched_as a (length s.found) s.place

unfoldable pub left_after : Answer → List ℕ → List ℕ → List ℕ
left_after a new old = cond (eqb a.no 0 || eqb a.no more_flags) (over new old) old

unfoldable pub searched_by : Limits → Listing → List ℕ → ℕ → List ℕ → List ℕ → Searched
unfolding room_of search_test searched_of
searched_by m L first mask table bytes =
    let room = room_of m L (length table) (length bytes) in
    searched_of (search_test m L first mask room) (found_by L first mask room)

unfoldable pub table_after : Limits → Listing → List ℕ → ℕ → List ℕ → List ℕ → List ℕ
unfolding room_of search_test left_after
table_after m L first mask table bytes =
    let room = room_of m L (length table) (length bytes) in
    left_after (search_test m L first mask room) (flatten (found_by L first mask room).found) table

unfoldable pub bytes_after : Limits → Listing → List ℕ → ℕ → List ℕ → List ℕ → List ℕ
unfolding room_of search_test left_after
bytes_after m L first mask table bytes =
    let room = room_of m L (length table) (length bytes) in
    left_after (search_test m L first mask room) (found_by L first mask room).bytes bytes
