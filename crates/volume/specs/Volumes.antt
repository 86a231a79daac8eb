-- What six_volume answers. In the table and the orientations it leaves what a search with every change leaves.
--
-- measured             the answer of a volume: no refusal
-- unmeasured           the answer of a refusal by its number: +0.0 beside it
-- volume_test          the refusals in their order: that of a search with every change that answered s, then 50, 51,
--                      52, 53
-- volume_as            the answer by its refusal: a refusal's number, or a volume as a float
-- told_volume          what the result of six_volume answers to callers that have no enum
-- volume_by            the answer, with a table and orientations lent: the volume is the whole number `six_of`, over
--                      the even flags found, and where it is 0, the positive zero
-- volume_table_after   what the table holds afterwards
-- volume_bytes_after   what the orientations are afterwards
use Rattle.std.specs.Prelude.{not, List, ℕ, ◌-◌, ◌*◌, eqb, length, get_or, pos, Float, Result, Ok, Err}
use Rattle.std.specs.Float.{binary64}
use Rattle.std.specs.Float.Ieee.{of_int}
use Rattle.listing.specs.declared.Answer.{Answer}
use Rattle.listing.specs.declared.Refusal.{Refusal}
use Rattle.listing.specs.Refusals.{not_rank_four, not_orientable, wrong_coordinates, not_in_metres}
use Rattle.listing.specs.Answers.{plain, on, if_zero, ◌or_else◌}
use Rattle.listing.specs.Listing.{Listing, Limits, rank}
use Rattle.listing.specs.Told.{answer_of}
use Rattle.search_masks.specs.Masks.{every_rank}
use Rattle.search.specs.declared.Searched.{Searched}
use Rattle.search.specs.SearchedBy.{searched_by, table_after, bytes_after}
use Rattle.search.specs.Promised.{room_in}
use Rattle.volume_metres.specs.Whole.{all_coordinates}
use Rattle.volume_theory.specs.Six.{cell_rank, even_flags, six_of}
use Rattle.volume.specs.declared.Measured.{Measured}

abbrev pub measured : Float → Measured
measured x = record { no = 0; six = x }

abbrev pub unmeasured : ℕ → Measured
unmeasured n = record { no = n; six = of_int binary64 (pos 0) }

unfoldable pub volume_test : List ℕ → List Float → Searched → Answer
volume_test counts xs s =
    s.answer or_else
    on (not (eqb (length counts - 1) cell_rank)) (plain not_rank_four) or_else
    on (eqb s.orientable 0) (plain not_orientable) or_else
    on (not (eqb (length xs) (3 * get_or counts 1 0))) (plain wrong_coordinates) or_else
    on (not (all_coordinates xs)) (plain not_in_metres)

abbrev pub volume_as : Answer → Float → Measured
volume_as a x = if_zero a.no (measured x) (unmeasured a.no)

unfoldable pub volume_by : Limits → Listing → List ℕ → List Float → List ℕ → List ℕ → Measured
unfolding volume_test
volume_by m L first xs table bytes =
    let s = searched_by m L first (every_rank (rank L)) table bytes in
    volume_as (volume_test L.counts xs s) (of_int binary64 (six_of L xs (even_flags L first (room_in m L table bytes))))

abbrev pub volume_table_after : Limits → Listing → List ℕ → List ℕ → List ℕ → List ℕ
volume_table_after m L first table bytes = table_after m L first (every_rank (rank L)) table bytes

abbrev pub volume_bytes_after : Limits → Listing → List ℕ → List ℕ → List ℕ → List ℕ
volume_bytes_after m L first table bytes = bytes_after m L first (every_rank (rank L)) table bytes

abbrev pub told_volume : Result Float Refusal → Measured
told_volume (Ok x) = measured x
told_volume (Err e) = unmeasured (answer_of e).no
