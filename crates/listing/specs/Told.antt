-- What a result answers, as callers that have no enum read it: a number and four fields.
--
-- side_no       a side as a number: 0 subs, 1 sups
-- other_side    subs for sups, and sups for subs
-- bare_no, not_back_no, missing_no   the numbers of a refusal that has a side
-- of_element    a refusal that names an element, and two numbers more
-- answer_of     the answer of a refusal
-- told          the answer of a result: that of its refusal, else the one of no refusal
-- told_number   what a count answers: the refusal's number and 0, or 0 and the count
-- told_built    what a function that writes a listing answers: its refusal and no numbers, or how many it wrote
use Rattle.std.specs.Prelude.{ℕ, Result, Ok, Err}
use Rattle.listing.specs.declared.Answer.{Answer}
use Rattle.listing.specs.declared.Number.{Number}
use Rattle.listing.specs.declared.Built.{Built}
use Rattle.listing.specs.declared.Lengths.{Lengths}
use Rattle.listing.specs.declared.Element.{Element}
use Rattle.listing.specs.declared.Side.{Side}
use Rattle.listing.specs.declared.Side.TheVariants.{Subs, Sups}
use Rattle.listing.specs.declared.Refusal.{Refusal}
use Rattle.listing.specs.declared.Refusal.TheVariants.{NoRanks, OverRanks, OverElements, WrongEnds, OverIncidences}
use Rattle.listing.specs.declared.Refusal.TheVariants.{FallingEnds, NotBounded, Bare, NotBack, Missing, ThirdBetween}
use Rattle.listing.specs.declared.Refusal.TheVariants.{LoneBetween, NotAscending, NotAFlag, OutsideRanks, MoreFlags}
use Rattle.listing.specs.declared.Refusal.TheVariants.{SeveralParts, LeftInvalid, RightInvalid, CombOfPoint}
use Rattle.listing.specs.declared.Refusal.TheVariants.{ProductRanks, ProductElements, ProductIncidences, OutputShort}
use Rattle.listing.specs.declared.Refusal.TheVariants.{WrongKey, BadLine, LongText, MoreBytes, BytesShort}
use Rattle.listing.specs.declared.Refusal.TheVariants.{NotRankFour, NotOrientable, WrongCoordinates, NotInMetres}
use Rattle.listing.specs.Refusals.{no_ranks, over_ranks, over_elements, wrong_ends, over_incidences, falling_ends}
use Rattle.listing.specs.Refusals.{not_bounded, no_subs, no_sups, sub_not_back, sup_not_back, sub_missing}
use Rattle.listing.specs.Refusals.{sup_missing, third_between, lone_between, not_ascending, not_a_flag}
use Rattle.listing.specs.Refusals.{outside_ranks, more_flags, several_parts, left_invalid, right_invalid}
use Rattle.listing.specs.Refusals.{comb_of_point, product_ranks, product_elements, product_incidences, output_short}
use Rattle.listing.specs.Refusals.{wrong_key, bad_line, long_text, more_bytes, bytes_short, not_rank_four}
use Rattle.listing.specs.Refusals.{not_orientable, wrong_coordinates, not_in_metres}
use Rattle.listing.specs.Answers.{refusal, plain, fine}

abbrev pub side_no : Side → ℕ
side_no Subs = 0
side_no Sups = 1

abbrev pub other_side : Side → Side
other_side Subs = Sups
other_side Sups = Subs

abbrev pub bare_no : Side → ℕ
bare_no Subs = no_subs
bare_no Sups = no_sups

abbrev pub not_back_no : Side → ℕ
not_back_no Subs = sub_not_back
not_back_no Sups = sup_not_back

abbrev pub missing_no : Side → ℕ
missing_no Subs = sub_missing
missing_no Sups = sup_missing

abbrev pub of_element : ℕ → Element → ℕ → ℕ → Answer
of_element n x c d = refusal n x.rank x.index c d

abbrev pub answer_of : Refusal → Answer
answer_of NoRanks = plain no_ranks
answer_of OverRanks = plain over_ranks
answer_of OverElements = plain over_elements
answer_of WrongEnds = plain wrong_ends
answer_of OverIncidences = plain over_incidences
answer_of FallingEnds = plain falling_ends
answer_of (NotBounded smallest largest) = refusal not_bounded smallest largest 0 0
answer_of (Bare of side) = of_element (bare_no side) of 0 0
answer_of (NotBack of side entry) = of_element (not_back_no side) of entry 0
answer_of (Missing of side entry) = of_element (missing_no side) of entry 0
answer_of (ThirdBetween low high) = of_element third_between low high.rank high.index
answer_of (LoneBetween low high) = of_element lone_between low high.rank high.index
answer_of (NotAscending of side) = of_element not_ascending of (side_no side) 0
answer_of NotAFlag = plain not_a_flag
answer_of OutsideRanks = plain outside_ranks
answer_of MoreFlags = plain more_flags
answer_of SeveralParts = plain several_parts
answer_of LeftInvalid = plain left_invalid
answer_of RightInvalid = plain right_invalid
answer_of CombOfPoint = plain comb_of_point
answer_of ProductRanks = plain product_ranks
answer_of ProductElements = plain product_elements
answer_of ProductIncidences = plain product_incidences
answer_of OutputShort = plain output_short
answer_of WrongKey = plain wrong_key
answer_of BadLine = plain bad_line
answer_of LongText = plain long_text
answer_of MoreBytes = plain more_bytes
answer_of BytesShort = plain bytes_short
answer_of NotRankFour = plain not_rank_four
answer_of NotOrientable = plain not_orientable
answer_of WrongCoordinates = plain wrong_coordinates
answer_of NotInMetres = plain not_in_metres

abbrev pub told : {A : Type 0} → Result A Refusal → Answer
told (Ok x) = fine
told (Err e) = answer_of e

abbrev pub told_number : Result ℕ Refusal → Number
told_number (Ok n) = record { no = 0; value = n }
told_number (Err e) = record { no = (answer_of e).no; value = 0 }

abbrev pub told_built : Result Lengths Refusal → Built
told_built (Ok n) = record { answer = fine; counts = n.counts; ends = n.ends; inc = n.inc }
told_built (Err e) = record { answer = answer_of e; counts = 0; ends = 0; inc = 0 }
