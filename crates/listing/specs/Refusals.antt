-- The numbers of the refusals under names, and the bands that give a number its class.
--
-- The same names, in the code's spelling, stand in src/numbers.rt.
--
-- no_ranks, over_ranks, over_elements       no ranks; too many ranks; too many elements
-- wrong_ends        ends is not twice as long as there are elements
-- over_incidences   too many incidences
-- falling_ends      ends falls, or does not come to inc's length
-- not_bounded       not one minimal and one maximal element
-- no_subs, no_sups                         an element without subs above rank 0, without sups below the top
-- sub_not_back, sup_not_back                 a sub, a sup that does not list the element back
-- sub_missing, sup_missing                 a sub, a sup that does not exist
-- third_between, lone_between              the diamond: an element met a third time between; one met only once
-- not_ascending     a list that does not strictly ascend
-- not_a_flag         the numbers are no flag
-- outside_ranks, more_flags                a change, or a bit of a mask, outside 1 to rank - 1; more flags than room
-- several_parts     closed, but its flags are in several parts
-- left_invalid, right_invalid              is_valid refuses the left, the right factor
-- comb_of_point     duocomb with a factor of rank 1, where none has rank 0
-- product_ranks, product_elements          a product with too many ranks, elements
-- product_incidences, output_short         too many incidences; an output slice that is too short
-- wrong_key, bad_line                      of a text: a line that does not begin with its key; else not as it is written
-- long_text, more_bytes                    a text that is too long; one that goes on after its last line
-- bytes_short       a byte slice that is too short for a text
-- not_rank_four, not_orientable             of a volume: a cell of another rank than 4; one that is not orientable
-- wrong_coordinates, not_in_metres          not three coordinates for each vertex; one that is not whole, or out of range
-- within            whether a number lies from one number to another, both counted in
-- band              the class of a number: 1 to 9 shape, 10 to 19 structure, 20 to 29 flags,
--                   30 to 39 products, all else nothing
-- band_no           a class as a number, for callers that have no enum
use Rattle.std.specs.Prelude.{ℕ, Bool, cond, ◌&&◌, leb, Option, Some, None}
use Rattle.listing.specs.declared.Band.{Band}
use Rattle.listing.specs.declared.Band.TheVariants.{Shape, Structure, Flags, Products}

-- shape
abbrev pub no_ranks : ℕ
no_ranks = 1

abbrev pub over_ranks : ℕ
over_ranks = 2

abbrev pub over_elements : ℕ
over_elements = 3

abbrev pub wrong_ends : ℕ
wrong_ends = 4

abbrev pub over_incidences : ℕ
over_incidences = 5

abbrev pub falling_ends : ℕ
falling_ends = 6

-- structure
abbrev pub not_bounded : ℕ
not_bounded = 10

abbrev pub no_subs : ℕ
no_subs = 11

abbrev pub no_sups : ℕ
no_sups = 12

abbrev pub sub_not_back : ℕ
sub_not_back = 13

abbrev pub sup_not_back : ℕ
sup_not_back = 14

abbrev pub sub_missing : ℕ
sub_missing = 15

abbrev pub sup_missing : ℕ
sup_missing = 16

abbrev pub third_between : ℕ
third_between = 17

abbrev pub lone_between : ℕ
lone_between = 18

abbrev pub not_ascending : ℕ
not_ascending = 19

-- flags
abbrev pub not_a_flag : ℕ
not_a_flag = 20

abbrev pub outside_ranks : ℕ
outside_ranks = 21

abbrev pub more_flags : ℕ
more_flags = 22

abbrev pub several_parts : ℕ
several_parts = 25

-- products
abbrev pub left_invalid : ℕ
left_invalid = 30

abbrev pub right_invalid : ℕ
right_invalid = 31

abbrev pub comb_of_point : ℕ
comb_of_point = 32

abbrev pub product_ranks : ℕ
product_ranks = 33

abbrev pub product_elements : ℕ
product_elements = 34

abbrev pub product_incidences : ℕ
product_incidences = 35

abbrev pub output_short : ℕ
output_short = 36

-- texts
abbrev pub wrong_key : ℕ
wrong_key = 40

abbrev pub bad_line : ℕ
bad_line = 41

abbrev pub long_text : ℕ
long_text = 42

abbrev pub more_bytes : ℕ
more_bytes = 43

abbrev pub bytes_short : ℕ
bytes_short = 44

-- volumes
abbrev pub not_rank_four : ℕ
not_rank_four = 50

abbrev pub not_orientable : ℕ
not_orientable = 51

abbrev pub wrong_coordinates : ℕ
wrong_coordinates = 52

abbrev pub not_in_metres : ℕ
not_in_metres = 53

abbrev pub within : ℕ → ℕ → ℕ → Bool
within a b n = leb a n && leb n b

unfoldable pub band : ℕ → Option Band
band n =
    cond (within 1 9 n) (Some Shape)
    (cond (within 10 19 n) (Some Structure)
    (cond (within 20 29 n) (Some Flags) (cond (within 30 39 n) (Some Products) None)))

unfoldable pub band_no : Option Band → ℕ
band_no None = 0
band_no (Some Shape) = 1
band_no (Some Structure) = 2
band_no (Some Flags) = 3
band_no (Some Products) = 4
