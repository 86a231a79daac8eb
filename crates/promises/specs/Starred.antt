-- The listings and texts to try whose answers are known, and one table of what is said of them.
--
-- square          vertices 0 to 3 with the edges {0,1}, {2,3}, {0,2}, {1,3}
-- other_square    the same with the edges {0,2}, {1,2}, {0,3}, {1,3}
-- four_on_top     four vertices under the top
-- three_pyramid   the duopyramid of three vertices under a top with a point: an edge with three vertices
-- two_triangles   the duocomb of the dyad with the triangle: two triangles under one top
-- prism           the duoprism of the dyad with the triangle, in this order
-- cube            the duoprism of the dyad with the square
-- twice_listed    an edge whose only vertex stands twice among its subs
-- twice_pyramid   the duopyramid of that with a point
-- leaking_box     the insurer's cell: a box whose edge 0 is doubled as edge 12, each of the two in one face
-- turned_square   the dual of the square
-- turned_prism    the dual of the prism
-- octahedron      the dual of the cube
-- quoted          a text in quotes as its bytes, one for each character
-- point_text, triangle_text   the texts of the point and of the triangle
-- missing_text    that of a point whose top has a second sub, which does not exist
-- missing_sub     the listing that it says
-- turned_sups     the triangle with the sups of its minimal element in falling order
-- Trial           a row of the table: what is tried, and what is answered
-- tested          a listing; what is_valid answers, what closed answers
-- combined        a product of two listings, with just the room that it takes; what it answers, the listing that it is,
--                 and what the two tests answer of that
-- refused         a product without any room; what it answers
-- changed         a listing, a flag and a rank; what the change answers
-- read_as         a text, with just the room that it takes; what reading it answers, the listing that it says, and what
--                 checking it answers
-- unread          a text without any room; what reading it answers
-- wrote_as        a listing, and room for so many bytes; what writing its text answers, and the text
-- unwritten       the same without the text
-- bodied          a listing, and room for so many flags; what the test for one body answers
-- turned_as       a listing, with just the room that it takes; what the dual answers, and the dual
-- unturned        a listing, with just the room that it takes but room for so many incidences; what the dual answers
-- to              a change that is answered with a flag, and with what it took out and put in
-- answered        the row with the answers that computing gives
-- tried           the rows; beside each name of a refusal stands its number
use Rattle.std.specs.Prelude.{Bool, true, false, List, [], ◌∷◌, ◌++◌, ℕ, length, drop}
use Prim.Native.Char.{code}
use Prim.Native.String.{String, [] as none, ◌∷◌ as ◌then◌}
use Rattle.listing.specs.declared.Answer.{Answer}
use Rattle.listing.specs.Refusals.{no_ranks, over_ranks, over_elements, not_bounded, sub_not_back, sub_missing}
use Rattle.listing.specs.Refusals.{third_between}
use Rattle.listing.specs.Refusals.{lone_between, not_ascending, not_a_flag, outside_ranks, more_flags, several_parts}
use Rattle.listing.specs.Refusals.{comb_of_point, output_short, wrong_key, bad_line, more_bytes, bytes_short}
use Rattle.listing.specs.Answers.{refusal, plain, fine}
use Rattle.listing.specs.Listing.{Listing, listing, limits}
use Rattle.listing.specs.Layers.{layers}
use Rattle.listing.specs.Cells.{nullitope, point, dyad, triangle, rankless, two_minimal, three_on_top, one_on_top}
use Rattle.listing.specs.Cells.{struck}
use Rattle.valid.specs.Tests.{is_valid, closed}
use Rattle.product_closure.specs.Result.{result_of}
use Rattle.product.specs.Outcome.{product_test}
use Rattle.text_theory.specs.Text.{text_of}
use Rattle.text_theory.specs.Said.{listing_in}
use Rattle.text.specs.Texts.{read_test, check_test}
use Rattle.text.specs.WrittenTexts.{write_test}
use Rattle.flag_change.specs.Change.{padded}
use Rattle.flag.specs.declared.Changed.{Changed}
use Rattle.flag.specs.Changed.{unchanged_as, changed_of}
use Rattle.body.specs.Body.{body_test}
use Rattle.dual_theory.specs.Dual.{dual_of}
use Rattle.dual.specs.Duals.{dual_test}

abbrev pub square : Listing
square =
    listing (1 ∷ 4 ∷ 4 ∷ 1 ∷ [])
    (0 ∷ 4 ∷ 5 ∷ 7 ∷ 8 ∷ 10 ∷ 11 ∷ 13 ∷ 14 ∷ 16 ∷ 18 ∷ 19 ∷ 21 ∷ 22 ∷ 24 ∷ 25 ∷ 27 ∷ 28 ∷ 32 ∷ 32 ∷ [])
    (0 ∷ 1 ∷ 2 ∷ 3 ∷ 0 ∷ 0 ∷ 2 ∷ 0 ∷ 0 ∷ 3 ∷ 0 ∷ 1 ∷ 2 ∷ 0 ∷ 1 ∷ 3 ∷
    0 ∷ 1 ∷ 0 ∷ 2 ∷ 3 ∷ 0 ∷ 0 ∷ 2 ∷ 0 ∷ 1 ∷ 3 ∷ 0 ∷ 0 ∷ 1 ∷ 2 ∷ 3 ∷ [])

abbrev pub other_square : Listing
other_square =
    listing (1 ∷ 4 ∷ 4 ∷ 1 ∷ [])
    (0 ∷ 4 ∷ 5 ∷ 7 ∷ 8 ∷ 10 ∷ 11 ∷ 13 ∷ 14 ∷ 16 ∷ 18 ∷ 19 ∷ 21 ∷ 22 ∷ 24 ∷ 25 ∷ 27 ∷ 28 ∷ 32 ∷ 32 ∷ [])
    (0 ∷ 1 ∷ 2 ∷ 3 ∷ 0 ∷ 0 ∷ 2 ∷ 0 ∷ 1 ∷ 3 ∷ 0 ∷ 0 ∷ 1 ∷ 0 ∷ 2 ∷ 3 ∷
    0 ∷ 2 ∷ 0 ∷ 1 ∷ 2 ∷ 0 ∷ 0 ∷ 3 ∷ 0 ∷ 1 ∷ 3 ∷ 0 ∷ 0 ∷ 1 ∷ 2 ∷ 3 ∷ [])

abbrev pub four_on_top : Listing
four_on_top =
    listing (1 ∷ 4 ∷ 1 ∷ [])
    (0 ∷ 4 ∷ 5 ∷ 6 ∷ 7 ∷ 8 ∷ 9 ∷ 10 ∷ 11 ∷ 12 ∷ 16 ∷ 16 ∷ [])
    (0 ∷ 1 ∷ 2 ∷ 3 ∷ 0 ∷ 0 ∷ 0 ∷ 0 ∷ 0 ∷ 0 ∷ 0 ∷ 0 ∷ 0 ∷ 1 ∷ 2 ∷ 3 ∷ [])

abbrev pub two_triangles : Listing
two_triangles =
    listing (1 ∷ 6 ∷ 6 ∷ 1 ∷ [])
    (0 ∷ 6 ∷ 7 ∷ 9 ∷ 10 ∷ 12 ∷ 13 ∷ 15 ∷ 16 ∷ 18 ∷ 19 ∷ 21 ∷ 22 ∷ 24 ∷
    26 ∷ 27 ∷ 29 ∷ 30 ∷ 32 ∷ 33 ∷ 35 ∷ 36 ∷ 38 ∷ 39 ∷ 41 ∷ 42 ∷ 48 ∷ 48 ∷ [])
    (0 ∷ 1 ∷ 2 ∷ 3 ∷ 4 ∷ 5 ∷ 0 ∷ 0 ∷ 1 ∷ 0 ∷ 0 ∷ 2 ∷ 0 ∷ 1 ∷ 2 ∷ 0 ∷ 3 ∷ 4 ∷ 0 ∷ 3 ∷ 5 ∷ 0 ∷ 4 ∷ 5 ∷
    0 ∷ 1 ∷ 0 ∷ 0 ∷ 2 ∷ 0 ∷ 1 ∷ 2 ∷ 0 ∷ 3 ∷ 4 ∷ 0 ∷ 3 ∷ 5 ∷ 0 ∷ 4 ∷ 5 ∷ 0 ∷ 0 ∷ 1 ∷ 2 ∷ 3 ∷ 4 ∷ 5 ∷ [])

abbrev pub three_pyramid : Listing
three_pyramid =
    listing (1 ∷ 4 ∷ 4 ∷ 1 ∷ [])
    (0 ∷ 4 ∷ 5 ∷ 7 ∷ 8 ∷ 10 ∷ 11 ∷ 13 ∷ 14 ∷ 17 ∷ 20 ∷ 21 ∷ 23 ∷ 24 ∷ 26 ∷ 27 ∷ 29 ∷ 30 ∷ 34 ∷ 34 ∷ [])
    (0 ∷ 1 ∷ 2 ∷ 3 ∷ 0 ∷ 0 ∷ 1 ∷ 0 ∷ 0 ∷ 2 ∷ 0 ∷ 0 ∷ 3 ∷ 0 ∷ 1 ∷ 2 ∷ 3 ∷
    0 ∷ 1 ∷ 2 ∷ 0 ∷ 0 ∷ 3 ∷ 0 ∷ 1 ∷ 3 ∷ 0 ∷ 2 ∷ 3 ∷ 0 ∷ 0 ∷ 1 ∷ 2 ∷ 3 ∷ [])

abbrev pub prism : Listing
prism =
    listing
    (1 ∷ 6 ∷ 9 ∷ 5 ∷ 1 ∷ [])
    (0 ∷ 6 ∷ 7 ∷ 10 ∷ 11 ∷ 14 ∷ 15 ∷ 18 ∷ 19 ∷ 22 ∷ 23 ∷ 26 ∷ 27 ∷ 30 ∷ 32 ∷ 34 ∷ 36 ∷ 38 ∷ 40 ∷ 42 ∷ 44 ∷ 46 ∷ 48 ∷
    50 ∷ 52 ∷ 54 ∷ 56 ∷ 58 ∷ 60 ∷ 62 ∷ 64 ∷ 66 ∷ 69 ∷ 70 ∷ 73 ∷ 74 ∷ 78 ∷ 79 ∷ 83 ∷ 84 ∷ 88 ∷ 89 ∷ 94 ∷ 94 ∷ [])
    (0 ∷ 1 ∷ 2 ∷ 3 ∷ 4 ∷ 5 ∷ 0 ∷ 0 ∷ 1 ∷ 6 ∷ 0 ∷ 0 ∷ 2 ∷ 7 ∷ 0 ∷ 1 ∷ 2 ∷ 8 ∷ 0 ∷ 3 ∷ 4 ∷ 6 ∷ 0 ∷ 3 ∷ 5 ∷ 7 ∷ 0 ∷ 4 ∷
    5 ∷ 8 ∷ 0 ∷ 1 ∷ 0 ∷ 2 ∷ 0 ∷ 2 ∷ 0 ∷ 3 ∷ 1 ∷ 2 ∷ 0 ∷ 4 ∷ 3 ∷ 4 ∷ 1 ∷ 2 ∷ 3 ∷ 5 ∷ 1 ∷ 3 ∷ 4 ∷ 5 ∷ 1 ∷ 4 ∷ 0 ∷ 3 ∷ 2
    ∷ 3 ∷ 1 ∷ 4 ∷ 2 ∷ 4 ∷ 2 ∷ 5 ∷ 3 ∷ 4 ∷ 0 ∷ 1 ∷ 2 ∷ 0 ∷ 3 ∷ 4 ∷ 5 ∷ 0 ∷ 0 ∷ 3 ∷ 6 ∷ 7 ∷ 0 ∷ 1 ∷ 4 ∷ 6 ∷ 8 ∷ 0 ∷ 2 ∷
    5 ∷ 7 ∷ 8 ∷ 0 ∷ 0 ∷ 1 ∷ 2 ∷ 3 ∷ 4 ∷ [])

abbrev pub cube : Listing
cube = result_of true false dyad square

abbrev pub twice_listed : Listing
twice_listed =
    listing
    (1 ∷ 1 ∷ 1 ∷ 1 ∷ [])
    (0 ∷ 1 ∷ 2 ∷ 4 ∷ 6 ∷ 7 ∷ 8 ∷ 8 ∷ [])
    (0 ∷ 0 ∷ 0 ∷ 0 ∷ 0 ∷ 0 ∷ 0 ∷ 0 ∷ [])

abbrev pub twice_pyramid : Listing
twice_pyramid =
    listing
    (1 ∷ 2 ∷ 2 ∷ 2 ∷ 1 ∷ [])
    (0 ∷ 2 ∷ 3 ∷ 6 ∷ 7 ∷ 8 ∷ 10 ∷ 12 ∷ 14 ∷ 16 ∷ 17 ∷ 18 ∷ 21 ∷ 22 ∷ 24 ∷ 24 ∷ [])
    (0 ∷ 1 ∷ 0 ∷ 0 ∷ 0 ∷ 1 ∷ 0 ∷ 1 ∷ 0 ∷ 0 ∷ 0 ∷ 1 ∷ 0 ∷ 1 ∷ 1 ∷ 1 ∷ 0 ∷ 0 ∷ 0 ∷ 1 ∷ 1 ∷ 0 ∷ 0 ∷ 1 ∷ [])

abbrev pub leaking_box : Listing
leaking_box =
    listing
    (1 ∷ 8 ∷ 13 ∷ 6 ∷ 1 ∷ [])
    (0 ∷ 8 ∷ 9 ∷ 13 ∷ 14 ∷ 18 ∷ 19 ∷ 22 ∷ 23 ∷ 26 ∷ 27 ∷ 30 ∷ 31 ∷ 34 ∷ 35 ∷ 38 ∷ 39 ∷ 42 ∷ 44 ∷ 45 ∷ 47 ∷ 49 ∷
    51 ∷ 53 ∷ 55 ∷ 57 ∷ 59 ∷ 61 ∷ 63 ∷ 65 ∷ 67 ∷ 69 ∷ 71 ∷ 73 ∷ 75 ∷ 77 ∷ 79 ∷ 81 ∷ 83 ∷ 85 ∷ 87 ∷ 89 ∷ 91 ∷
    92 ∷ 96 ∷ 97 ∷ 101 ∷ 102 ∷ 106 ∷ 107 ∷ 111 ∷ 112 ∷ 116 ∷ 117 ∷ 121 ∷ 122 ∷ 128 ∷ 128 ∷ [])
    (0 ∷ 1 ∷ 2 ∷ 3 ∷ 4 ∷ 5 ∷ 6 ∷ 7 ∷ 0 ∷ 0 ∷ 1 ∷ 2 ∷ 12 ∷ 0 ∷ 0 ∷ 3 ∷ 4 ∷ 12 ∷ 0 ∷ 1 ∷ 5 ∷ 6 ∷ 0 ∷ 3 ∷ 5 ∷ 7 ∷
    0 ∷ 2 ∷ 8 ∷ 9 ∷ 0 ∷ 4 ∷ 8 ∷ 10 ∷ 0 ∷ 6 ∷ 9 ∷ 11 ∷ 0 ∷ 7 ∷ 10 ∷ 11 ∷ 0 ∷ 1 ∷ 0 ∷ 0 ∷ 2 ∷ 0 ∷ 4 ∷ 0 ∷ 4 ∷
    2 ∷ 4 ∷ 1 ∷ 3 ∷ 0 ∷ 5 ∷ 1 ∷ 5 ∷ 2 ∷ 5 ∷ 2 ∷ 3 ∷ 0 ∷ 3 ∷ 2 ∷ 6 ∷ 3 ∷ 4 ∷ 3 ∷ 7 ∷ 3 ∷ 5 ∷ 4 ∷ 5 ∷ 1 ∷ 2 ∷
    4 ∷ 6 ∷ 1 ∷ 4 ∷ 5 ∷ 7 ∷ 1 ∷ 5 ∷ 6 ∷ 7 ∷ 1 ∷ 3 ∷ 0 ∷ 1 ∷ 2 ∷ 0 ∷ 1 ∷ 3 ∷ 5 ∷ 0 ∷ 8 ∷ 9 ∷ 10 ∷ 11 ∷ 0 ∷ 2 ∷
    4 ∷ 8 ∷ 12 ∷ 0 ∷ 5 ∷ 6 ∷ 7 ∷ 11 ∷ 0 ∷ 1 ∷ 2 ∷ 6 ∷ 9 ∷ 0 ∷ 3 ∷ 4 ∷ 7 ∷ 10 ∷ 0 ∷ 0 ∷ 1 ∷ 2 ∷ 3 ∷ 4 ∷ 5 ∷ [])

abbrev pub turned_square : Listing
turned_square =
    listing (1 ∷ 4 ∷ 4 ∷ 1 ∷ [])
    (0 ∷ 4 ∷ 5 ∷ 7 ∷ 8 ∷ 10 ∷ 11 ∷ 13 ∷ 14 ∷ 16 ∷ 18 ∷ 19 ∷ 21 ∷ 22 ∷ 24 ∷ 25 ∷ 27 ∷ 28 ∷ 32 ∷ 32 ∷ [])
    (0 ∷ 1 ∷ 2 ∷ 3 ∷ 0 ∷ 0 ∷ 1 ∷ 0 ∷ 2 ∷ 3 ∷ 0 ∷ 0 ∷ 2 ∷ 0 ∷ 1 ∷ 3 ∷
    0 ∷ 2 ∷ 0 ∷ 0 ∷ 3 ∷ 0 ∷ 1 ∷ 2 ∷ 0 ∷ 1 ∷ 3 ∷ 0 ∷ 0 ∷ 1 ∷ 2 ∷ 3 ∷ [])

abbrev pub turned_prism : Listing
turned_prism =
    listing
    (1 ∷ 5 ∷ 9 ∷ 6 ∷ 1 ∷ [])
    (0 ∷ 5 ∷ 6 ∷ 9 ∷ 10 ∷ 13 ∷ 14 ∷ 18 ∷ 19 ∷ 23 ∷ 24 ∷ 28 ∷ 30 ∷ 32 ∷ 34 ∷ 36 ∷ 38 ∷ 40 ∷ 42 ∷ 44 ∷ 46 ∷ 48 ∷ 50 ∷ 52 ∷
    54 ∷ 56 ∷ 58 ∷ 60 ∷ 62 ∷ 64 ∷ 67 ∷ 68 ∷ 71 ∷ 72 ∷ 75 ∷ 76 ∷ 79 ∷ 80 ∷ 83 ∷ 84 ∷ 87 ∷ 88 ∷ 94 ∷ 94 ∷ [])
    (0 ∷ 1 ∷ 2 ∷ 3 ∷ 4 ∷ 0 ∷ 0 ∷ 1 ∷ 2 ∷ 0 ∷ 3 ∷ 4 ∷ 5 ∷ 0 ∷ 0 ∷ 3 ∷ 6 ∷ 7 ∷ 0 ∷ 1 ∷ 4 ∷ 6 ∷ 8 ∷ 0 ∷ 2 ∷ 5 ∷ 7 ∷ 8 ∷
    0 ∷ 2 ∷ 0 ∷ 1 ∷ 0 ∷ 3 ∷ 0 ∷ 2 ∷ 0 ∷ 4 ∷ 1 ∷ 2 ∷ 1 ∷ 2 ∷ 3 ∷ 4 ∷ 1 ∷ 3 ∷ 3 ∷ 5 ∷ 1 ∷ 4 ∷ 4 ∷ 5 ∷ 2 ∷ 3 ∷ 0 ∷ 3 ∷
    2 ∷ 4 ∷ 1 ∷ 4 ∷ 3 ∷ 4 ∷ 2 ∷ 5 ∷ 0 ∷ 1 ∷ 6 ∷ 0 ∷ 0 ∷ 2 ∷ 7 ∷ 0 ∷ 1 ∷ 2 ∷ 8 ∷ 0 ∷ 3 ∷ 4 ∷ 6 ∷ 0 ∷ 3 ∷ 5 ∷ 7 ∷ 0 ∷
    4 ∷ 5 ∷ 8 ∷ 0 ∷ 0 ∷ 1 ∷ 2 ∷ 3 ∷ 4 ∷ 5 ∷ [])

abbrev pub octahedron : Listing
octahedron =
    listing
    (1 ∷ 6 ∷ 12 ∷ 8 ∷ 1 ∷ [])
    (0 ∷ 6 ∷ 7 ∷ 11 ∷ 12 ∷ 16 ∷ 17 ∷ 21 ∷ 22 ∷ 26 ∷ 27 ∷ 31 ∷ 32 ∷ 36 ∷ 38 ∷ 40 ∷ 42 ∷ 44 ∷ 46 ∷ 48 ∷ 50 ∷ 52 ∷ 54 ∷
    56 ∷ 58 ∷ 60 ∷ 62 ∷ 64 ∷ 66 ∷ 68 ∷ 70 ∷ 72 ∷ 74 ∷ 76 ∷ 78 ∷ 80 ∷ 82 ∷ 84 ∷ 87 ∷ 88 ∷ 91 ∷ 92 ∷ 95 ∷ 96 ∷ 99 ∷
    100 ∷ 103 ∷ 104 ∷ 107 ∷ 108 ∷ 111 ∷ 112 ∷ 115 ∷ 116 ∷ 124 ∷ 124 ∷ [])
    (0 ∷ 1 ∷ 2 ∷ 3 ∷ 4 ∷ 5 ∷ 0 ∷ 0 ∷ 1 ∷ 2 ∷ 3 ∷ 0 ∷ 4 ∷ 5 ∷ 6 ∷ 7 ∷ 0 ∷ 0 ∷ 4 ∷ 8 ∷ 9 ∷ 0 ∷ 1 ∷ 5 ∷ 10 ∷ 11 ∷ 0 ∷
    2 ∷ 6 ∷ 8 ∷ 10 ∷ 0 ∷ 3 ∷ 7 ∷ 9 ∷ 11 ∷ 0 ∷ 2 ∷ 0 ∷ 1 ∷ 0 ∷ 3 ∷ 2 ∷ 3 ∷ 0 ∷ 4 ∷ 0 ∷ 2 ∷ 0 ∷ 5 ∷ 1 ∷ 3 ∷ 1 ∷ 2 ∷
    4 ∷ 5 ∷ 1 ∷ 3 ∷ 6 ∷ 7 ∷ 1 ∷ 4 ∷ 4 ∷ 6 ∷ 1 ∷ 5 ∷ 5 ∷ 7 ∷ 2 ∷ 4 ∷ 0 ∷ 4 ∷ 2 ∷ 5 ∷ 1 ∷ 5 ∷ 3 ∷ 4 ∷ 2 ∷ 6 ∷ 3 ∷ 5 ∷
    3 ∷ 7 ∷ 0 ∷ 2 ∷ 8 ∷ 0 ∷ 0 ∷ 3 ∷ 9 ∷ 0 ∷ 1 ∷ 2 ∷ 10 ∷ 0 ∷ 1 ∷ 3 ∷ 11 ∷ 0 ∷ 4 ∷ 6 ∷ 8 ∷ 0 ∷ 4 ∷ 7 ∷ 9 ∷ 0 ∷ 5 ∷
    6 ∷ 10 ∷ 0 ∷ 5 ∷ 7 ∷ 11 ∷ 0 ∷ 0 ∷ 1 ∷ 2 ∷ 3 ∷ 4 ∷ 5 ∷ 6 ∷ 7 ∷ [])

unfoldable pub quoted : String → List ℕ
quoted none = []
quoted (c then s) = code c ∷ quoted s

abbrev pub point_text : List ℕ
point_text = quoted "rank=1\ncount=1\nsubs=\ncount=1\nsubs=0\n"

abbrev pub triangle_text : List ℕ
triangle_text =
    quoted "rank=3\ncount=1\nsubs=\ncount=3\nsubs=0\nsubs=0\nsubs=0\n" ++
    quoted "count=3\nsubs=0,1\nsubs=0,2\nsubs=1,2\ncount=1\nsubs=0,1,2\n"

abbrev pub missing_text : List ℕ
missing_text = quoted "rank=1\ncount=1\nsubs=\ncount=1\nsubs=0,1\n"

abbrev pub missing_sub : Listing
missing_sub = listing (1 ∷ 1 ∷ []) (0 ∷ 1 ∷ 3 ∷ 3 ∷ []) (0 ∷ 0 ∷ 1 ∷ [])

abbrev pub turned_sups : Listing
turned_sups = listing triangle.counts triangle.ends (2 ∷ 1 ∷ 0 ∷ drop 3 triangle.inc)

pub data Trial : Type 0 where
  tested : Listing → Answer → Answer → Trial
  combined : Bool → Bool → Listing → Listing → Answer → Listing → Answer → Answer → Trial
  refused : Bool → Bool → Listing → Listing → Answer → Trial
  read_as : List ℕ → Answer → Listing → Answer → Trial
  unread : List ℕ → Answer → Trial
  changed : Listing → List ℕ → ℕ → Changed → Trial
  bodied : Listing → ℕ → Answer → Trial
  wrote_as : Listing → ℕ → Answer → List ℕ → Trial
  unwritten : Listing → ℕ → Answer → Trial
  turned_as : Listing → Answer → Listing → Trial
  unturned : Listing → ℕ → Answer → Trial

unfoldable pub answered : Trial → Trial
answered (tested L v c) = tested L (is_valid limits L) (closed limits L)
answered (combined min max A B a R v c) =
    let P = result_of min max A B in
    combined min max A B (product_test limits min max A B (length P.counts) (length P.ends) (length P.inc))
    P (is_valid limits P) (closed limits P)
answered (refused min max A B a) = refused min max A B (product_test limits min max A B 0 0 0)
answered (read_as t a L c) =
    let R = listing_in t in
    read_as t (read_test limits t (length R.counts) (length R.ends) (length R.inc)) R (check_test limits t)
answered (unread t a) = unread t (read_test limits t 0 0 0)
answered (changed L f r c) = changed L f r (changed_of limits L f r)
answered (bodied L n a) = bodied L n (body_test limits L n)
answered (wrote_as L n a t) = wrote_as L n (write_test limits L n) (text_of (layers L))
answered (unwritten L n a) = unwritten L n (write_test limits L n)
answered (turned_as L a D) =
    turned_as L (dual_test limits L (length L.counts) (length L.ends) (length L.inc)) (dual_of L)
answered (unturned L n a) = unturned L n (dual_test limits L (length L.counts) (length L.ends) n)

abbrev pub to : List ℕ → ℕ → ℕ → Changed
to f taken put = record { answer = fine; flag = padded f; taken = taken; put = put }

abbrev pub tried : List Trial
tried =
    tested nullitope fine fine ∷
    tested point fine fine ∷
    tested dyad fine fine ∷
    tested triangle fine fine ∷
    -- no_ranks is 1
    tested rankless (plain no_ranks) (plain no_ranks) ∷
    -- not_bounded is 10
    tested two_minimal (refusal not_bounded 2 1 0 0) (refusal not_bounded 2 1 0 0) ∷
    -- third_between is 17
    tested three_on_top fine (refusal third_between 0 0 2 0) ∷
    -- lone_between is 18
    tested one_on_top fine (refusal lone_between 0 0 2 0) ∷
    -- sub_not_back is 13
    tested struck (refusal sub_not_back 2 1 0 0) (refusal sub_not_back 2 1 0 0) ∷
    -- not_ascending is 19
    tested twice_listed fine (refusal not_ascending 1 0 1 0) ∷
    combined true false dyad dyad fine square fine fine ∷
    combined true false dyad triangle fine prism fine fine ∷
    combined false false dyad point fine triangle fine fine ∷
    combined true false nullitope triangle fine nullitope fine fine ∷
    combined false true dyad dyad fine other_square fine fine ∷
    -- 17 again: four vertices under the top
    combined true true dyad dyad fine four_on_top fine (refusal third_between 0 0 2 0) ∷
    combined true true dyad triangle fine two_triangles fine fine ∷
    -- 17, below the top too
    combined false false three_on_top point fine three_pyramid (refusal third_between 0 0 2 0)
    (refusal third_between 0 0 2 0) ∷
    -- 17 by occurrences, and 19
    combined false false twice_listed point fine twice_pyramid (refusal third_between 1 0 3 1)
    (refusal not_ascending 1 0 1 0) ∷
    -- comb_of_point is 32
    refused true true point point (plain comb_of_point) ∷
    read_as point_text fine point fine ∷
    read_as triangle_text fine triangle fine ∷
    -- sub_missing is 15
    read_as missing_text fine missing_sub (refusal sub_missing 1 0 1 0) ∷
    -- wrong_key is 40, bad_line is 41
    unread (quoted "rank=1\n") (plain wrong_key) ∷
    unread (quoted "rank=01\n") (plain bad_line) ∷
    -- over_ranks is 2, over_elements is 3
    unread (quoted "rank=16\n") (plain over_ranks) ∷
    unread (quoted "rank=1\ncount=5000\n") (plain over_elements) ∷
    -- more_bytes is 43, output_short is 36
    unread (quoted "rank=0\ncount=1\nsubs=\n\n") (plain more_bytes) ∷
    unread (quoted "rank=0\ncount=1\nsubs=\n") (plain output_short) ∷
    changed triangle (0 ∷ 0 ∷ 0 ∷ 0 ∷ []) 1 (to (0 ∷ 1 ∷ 0 ∷ 0 ∷ []) 0 1) ∷
    changed triangle (0 ∷ 1 ∷ 0 ∷ 0 ∷ []) 1 (to (0 ∷ 0 ∷ 0 ∷ 0 ∷ []) 1 0) ∷
    changed triangle (0 ∷ 0 ∷ 0 ∷ 0 ∷ []) 2 (to (0 ∷ 0 ∷ 1 ∷ 0 ∷ []) 0 1) ∷
    changed cube (0 ∷ 0 ∷ 0 ∷ 0 ∷ 0 ∷ []) 3 (to (0 ∷ 0 ∷ 0 ∷ 2 ∷ 0 ∷ []) 0 2) ∷
    -- outside_ranks is 21, not_a_flag is 20
    changed triangle (0 ∷ 0 ∷ 0 ∷ 0 ∷ []) 0 (unchanged_as (plain outside_ranks)) ∷
    changed triangle (0 ∷ 0 ∷ 0 ∷ 0 ∷ []) 3 (unchanged_as (plain outside_ranks)) ∷
    changed triangle (0 ∷ 0 ∷ 0 ∷ []) 1 (unchanged_as (plain not_a_flag)) ∷
    -- more_flags is 22, several_parts is 25
    bodied nullitope 0 (plain more_flags) ∷
    bodied nullitope 1 fine ∷
    bodied dyad 2 fine ∷
    bodied triangle 6 fine ∷
    bodied two_triangles 11 (plain more_flags) ∷
    bodied two_triangles 12 (plain several_parts) ∷
    bodied three_on_top 0 (refusal third_between 0 0 2 0) ∷
    -- the insurer's cell: 18
    tested leaking_box fine (refusal lone_between 2 0 4 0) ∷
    -- bytes_short is 44
    wrote_as point 36 fine point_text ∷
    wrote_as triangle 200 fine triangle_text ∷
    unwritten point 35 (plain bytes_short) ∷
    unwritten three_on_top 0 (refusal third_between 0 0 2 0) ∷
    unwritten turned_sups 200 (refusal not_ascending 0 0 1 0) ∷
    -- their own duals
    turned_as nullitope fine nullitope ∷
    turned_as point fine point ∷
    turned_as dyad fine dyad ∷
    turned_as triangle fine triangle ∷
    turned_as square fine turned_square ∷
    turned_as cube fine octahedron ∷
    turned_as prism fine turned_prism ∷
    -- 36
    unturned triangle 23 (plain output_short) ∷
    -- the duocomb of two dyads: 17
    unturned four_on_top 16 (refusal third_between 0 0 2 0) ∷ []
