-- Small listings.
--
-- nullitope, point, dyad, triangle   closed cells of ranks 0 to 3; the triangle's edges are {0,1}, {0,2}, {1,2}
-- rankless       no counts at all
-- two_minimal    counts 2, 1, with no incidences
-- three_on_top   three vertices under the top
-- one_on_top     one vertex under the top
-- struck         the triangle, with edge 1 struck from vertex 0's sups
use Rattle.std.specs.Prelude.{[], ◌∷◌}
use Rattle.listing.specs.Listing.{Listing, listing}

abbrev pub nullitope : Listing
nullitope = listing (1 ∷ []) (0 ∷ 0 ∷ []) []

abbrev pub point : Listing
point = listing (1 ∷ 1 ∷ []) (0 ∷ 1 ∷ 2 ∷ 2 ∷ []) (0 ∷ 0 ∷ [])

abbrev pub dyad : Listing
dyad = listing (1 ∷ 2 ∷ 1 ∷ []) (0 ∷ 2 ∷ 3 ∷ 4 ∷ 5 ∷ 6 ∷ 8 ∷ 8 ∷ []) (0 ∷ 1 ∷ 0 ∷ 0 ∷ 0 ∷ 0 ∷ 0 ∷ 1 ∷ [])

abbrev pub triangle : Listing
triangle =
    listing (1 ∷ 3 ∷ 3 ∷ 1 ∷ [])
    (0 ∷ 3 ∷ 4 ∷ 6 ∷ 7 ∷ 9 ∷ 10 ∷ 12 ∷ 14 ∷ 15 ∷ 17 ∷ 18 ∷ 20 ∷ 21 ∷ 24 ∷ 24 ∷ [])
    (0 ∷ 1 ∷ 2 ∷ 0 ∷ 0 ∷ 1 ∷ 0 ∷ 0 ∷ 2 ∷ 0 ∷ 1 ∷ 2 ∷ 0 ∷ 1 ∷ 0 ∷ 0 ∷ 2 ∷ 0 ∷ 1 ∷ 2 ∷ 0 ∷ 0 ∷ 1 ∷ 2 ∷ [])

abbrev pub rankless : Listing
rankless = listing [] [] []

abbrev pub two_minimal : Listing
two_minimal = listing (2 ∷ 1 ∷ []) (0 ∷ 0 ∷ 0 ∷ 0 ∷ 0 ∷ 0 ∷ []) []

abbrev pub three_on_top : Listing
three_on_top =
    listing (1 ∷ 3 ∷ 1 ∷ [])
    (0 ∷ 3 ∷ 4 ∷ 5 ∷ 6 ∷ 7 ∷ 8 ∷ 9 ∷ 12 ∷ 12 ∷ [])
    (0 ∷ 1 ∷ 2 ∷ 0 ∷ 0 ∷ 0 ∷ 0 ∷ 0 ∷ 0 ∷ 0 ∷ 1 ∷ 2 ∷ [])

abbrev pub one_on_top : Listing
one_on_top = listing (1 ∷ 1 ∷ 1 ∷ []) (0 ∷ 1 ∷ 2 ∷ 3 ∷ 4 ∷ 4 ∷ []) (0 ∷ 0 ∷ 0 ∷ 0 ∷ [])

abbrev pub struck : Listing
struck =
    listing (1 ∷ 3 ∷ 3 ∷ 1 ∷ [])
    (0 ∷ 3 ∷ 4 ∷ 5 ∷ 6 ∷ 8 ∷ 9 ∷ 11 ∷ 13 ∷ 14 ∷ 16 ∷ 17 ∷ 19 ∷ 20 ∷ 23 ∷ 23 ∷ [])
    (0 ∷ 1 ∷ 2 ∷ 0 ∷ 0 ∷ 0 ∷ 0 ∷ 2 ∷ 0 ∷ 1 ∷ 2 ∷ 0 ∷ 1 ∷ 0 ∷ 0 ∷ 2 ∷ 0 ∷ 1 ∷ 2 ∷ 0 ∷ 0 ∷ 1 ∷ 2 ∷ [])
