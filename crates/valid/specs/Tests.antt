-- The five entries: each is shape and then its tests in their order, with the first refusal.
--
-- bounded            shape, 1
-- check_incidences   shape, 2
-- is_dyadic          shape, 2, 3 at the ranks below the top
-- is_valid           shape, 1, 2, 3 at the ranks below the top
-- closed             shape, 1, 2, ascent, 3 at the ranks to the top
use Rattle.std.specs.Prelude.{◌-◌}
use Rattle.listing.specs.declared.Answer.{Answer}
use Rattle.listing.specs.Answers.{◌or_else◌}
use Rattle.listing.specs.Listing.{Listing, Limits, rank}
use Rattle.listing.specs.Shape.{shape_test}
use Rattle.valid_incidence.specs.Incidence.{incidences_test}
use Rattle.valid_diamond.specs.Dyadic.{dyadic_test}
use Rattle.valid.specs.Bounds.{bounded_test}
use Rattle.valid.specs.Ascent.{ascent_test}

unfoldable pub bounded : Limits → Listing → Answer
bounded m L = shape_test m L or_else bounded_test L

unfoldable pub check_incidences : Limits → Listing → Answer
check_incidences m L = shape_test m L or_else incidences_test L

unfoldable pub is_dyadic : Limits → Listing → Answer
is_dyadic m L = shape_test m L or_else incidences_test L or_else dyadic_test L (rank L - 1)

unfoldable pub is_valid : Limits → Listing → Answer
is_valid m L = shape_test m L or_else bounded_test L or_else incidences_test L or_else dyadic_test L (rank L - 1)

unfoldable pub closed : Limits → Listing → Answer
closed m L =
    shape_test m L or_else bounded_test L or_else incidences_test L or_else ascent_test L or_else dyadic_test L (rank L)
