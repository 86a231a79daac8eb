-- Test 1: one minimal and one maximal element.
--
-- bounded_test   refusal 10 with both counts unless each is 1
-- Bounded        the book's rule: one element at rank 0, one at the top
use Rattle.std.specs.Prelude.{◌≡◌, not, ◌&&◌, eqb}
use Rattle.listing.specs.declared.Answer.{Answer}
use Rattle.listing.specs.Refusals.{not_bounded}
use Rattle.listing.specs.Answers.{refusal, on}
use Rattle.listing.specs.Listing.{Listing, rank, count}

unfoldable pub bounded_test : Listing → Answer
bounded_test L =
    on (not (eqb (count L 0) 1 && eqb (count L (rank L)) 1)) (refusal not_bounded (count L 0) (count L (rank L)) 0 0)

pub record Bounded (L : Listing) : Type 0 where
  pub one_minimal : count L 0 ≡ 1
  pub one_maximal : count L (rank L) ≡ 1
