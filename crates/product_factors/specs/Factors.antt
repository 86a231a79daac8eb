-- What is asked of the two factors of a product: A the left one, B the right one, m the limits.
--
-- factors_test   30 and 31: is_valid refuses the left factor, the right one
-- factor_rules   the two refusals in their order
use Rattle.std.specs.Prelude.{◌≡◌, not, List, [], ◌∷◌, eqb}
use Rattle.listing.specs.declared.Answer.{Answer}
use Rattle.listing.specs.Refusals.{left_invalid, right_invalid}
use Rattle.listing.specs.Answers.{plain, on, ◌or_else◌}
use Rattle.listing.specs.Listing.{Listing, Limits}
use Rattle.listing.specs.Rules.{Rule, rule}
use Rattle.valid.specs.Tests.{is_valid}

unfoldable pub factors_test : Limits → Listing → Listing → Answer
factors_test m A B =
    on (not (eqb (is_valid m A).no 0)) (plain left_invalid) or_else
    on (not (eqb (is_valid m B).no 0)) (plain right_invalid)

abbrev pub factor_rules : Limits → Listing → Listing → List Rule
factor_rules m A B = rule left_invalid ((is_valid m A).no ≡ 0) ∷ rule right_invalid ((is_valid m B).no ≡ 0) ∷ []
