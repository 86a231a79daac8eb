-- What the four products answer and write. min and max tell the product: duopyramid neither, duoprism min, duotegum
-- max, duocomb both. m are the limits, A is the left factor, B the right one. The output slices held `old` and hold
-- `new`; r is what is answered.
--
-- rest_test      what is tested of valid factors: 32, and then the sizes
-- product_test   the refusals in their order, of the factors and then the rest
-- Outcome        what a product answers and what its three output slices hold afterwards, all at once
use Rattle.std.specs.Prelude.{Bool, ℕ, length}
use Rattle.listing.specs.declared.Answer.{Answer}
use Rattle.listing.specs.declared.Built.{Built}
use Rattle.listing.specs.Refusals.{comb_of_point}
use Rattle.listing.specs.Answers.{plain, on, ◌or_else◌}
use Rattle.listing.specs.Listing.{Listing, Limits}
use Rattle.listing_outputs.specs.Output.{Made}
use Rattle.product_factors.specs.Factors.{factors_test}
use Rattle.product_closure.specs.Result.{comb_case, result_of}
use Rattle.product_sizes.specs.Sizing.{size_test}

unfoldable pub rest_test : Limits → Bool → Bool → Listing → Listing → ℕ → ℕ → ℕ → Answer
rest_test m min max A B c e i =
    on (comb_case min max A B) (plain comb_of_point) or_else size_test m (result_of min max A B) c e i

unfoldable pub product_test : Limits → Bool → Bool → Listing → Listing → ℕ → ℕ → ℕ → Answer
product_test m min max A B c e i = factors_test m A B or_else rest_test m min max A B c e i

pub record Outcome (m : Limits) (min max : Bool) (A B old new : Listing) (r : Built) : Type 0 where
  pub made : Made (product_test m min max A B (length old.counts) (length old.ends) (length old.inc))
      (result_of min max A B) old new r
