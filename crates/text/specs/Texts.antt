-- What reading a text answers. m are the limits, t is the text.
--
-- read_test    the refusals of read_text in their order: the text's, then 36, for slices of the lengths c, e and i
-- check_test   those of check_text: the text's, then the closed test's of the listing that it says
use Rattle.std.specs.Prelude.{List, ℕ}
use Rattle.listing.specs.declared.Answer.{Answer}
use Rattle.listing.specs.Answers.{◌or_else◌}
use Rattle.listing.specs.Listing.{Limits}
use Rattle.listing_outputs.specs.Output.{room_test}
use Rattle.valid.specs.Tests.{closed}
use Rattle.text_theory.specs.Said.{listing_in, text_test}

unfoldable pub read_test : Limits → List ℕ → ℕ → ℕ → ℕ → Answer
read_test m t c e i = text_test m t or_else room_test (listing_in t) c e i

unfoldable pub check_test : Limits → List ℕ → Answer
check_test m t = text_test m t or_else closed m (listing_in t)
