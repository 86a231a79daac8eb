-- What the entry for duals answers and writes.
--
-- dual_test   the refusals in their order, of a dual that is to be written into slices of the lengths c, e and i: what
--             closed refuses; then 36, a slice that is too short
-- DualMade    what is answered, r, and what the output slices then hold, all at once: they held `old` and hold `new`
use Rattle.std.specs.Prelude.{ℕ, length}
use Rattle.listing.specs.declared.Answer.{Answer}
use Rattle.listing.specs.declared.Built.{Built}
use Rattle.listing.specs.Answers.{◌or_else◌}
use Rattle.listing.specs.Listing.{Listing, Limits}
use Rattle.listing_outputs.specs.Output.{room_test, Made}
use Rattle.valid.specs.Tests.{closed}
use Rattle.dual_theory.specs.Dual.{dual_of}

unfoldable pub dual_test : Limits → Listing → ℕ → ℕ → ℕ → Answer
dual_test m L c e i = closed m L or_else room_test (dual_of L) c e i

abbrev pub DualMade : Limits → Listing → Listing → Listing → Built → Type 0
DualMade m L old new r =
    Made (dual_test m L (length old.counts) (length old.ends) (length old.inc)) (dual_of L) old new r
