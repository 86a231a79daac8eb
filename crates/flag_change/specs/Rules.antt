-- What a change and a search ask after the closed test.
--
-- flag_rule   20
use Rattle.std.specs.Prelude.{List, ℕ}
use Rattle.listing.specs.Refusals.{not_a_flag}
use Rattle.listing.specs.Listing.{Listing}
use Rattle.listing.specs.Rules.{Rule, rule}
use Rattle.flag_change.specs.Flags.{IsFlag}

abbrev pub flag_rule : Listing → List ℕ → Rule
flag_rule L f = rule not_a_flag (IsFlag L f)
