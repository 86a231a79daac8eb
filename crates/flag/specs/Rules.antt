-- The refusals of a change, in their order: the closed test's, then 20, then 21.
--
-- change_rules   a change at rank r of the flag f
use Rattle.std.specs.Prelude.{List, [], ◌∷◌, ◌++◌, ℕ, ◌<◌}
use Rattle.listing.specs.Refusals.{outside_ranks}
use Rattle.listing.specs.Listing.{Listing, Limits, rank}
use Rattle.listing.specs.Rules.{Rule, rule}
use Rattle.valid.specs.Rules.{closed_rules}
use Rattle.flag_change.specs.Rules.{flag_rule}

abbrev pub change_rules : Limits → Listing → List ℕ → ℕ → List Rule
change_rules m L f r = closed_rules m L ++ flag_rule L f ∷ rule outside_ranks ((0 < r) × (r < rank L)) ∷ []
