-- The refusals of a search, in their order: the closed test's, then 20, 21 and 22.
--
-- search_rules   a search from the flag f by the changes of a mask, with room for so many flags
use Rattle.std.specs.Prelude.{List, [], ◌∷◌, ◌++◌, ℕ, suc}
use Rattle.listing.specs.Refusals.{outside_ranks, more_flags}
use Rattle.listing.specs.Listing.{Listing, Limits, rank}
use Rattle.listing.specs.Rules.{Rule, rule}
use Rattle.valid.specs.Rules.{closed_rules}
use Rattle.flag_change.specs.Rules.{flag_rule}
use Rattle.search_theory.specs.Search.{AtLeast}
use Rattle.search_masks.specs.Masks.{InnerRanks}
use Rattle.search.specs.Exact.{Leads}

abbrev pub search_rules : Limits → Listing → List ℕ → ℕ → ℕ → List Rule
search_rules m L f mask room =
    closed_rules m L ++
    flag_rule L f ∷
    rule outside_ranks (InnerRanks (rank L) mask) ∷
    rule more_flags (¬ AtLeast (suc room) (Leads L mask) f) ∷ []
