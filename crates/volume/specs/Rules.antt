-- The refusals of six_volume, in their order: the closed test's, then 20 and 22 of the search with every change, then
-- 50 to 53.
--
-- volume_rules   a cell with a first flag and coordinates, with room for so many flags
use Rattle.std.specs.Prelude.{◌≡◌, List, [], ◌∷◌, ◌++◌, ℕ, suc, ◌*◌, length, Float}
use Rattle.listing.specs.Refusals.{more_flags, not_rank_four, not_orientable, wrong_coordinates, not_in_metres}
use Rattle.listing.specs.Listing.{Listing, Limits, rank, count}
use Rattle.listing.specs.Rules.{Rule, rule}
use Rattle.valid.specs.Rules.{closed_rules}
use Rattle.flag_change.specs.Rules.{flag_rule}
use Rattle.search_theory.specs.Search.{AtLeast, Colouring}
use Rattle.search_masks.specs.Masks.{every_rank}
use Rattle.search.specs.Exact.{Leads}
use Rattle.volume_metres.specs.Whole.{AllCoordinates}
use Rattle.volume_theory.specs.Six.{cell_rank}

abbrev pub volume_rules : Limits → Listing → List ℕ → List Float → ℕ → List Rule
volume_rules m L first xs room =
    closed_rules m L ++
    flag_rule L first ∷
    rule more_flags (¬ AtLeast (suc room) (Leads L (every_rank (rank L))) first) ∷
    rule not_rank_four (rank L ≡ cell_rank) ∷
    rule not_orientable (Colouring (Leads L (every_rank (rank L))) first) ∷
    rule wrong_coordinates (length xs ≡ 3 * count L 1) ∷
    rule not_in_metres (AllCoordinates xs) ∷ []
