-- What a search finds.
--
-- mask_changes   the changes of a flag that a mask asks for, from the lowest rank upward
-- found_by       the search from the first flag, as a state: the flags found in order, their bytes, the place
use Rattle.std.specs.Prelude.{List, map, ℕ}
use Rattle.listing.specs.Listing.{Listing}
use Rattle.flag_change.specs.Change.{change_at}
use Rattle.search_theory.specs.Search.{State, search}
use Rattle.search_index.specs.Rows.{same_list}
use Rattle.search_masks.specs.Masks.{ranks_of}

unfoldable pub mask_changes : Listing → ℕ → List ℕ → List (List ℕ)
mask_changes L mask f = map (λ r. change_at L r f) (ranks_of mask)

unfoldable pub found_by : Listing → List ℕ → ℕ → ℕ → State (List ℕ)
found_by L first mask room = search same_list room (mask_changes L mask) first
