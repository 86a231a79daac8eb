-- The flag that the test for one body searches from: from the minimal element upward, the first sup each time.
--
-- sup_at      its index at rank r: 0 at rank 0, and then the first sup of the element before
-- sups_flag   the indices at all ranks
use Rattle.std.specs.Prelude.{List, ℕ, zero, suc, length, get_or}
use Rattle.listing.specs.Listing.{Listing, sups}
use Rattle.listing.specs.Written.{tabulated}

unfoldable pub sup_at : Listing → ℕ → ℕ
sup_at L zero = 0
sup_at L (suc r) = get_or (sups L r (sup_at L r)) 0 0

abbrev pub sups_flag : Listing → List ℕ
sups_flag L = tabulated (sup_at L) (length L.counts)
