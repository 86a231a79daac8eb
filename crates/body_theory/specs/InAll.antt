-- How many flags a listing has in all.
--
-- chains_to      how many chains lead from rank 0 up to element i of rank r, each element a sub of the next
-- flags_in_all   how many lead up to the maximal element: of a closed listing, its flags
-- ManyFlags      there are n different flags, or more
use Rattle.std.specs.Prelude.{◌≡◌, ℕ, zero, suc, length}
use mathlib.Core.List.{List, Memᴰ}
use Rattle.order.specs.Sums.{sum_over}
use Rattle.listing.specs.Listing.{Listing, rank, subs}
use Rattle.flag_change.specs.Flags.{IsFlag}
use Rattle.search_theory.specs.Search.{Once}

unfoldable pub chains_to : Listing → ℕ → ℕ → ℕ
chains_to L zero i = 1
chains_to L (suc r) i = sum_over (chains_to L r) (subs L (suc r) i)

abbrev pub flags_in_all : Listing → ℕ
flags_in_all L = chains_to L (rank L) 0

pub record ManyFlags (n : ℕ) (L : Listing) : Type 0 where
  pub flags : List (List ℕ)
  pub many : length flags ≡ n
  pub once : Once flags
  pub each : (f : List ℕ) → Memᴰ f flags → IsFlag L f
