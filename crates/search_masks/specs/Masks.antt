-- The change mask: bit r asks for the change at rank r.
--
-- bit_at       bit r of a number, 0 or 1
-- InMask       a mask asks for the change at rank r
-- InnerRanks   it asks for changes at ranks from 1 to rank - 1 only
-- mask_fits    whether it does, by looking
-- every_rank   the mask that asks for every change of a cell of that rank: at 1 to rank - 1
-- bits_in      the set bits of a number among its k lowest, upward, each b more than its place
-- ranks_of     the ranks that a mask asks for, from the lowest upward
use Rattle.std.specs.Prelude.{◌≡◌, Bool, cond, ◌&&◌, ◌||◌, List, [], ◌∷◌, ℕ, zero, suc}
use Rattle.std.specs.Prelude.{◌+◌, ◌-◌, ◌/◌, ◌%◌, ◌^◌, ◌<◌, eqb, ltb}
use Rattle.order.specs.Tests.{every}
use Rattle.listing.specs.Listing.{limits}

abbrev pub bit_at : ℕ → ℕ → ℕ
bit_at n r = n / 2 ^ r % 2

abbrev pub InMask : ℕ → ℕ → Type 0
InMask mask r = (r < limits.ranks) × (bit_at mask r ≡ 1)

abbrev pub InnerRanks : ℕ → ℕ → Type 0
InnerRanks rank mask = (r : ℕ) → InMask mask r → (0 < r) × (r < rank)

unfoldable pub mask_fits : ℕ → ℕ → Bool
mask_fits rank mask = every (λ r. eqb (bit_at mask r) 0 || (ltb 0 r && ltb r rank)) limits.ranks

abbrev pub every_rank : ℕ → ℕ
every_rank rank = 2 ^ rank - 2

unfoldable pub bits_in : ℕ → ℕ → ℕ → List ℕ
bits_in zero b n = []
bits_in (suc k) b n = cond (eqb (n % 2) 1) (b ∷ bits_in k (b + 1) (n / 2)) (bits_in k (b + 1) (n / 2))

abbrev pub ranks_of : ℕ → List ℕ
ranks_of mask = bits_in limits.ranks 0 mask
