-- Hashes of flags, by which a flag is looked up.
--
-- hashes     how many hashes there are: a prime number
-- weight     what the number at a rank counts for: the powers of 5741, each reduced
-- sum_from   the numbers of a list, each times its weight, added up; the first stands at rank r
-- hash_of    the hash of a flag: that sum, reduced
-- Weights    a list has the weight of each rank that there can be
use Rattle.std.specs.Prelude.{◌≡◌, List, [], ◌∷◌, ℕ, zero, suc, ◌+◌, ◌*◌, ◌%◌, ◌<◌, length, get_or}
use Rattle.listing.specs.Listing.{limits}

abbrev pub hashes : ℕ
hashes = 16381

unfoldable pub weight : ℕ → ℕ
weight zero = 1
weight (suc r) = weight r * 5741 % hashes

unfoldable pub sum_from : ℕ → List ℕ → ℕ
sum_from r [] = 0
sum_from r (x ∷ f) = x * weight r + sum_from (r + 1) f

unfoldable pub hash_of : List ℕ → ℕ
hash_of f = sum_from 0 f % hashes

pub record Weights (l : List ℕ) : Type 0 where
  pub long : length l ≡ limits.ranks
  pub each : (r : ℕ) → r < limits.ranks → get_or l r 0 ≡ weight r
