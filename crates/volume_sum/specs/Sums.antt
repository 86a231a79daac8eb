-- What the sum stands on.
--
-- LowestOfEach   an array has the lowest-numbered vertex of each face, at the face's index
use Rattle.std.specs.Prelude.{◌≡◌, List, ℕ, ◌<◌, get_or}
use Rattle.listing.specs.Listing.{Listing, count}
use Rattle.volume_theory.specs.Six.{lowest_of}

abbrev pub LowestOfEach : Listing → List ℕ → Type 0
LowestOfEach L a = (i : ℕ) → i < count L 3 → get_or a i 0 ≡ lowest_of L i
