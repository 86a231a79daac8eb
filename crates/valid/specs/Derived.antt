-- Listings whose sups say no more than their subs.
--
-- Derived   the sups of each element are those derived from the subs of the rank above
use Rattle.std.specs.Prelude.{◌≡◌, ℕ, ◌<◌}
use Rattle.listing.specs.Listing.{Listing, count, sups}
use Rattle.listing.specs.Layers.{layers, derived}

unfoldable pub Derived : Listing → Type 0
Derived L = (r i : ℕ) → i < count L r → sups L r i ≡ derived (layers L) r i
