-- In a listing that is incident the subs of an element exist, one rank lower.
-- Assumes nothing.
use mathlib.Core.Path.{◌≡◌}
use Prim.Native.Nat.{ℕ, ◌-◌, ◌<◌}
use Rattle.order.specs.Lists.{In}
use Rattle.listing.specs.Listing.{Listing, count, subs}
use Rattle.valid_incidence.specs.Incidence.{Incident}

-- q is the rank of the element, r that of its subs
pub sub_there : (L : Listing) → Incident L → (q r i x : ℕ) → q - 1 ≡ r → i < count L q → In x (subs L q i)
    → x < count L r
unfolding Incident
sub_there L I q r i x e h m = rw e at ((I q i h).lower.each x m).1
