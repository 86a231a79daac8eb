-- Right under the top, what a change takes out and puts in are, of all elements of that rank, the two that have the
-- flag's element below directly under them.
-- Assumes nothing.
use mathlib.Core.Path.{◌≡◌}
use mathlib.Core.List.{List}
use Prim.Native.Nat.{ℕ, ◌+◌, ◌-◌, ◌<◌}
use native.Mathlib.Omega.{arith}
use lib.ListN.{get_or}
use Rattle.order.specs.Lists.{In}
use Rattle.order.specs.Diamond.{TheTwo}
use Rattle.order.proofs.Two.{TheTwo-same}
use Rattle.listing.specs.Listing.{Listing, Limits, count, rank, subs}
use Rattle.valid_incidence.specs.Incidence.{Incident}
use Rattle.valid_incidence.proofs.Below.{sub_there}
use Rattle.valid_diamond.specs.Dyadic.{LiesBetween}
use Rattle.valid.specs.Closed.{Closed}
use Rattle.flag_change.specs.Flags.{IsFlag}
use Rattle.flag_change.specs.Change.{Replaces, HasUnder}

module _ {m : Limits} {L : Listing} (C : Closed m L) (r : ℕ) (t : rank L ≡ r + 1) where
  -- the maximal element is the only one of its rank
  top_only : (i : ℕ) → i < count L (r + 1) → i ≡ 0
  top_only i h = let o = rw t at C.bounded.one_maximal in omega (arith, o)

  -- it has every element of the rank below directly under it
  under_top : (x : ℕ) → x < count L r → In x (subs L (r + 1) 0)
  unfolding Incident
  under_top x h =
      let u = (C.incident r x h).upper in
      let s = u.some (omega arith) in
      let b = u.each s.0 s.1 in
      rw (top_only s.0 b.0) at b.1

  -- and nothing else
  there : (x : ℕ) → In x (subs L (r + 1) 0) → x < count L r
  there x i =
      let o = rw t at C.bounded.one_maximal in
      sub_there L C.incident (r + 1) r 0 x (omega arith) (omega (arith, o)) i

  pub across : {f g : List ℕ} {x y : ℕ} → IsFlag L f → Replaces L f r g x y
      → TheTwo (HasUnder L r (get_or f (r - 1) 0)) x y
  across {f} F R =
      let e : r + 1 - 1 ≡ r = omega arith in
      let z = top_only (get_or f (r + 1) 0) (F.exists (r + 1) (omega (arith, F.one_each, t))) in
      TheTwo-same (LiesBetween L (r + 1) (get_or f (r + 1) 0) (get_or f (r - 1) 0)) (HasUnder L r (get_or f (r - 1) 0))
      (λ w. rw (z, e) (λ p. (there w p.0, p.1))) (λ w. rw (z, e) (λ p. (under_top w p.0, p.1))) R.two
