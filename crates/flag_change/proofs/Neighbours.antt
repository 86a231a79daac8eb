-- The two lists that a change looks through: the sups of the flag's element one rank lower, and the subs of the one one
-- rank higher. Both are there, and they ascend.
-- Assumes nothing.
use mathlib.Core.Path.{◌≡◌}
use mathlib.Core.List.{List}
use Prim.Native.Nat.{ℕ, ◌+◌, ◌-◌, ◌*◌, ◌<◌}
use native.Mathlib.Omega.{arith}
use lib.ListN.{length, get_or}
use Rattle.order.specs.Lists.{Ascending}
use Rattle.listing.specs.declared.Slices.{Slices}
use Rattle.listing.specs.Listing.{Ends, held, limits, before, entries}
use Rattle.listing.specs.Shape.{Shaped}
use Rattle.listing.proofs.Places.{side_at}
use Rattle.listing.proofs.InCell.{ends_are, side_there}
use Rattle.valid.specs.Ascent.{Ascends}
use Rattle.flag_change.specs.Change.{common, other, between, replaced_at, Flanked}

module _ (s : Slices) (S : Shaped limits (held s)) (A : Ascends (held s)) where
  pub lists_end : Ends s.ends.now s.inc.now
  lists_end = ends_are s S

  module _ (f : List ℕ) (r : ℕ) (near : Flanked (held s) f r) where
    module _ (low : ℕ) (e : low ≡ before s.counts.now (r - 1)) where
      pub below_there : 2 * (low + get_or f (r - 1) 0) + 1 < length s.ends.now
      below_there = side_there s S (r - 1) low _ 1 e near.lower (omega arith)

      pub below_ascends : Ascending (entries s.ends.now s.inc.now (2 * (low + get_or f (r - 1) 0) + 1))
      unfolding Ascends
      below_ascends = rw (side_at (held s) low (r - 1) _ 1 e) (A _ _ near.lower 1 (omega arith))

    module _ (high : ℕ) (e : high ≡ before s.counts.now (r + 1)) where
      pub above_there : 2 * (high + get_or f (r + 1) 0) + 0 < length s.ends.now
      above_there = side_there s S (r + 1) high _ 0 e near.upper (omega arith)

      pub above_ascends : Ascending (entries s.ends.now s.inc.now (2 * (high + get_or f (r + 1) 0) + 0))
      unfolding Ascends
      above_ascends = rw (side_at (held s) high (r + 1) _ 0 e) (A _ _ near.upper 0 (omega arith))

-- what is put in is the other of what the two lists share
module _ (s : Slices) (f : List ℕ) (r low high : ℕ) (e : low ≡ before s.counts.now (r - 1))
    (d : high ≡ before s.counts.now (r + 1)) (below above : List ℕ)
    (b : below ≡ entries s.ends.now s.inc.now (2 * (low + get_or f (r - 1) 0) + 1))
    (a : above ≡ entries s.ends.now s.inc.now (2 * (high + get_or f (r + 1) 0) + 0)) where
  pub replaced_by : (put : ℕ) → put ≡ other (get_or f r 0) (common below above)
      → record { taken = get_or f r 0; put = put } ≡ replaced_at (held s) r f
  unfolding replaced_at between
  replaced_by put h =
      let k = rw (b, a, side_at (held s) low (r - 1) _ 1 e, side_at (held s) high (r + 1) _ 0 d) at h in
      λ i. record { taken = get_or f r 0; put = k i }

pub ruleset neighbours = (lists_end, below_there, below_ascends, above_there, above_ascends, replaced_by)
