-- A flag in room for the most ranks: its length, its numbers, and changed at a place.
-- Assumes nothing.
use mathlib.Core.Path.{◌≡◌}
use mathlib.Core.List.{List}
use Prim.Native.Nat.{ℕ, ◌-◌, ◌≤◌, ◌<◌}
use native.Mathlib.Omega.{arith}
use lib.ListN.{length, get_or, take, set, replicate, length-append, length-replicate, length-set, get_or-append}
use lib.Seq.{take_at, set-append_left}
use Rattle.listing.specs.Listing.{limits}
use Rattle.flag_change.specs.Change.{padded}

module _ (f : List ℕ) where
  pub padded_length : length f ≤ limits.ranks → length (padded f) ≡ limits.ranks
  unfolding padded
  padded_length h =
      let n = limits.ranks - length f in
      omega (arith, length-append f (replicate n 0), length-replicate {A = ℕ} n 0)

  pub padded_set : (r x : ℕ) → r < length f → set (padded f) r x ≡ padded (set f r x)
  unfolding padded
  padded_set r x h = rw (length-set f r x) (set-append_left f (replicate (limits.ranks - length f) 0) r x h)

  pub padded_at : (r : ℕ) → r < length f → get_or (padded f) r 0 ≡ get_or f r 0
  unfolding padded
  padded_at r h = get_or-append f (replicate (limits.ranks - length f) 0) 0 r h

  pub padded_first : (n : ℕ) → length f ≡ n → take n (padded f) ≡ f
  unfolding padded
  padded_first n e = take_at f (replicate (limits.ranks - length f) 0) n e
