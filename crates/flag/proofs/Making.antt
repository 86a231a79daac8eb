-- What making a change of a flag of a closed cell asks, and what it makes.
-- Assumes nothing.
use mathlib.Core.Path.{◌≡◌}
use mathlib.Core.List.{List}
use Prim.Native.Nat.{ℕ, ◌+◌, ◌-◌, ◌≤◌, ◌<◌}
use native.Mathlib.Omega.{arith}
use lib.ListN.{length, set}
use Rattle.listing.specs.declared.Slices.{Slices}
use Rattle.listing.specs.Answers.{fine}
use Rattle.listing.specs.Listing.{width, held, limits, rank}
use Rattle.valid.specs.Tests.{closed}
use Rattle.valid.proofs.InClosed.{shaped}
use Rattle.flag_change.specs.declared.chain.Replaced.{Replaced}
use Rattle.flag_change.specs.Flags.{IsFlag}
use Rattle.flag_change.specs.Change.{replaced_at, change_at, padded, Flanked}
use Rattle.flag_change.proofs.Padding.{padded_set}
use Rattle.flag_change.proofs.Replaced.{flag_flanked}
use Rattle.flag.specs.Changed.{changed_as}

module _ (s : Slices) (r : ℕ) (h : r < rank (held s)) where
  module _ (C : (closed limits (held s)).no ≡ 0) where
    pub rank_below : r - 1 < width
    rank_below = omega (arith, shaped s C)

    pub rank_above : r + 1 < width
    rank_above = omega (arith, shaped s C)

    pub in_room : r < limits.ranks
    in_room = omega (arith, shaped s C)

    pub flag_fits : (f : List ℕ) → IsFlag (held s) f → length f ≤ limits.ranks
    flag_fits f F = omega (arith, shaped s C, F.one_each)

  module _ (f : List ℕ) (F : IsFlag (held s) f) where
    pub flanked : 0 < r → Flanked (held s) f r
    flanked p = flag_flanked (held s) f r p h F

    pub made_as : (new : List ℕ) → new ≡ padded f → (p : Replaced) → p ≡ replaced_at (held s) r f
        → record { answer = fine; flag = set new r p.put; taken = p.taken; put = p.put } ≡ changed_as fine (held s) f r
    unfolding changed_as change_at
    made_as new e p d =
        let k = padded_set f r (replaced_at (held s) r f).put (omega (arith, F.one_each)) in
        rw (e, d) (λ i. record {
          answer = fine;
          flag = k i;
          taken = (replaced_at (held s) r f).taken;
          put = (replaced_at (held s) r f).put;
        })

pub ruleset making = (rank_below, rank_above, in_room, flag_fits, flanked, made_as)
