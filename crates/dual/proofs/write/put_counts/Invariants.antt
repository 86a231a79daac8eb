-- `put_counts`. Invariant: the counts that are no longer left are written, the last first, and no other number has
-- changed.
-- Assumes nothing.
use mathlib.Core.Path.{◌≡◌}
use Prim.Native.Nat.{◌+◌, ◌-◌}
use lib.ListN.{length, get_or}
use Rattle.listing.specs.Laid.{Laid}
use Rattle.dual.proofs.Backward.{FirstLeft, left_of}
use Rattle.dual.proofs.write.put_counts.Given as goal

abbrev pub invariant-loop-place : goal.invariant-loop-place
invariant-loop-place l =
    let left = l.place-iterator.iter.iter in
    let place = l.place-iterator.count in
    FirstLeft l.pcounts left × (place + left_of left ≡ length l.pcounts)
    × Laid 0 (λ k. get_or l.pcounts (length l.pcounts - 1 - k) 0) place l.initial.counts l.counts
