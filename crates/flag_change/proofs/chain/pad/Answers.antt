-- `pad`. The flag stands at the front, and behind it what is left of the 0s.
-- Assumes nothing.
use Prim.Native.Nat.{ℕ}
use lib.ListN.{length}
use Rattle.std.proofs.lemmas.List.{drop-replicate}
use Rattle.listing.specs.Listing.{limits}
use Rattle.flag_change.specs.Change.{padded}
use Rattle.flag_change.proofs.chain.pad.Goals as goal

pub returns : goal.returns
unfolding padded
returns c = rw (c.copy_from_slice.ensures.after, ← drop-replicate {X = ℕ} (length c.args.flag.now) limits.ranks 0)
