-- A change answers the number of the first rule that is broken.
-- Assumes nothing.
use mathlib.Core.Bool.{◌&&◌}
use mathlib.Core.List.{List}
use Prim.Native.Nat.{ℕ}
use native.Mathlib.Omega.{arith}
use borrow.Author.Tests.{lt-ltb, ltb-true}
use lib.Dec.{ltb}
use Rattle.order.proofs.Tests.{and_true}
use Rattle.listing.specs.Listing.{Listing, Limits, rank}
use Rattle.listing.specs.Rules.{FirstBroken}
use Rattle.listing.proofs.Broken.{broken_last, tests_not}
use Rattle.flag_change.proofs.StartBroken.{start_then}
use Rattle.flag.specs.Changed.{change_test}
use Rattle.flag.specs.Rules.{change_rules}

module _ (m : Limits) (L : Listing) (f : List ℕ) where
  pub change_broken : (r : ℕ) → FirstBroken (change_rules m L f r) (change_test m L f r).no
  unfolding change_test
  change_broken r =
      start_then m L f _ _ (λ C F. broken_last (tests_not (ltb 0 r && ltb r (rank L)) 21 (omega arith)
      (λ e. let p = and_true _ _ e in (ltb-true _ _ p.0, ltb-true _ _ p.1))
      (λ h. rw (lt-ltb 0 r h.0, lt-ltb r (rank L) h.1))))
