-- What a change and a search ask first answers the number of the first rule that is broken, and so does what comes
-- after it.
-- Assumes nothing.
use mathlib.Core.List.{List, ◌∷◌, ◌++◌}
use Prim.Native.Nat.{ℕ}
use native.Mathlib.Omega.{arith}
use Rattle.listing.specs.declared.Answer.{Answer}
use Rattle.listing.specs.Answers.{◌or_else◌}
use Rattle.listing.specs.Listing.{Listing, Limits}
use Rattle.listing.specs.Rules.{Rule, FirstBroken}
use Rattle.listing.proofs.Answers.{or_assoc}
use Rattle.listing.proofs.Broken.{broken_step, tests_not}
use Rattle.valid.specs.Closed.{Closed}
use Rattle.valid.specs.Tests.{closed}
use Rattle.valid.specs.Rules.{closed_rules}
use Rattle.valid.proofs.TestsBroken.{closed_then}
use Rattle.flag_change.specs.Flags.{flag_test, start_test, IsFlag}
use Rattle.flag_change.specs.Rules.{flag_rule}
use Rattle.flag_change.proofs.FlagExact.{flag_exact}

module _ (m : Limits) (L : Listing) (f : List ℕ) where
  pub start_then : (l : List Rule) (y : Answer) → (Closed m L → IsFlag L f → FirstBroken l y.no)
      → FirstBroken (closed_rules m L ++ flag_rule L f ∷ l) (start_test m L f or_else y).no
  unfolding start_test
  start_then l y r =
      rw (← or_assoc (closed m L) _ y)
      (closed_then m L _ _ (λ C. broken_step l
      (tests_not (flag_test L f) 20 (omega arith) (flag_exact L f).0 (flag_exact L f).1) y (r C)))
