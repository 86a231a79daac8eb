-- The tests before a change or a search are exact.
-- Assumes nothing.
use mathlib.Core.Path.{◌≡◌, ap}
use mathlib.Core.Bool.{not}
use mathlib.Core.List.{List}
use mathlib.Core.Logic.{◌↔◌}
use Prim.Native.Nat.{ℕ}
use native.Mathlib.Omega.{arith}
use borrow.Author.Tests.{not-false}
use Rattle.listing.specs.Refusals.{not_a_flag}
use Rattle.listing.specs.Answers.{plain}
use Rattle.listing.specs.Listing.{Listing, Limits}
use Rattle.listing.proofs.Answers.{or_no, no_or, on_no, on_off}
use Rattle.valid.specs.Closed.{Closed}
use Rattle.valid.specs.Tests.{closed}
use Rattle.valid.proofs.ClosedExact.{closed_exact}
use Rattle.flag_change.specs.Flags.{flag_test, start_test, IsFlag}
use Rattle.flag_change.proofs.FlagExact.{flag_exact}

module _ (m : Limits) (L : Listing) (f : List ℕ) where
  -- The tests before a change or a search answer 0 exactly if the listing is closed and the numbers are a flag of it.
  pub start_exact : (start_test m L f).no ≡ 0 ↔ (Closed m L × IsFlag L f)
  unfolding start_test
  start_exact = (there, back)
    where
      there : (start_test m L f).no ≡ 0 → Closed m L × IsFlag L f
      there e =
          let p = or_no (closed m L) _ e in
          let t = on_no (not (flag_test L f)) (plain not_a_flag) (λ z. omega arith) p.1 in
          ((closed_exact m L).0 p.0, (flag_exact L f).0 (not-false _ t))

      back : Closed m L × IsFlag L f → (start_test m L f).no ≡ 0
      back h =
          no_or (closed m L) _ ((closed_exact m L).1 h.0)
          (on_off (not (flag_test L f)) (plain not_a_flag) (ap not ((flag_exact L f).1 h.1)))
