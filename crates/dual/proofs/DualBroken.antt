-- A dual answers the number of the first rule that is broken; where none is, the listing is closed and there is room.
-- Assumes nothing.
use mathlib.Core.Path.{◌≡◌, refl, sym, ap, ◌∙◌}
use Prim.Native.Nat.{ℕ}
use native.Mathlib.Omega.{arith}
use Rattle.listing.specs.declared.Answer.{Answer}
use Rattle.listing.specs.Listing.{Listing, Limits, limits}
use Rattle.listing.specs.Shape.{Shaped}
use Rattle.listing.specs.Rules.{FirstBroken}
use Rattle.listing.specs.Answers.{fine}
use Rattle.listing.proofs.Answers.{or_no, no_of}
use Rattle.listing.proofs.Told.{then_ok}
use Rattle.listing.proofs.Broken.{broken_last}
use Rattle.listing_outputs.specs.declared.outputs.Room.{Room}
use Rattle.listing_outputs.specs.Output.{Fits, need_of, short_test}
use Rattle.listing_outputs.proofs.Output.{room_tested, room_fits}
use Rattle.valid.specs.Tests.{closed}
use Rattle.valid.specs.Closed.{Closed}
use Rattle.valid.proofs.ClosedExact.{closed_exact}
use Rattle.valid.proofs.TestsBroken.{closed_then}
use Rattle.dual_theory.specs.Dual.{dual_of}
use Rattle.dual_theory.proofs.DualLists.{dual_counts_length, dual_ends_length, dual_inc_length}
use Rattle.dual.specs.Duals.{dual_test}
use Rattle.dual.specs.Rules.{dual_rules}

module _ (m : Limits) (L : Listing) (c e i : ℕ) where
  pub dual_broken : FirstBroken (dual_rules m L c e i) (dual_test m L c e i).no
  unfolding dual_test
  dual_broken = closed_then m L _ _ (λ C. broken_last (room_tested (dual_of L) c e i))

  pub dual_passed : (dual_test m L c e i).no ≡ 0 → Closed m L × Fits (dual_of L) c e i
  unfolding dual_test
  dual_passed z =
      let p = or_no (closed m L) _ z in
      ((closed_exact m L).0 p.0, room_fits (dual_of L) c e i p.1)

-- ---- what the code has in hand

module _ (L : Listing) (S : Shaped limits L) where
  -- the dual takes as much room as the listing
  pub same_need : need_of L ≡ need_of (dual_of L)
  same_need =
      let n = dual_counts_length L S in
      let e = dual_ends_length L S in
      let i = dual_inc_length L S in
      λ u. record { counts = sym n u; ends = sym e u; inc = sym i u }

-- the shape, once `closed` lets the listing pass
pub passed_shaped : (L : Listing) → fine ≡ closed limits L → Shaped limits L
passed_shaped L e = ((closed_exact limits L).0 (no_of e refl)).shaped

-- with that, the room test is what is answered
module _ (L : Listing) (t : Answer) (room : Room) (ec : fine ≡ closed limits L)
    (et : t ≡ short_test (need_of L) room) where
  pub room_answered : t ≡ dual_test limits L room.counts room.ends room.inc
  unfolding dual_test
  room_answered =
      then_ok _ ec t (et ∙ ap (λ (n : Room). short_test n room) (same_need L (passed_shaped L ec)))

  -- and where it lets it pass, the listing itself would fit
  pub room_there : t.no ≡ 0 → Fits L room.counts room.ends room.inc
  room_there z =
      let f = (dual_passed limits L _ _ _ (no_of room_answered z)).1 in
      let S = passed_shaped L ec in (
        omega (arith, f.0, dual_counts_length L S),
        omega (arith, f.1, dual_ends_length L S),
        omega (arith, f.2, dual_inc_length L S),
      )
