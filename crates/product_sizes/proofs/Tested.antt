-- The tests of the sizes in their order: the first that fails decides, one law for each.
-- Assumes nothing.
use mathlib.Core.Path.{◌≡◌}
use Prim.Native.Nat.{ℕ, ◌*◌, ◌≤◌, ◌<◌}
use native.Mathlib.Omega.{arith}
use borrow.Author.Tests.{lt-ltb, le-ltb, ltb-false}
use lib.ListN.{length}
use Rattle.listing.specs.Refusals.{product_ranks, product_elements, product_incidences}
use Rattle.listing.specs.Answers.{plain, ◌or_else◌}
use Rattle.listing.specs.Listing.{Listing, Limits}
use Rattle.listing.specs.Shape.{elements}
use Rattle.listing_outputs.specs.declared.outputs.Room.{Room}
use Rattle.listing_outputs.specs.Output.{short_test}
use Rattle.listing.proofs.Answers.{on_or_no}
use Rattle.listing_outputs.proofs.Output.{room_fits}
use Rattle.product_sizes.specs.declared.sizes.Totals.{Totals}
use Rattle.product_sizes.specs.Sizing.{Measures, totals_test, size_test}

module _ (m : Limits) (t : Totals) (o : Room) where
  pub over_ranks : m.ranks < t.ranks → totals_test m t o ≡ plain product_ranks
  unfolding totals_test ◌or_else◌
  over_ranks h = rw (lt-ltb _ _ h)

  module _ (h1 : t.ranks ≤ m.ranks) where
    pub over_elements : m.elements < t.elements → totals_test m t o ≡ plain product_elements
    unfolding totals_test ◌or_else◌
    over_elements h = rw (le-ltb _ _ h1, lt-ltb _ _ h)

    module _ (h2 : t.elements ≤ m.elements) where
      pub over_incidences : m.incidences < t.incidences → totals_test m t o ≡ plain product_incidences
      unfolding totals_test ◌or_else◌
      over_incidences h = rw (le-ltb _ _ h1, le-ltb _ _ h2, lt-ltb _ _ h)

      pub room_decides : t.incidences ≤ m.incidences
          → totals_test m t o ≡ short_test (record { counts = t.ranks; ends = 2 * t.elements; inc = t.incidences }) o
      unfolding totals_test ◌or_else◌
      room_decides h3 = rw (le-ltb _ _ h1, le-ltb _ _ h2, le-ltb _ _ h3)

pub ruleset totals_tests = (over_ranks, over_elements, over_incidences, room_decides)

-- the test of a listing is that of its three numbers
pub listing_tested : (m : Limits) (R : Listing) (t : Totals) (o : Room) → Measures R t
    → totals_test m t o ≡ size_test m R o.counts o.ends o.inc
unfolding totals_test size_test
listing_tested m R t o h = rw (← h.ends, ← h.ranks, ← h.elements, ← h.incidences)

-- ---- what they ask, where none fails

pub record Passed (m : Limits) (R : Listing) (c e i : ℕ) : Type 0 where
  pub few_ranks : length R.counts ≤ m.ranks
  pub few_elements : elements R ≤ m.elements
  pub few_incidences : length R.inc ≤ m.incidences
  pub room_counts : length R.counts ≤ c
  pub room_ends : length R.ends ≤ e
  pub room_inc : length R.inc ≤ i

pub sizes_passed : (m : Limits) (R : Listing) (c e i : ℕ) → (size_test m R c e i).no ≡ 0 → Passed m R c e i
unfolding size_test
sizes_passed m R c e i z =
    let p1 = on_or_no _ (plain product_ranks) _ (λ w. omega arith) z in
    let p2 = on_or_no _ (plain product_elements) _ (λ w. omega arith) p1.1 in
    let p3 = on_or_no _ (plain product_incidences) _ (λ w. omega arith) p2.1 in
    let p4 = room_fits R c e i p3.1 in
    record {
      few_ranks = ltb-false _ _ p1.0;
      few_elements = ltb-false _ _ p2.0;
      few_incidences = ltb-false _ _ p3.0;
      room_counts = p4.0;
      room_ends = p4.1;
      room_inc = p4.2;
    }
