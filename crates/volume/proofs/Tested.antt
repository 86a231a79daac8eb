-- What is refused after a search that was answered: one law for each way through the tests.
-- Assumes nothing.
use mathlib.Core.Path.{◌≡◌, refl}
use mathlib.Core.Bool.{true, false}
use mathlib.Core.List.{List}
use Prim.Native.Nat.{ℕ, ◌-◌, ◌*◌}
use native.Mathlib.Omega.{arith}
use borrow.Author.Tests.{eq-eqb, ne_eqb}
use lib.ListN.{length, get_or}
use lib.Ieee.{Float, binary64, of_bits}
use Rattle.listing.specs.declared.Answer.{Answer}
use Rattle.listing.specs.declared.Refusal.{Refusal}
use Rattle.listing.specs.Refusals.{not_rank_four, not_orientable, wrong_coordinates, not_in_metres}
use Rattle.listing.specs.Answers.{plain, fine, ◌or_else◌}
use Rattle.listing.specs.Told.{answer_of}
use Rattle.search.specs.SearchedBy.{found_as}
use Rattle.search_masks.specs.Masks.{every_rank}
use Rattle.volume_metres.specs.Whole.{all_coordinates}
use Rattle.volume_metres.proofs.Running.{zero_literal}
use Rattle.volume_theory.specs.Six.{cell_rank}
use Rattle.volume.specs.Volumes.{unmeasured, volume_test}

module _ (counts : List ℕ) (xs : List Float) (count place : ℕ) where
  pub other_rank : (length counts ≡ 5 → ⊥)
      → volume_test counts xs (found_as fine count place) ≡ plain not_rank_four
  unfolding volume_test ◌or_else◌
  other_rank h = rw (ne_eqb (length counts - 1) cell_rank (λ e. h (omega arith)))

  module _ (r : length counts ≡ 5) where
    rank_is : length counts - 1 ≡ cell_rank
    rank_is = omega (arith, r)

    pub one_sided : (place ≡ 0 → ⊥) → volume_test counts xs (found_as fine count place) ≡ plain not_orientable
    unfolding volume_test ◌or_else◌
    one_sided h = rw (eq-eqb (length counts - 1) cell_rank rank_is, ne_eqb place 0 h)

    module _ (o : place ≡ 0) where
      pub other_count : (length xs ≡ 3 * get_or counts 1 0 → ⊥)
          → volume_test counts xs (found_as fine count place) ≡ plain wrong_coordinates
      unfolding volume_test ◌or_else◌
      other_count h =
          rw (eq-eqb (length counts - 1) cell_rank rank_is, o, ne_eqb (length xs) (3 * get_or counts 1 0) h)

      module _ (t : length xs ≡ 3 * get_or counts 1 0) where
        pub no_metres : all_coordinates xs ≡ false
            → volume_test counts xs (found_as fine count place) ≡ plain not_in_metres
        unfolding volume_test ◌or_else◌
        no_metres h =
            rw (eq-eqb (length counts - 1) cell_rank rank_is, o, eq-eqb (length xs) (3 * get_or counts 1 0) t, h)

        pub in_metres : all_coordinates xs ≡ true → volume_test counts xs (found_as fine count place) ≡ fine
        unfolding volume_test ◌or_else◌
        in_metres h =
            rw (eq-eqb (length counts - 1) cell_rank rank_is, o, eq-eqb (length xs) (3 * get_or counts 1 0) t, h)

pub no_mask : (ranks : ℕ) → ranks ≡ 0 → 0 ≡ every_rank (ranks - 1)
no_mask ranks e = rw e

-- the zero beside a refusal
pub zero_beside : (a : Answer) (d : Refusal) → a ≡ answer_of d
    → record { no = a.no; six = of_bits binary64 0 } ≡ unmeasured (answer_of d).no
zero_beside a d e = rw (e, zero_literal) refl

pub ruleset crossing = (zero_beside)

pub ruleset masks = (no_mask)

pub ruleset tested = (other_rank, one_sided, other_count, no_metres, in_metres)
