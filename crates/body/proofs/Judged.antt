-- What is refused after the search, in each of its cases, and what is answered then; and that a count that stops at one
-- more than there can be room for gives the same refusal as the whole count.
-- Assumes nothing.
use mathlib.Core.Path.{◌≡◌, refl, sym, ap, ◌∙◌}
use Prim.Native.Nat.{ℕ, ◌≤◌, ◌<◌}
use native.Mathlib.Decide.{dec_lt}
use native.Mathlib.Omega.{arith}
use borrow.Author.Tests.{lt-ltb, le-ltb}
use lib.Dec.{ltb}
use Rattle.listing.specs.Refusals.{more_flags, several_parts}
use Rattle.listing.specs.Answers.{plain, fine}
use Rattle.listing.specs.Listing.{limits}
use Rattle.listing.proofs.Answers.{or_fine, or_stop}
use Rattle.search.specs.SearchedBy.{refused_as, found_as, searched_as}
use Rattle.body_count.specs.Capped.{capped}
use Rattle.body.specs.Body.{parts_test, judged_as}

module _ (room found all : ℕ) where
  pub parts_more : room < all → parts_test room found all ≡ plain more_flags
  unfolding parts_test
  parts_more h = rw (lt-ltb room all h) (or_stop (plain more_flags) _ (λ e. omega arith))

  pub parts_several : all ≤ room → found < all → parts_test room found all ≡ plain several_parts
  unfolding parts_test
  parts_several h k = rw (le-ltb room all h, lt-ltb found all k) (or_fine fine (plain several_parts) refl)

  pub parts_fine : all ≤ room → all ≤ found → parts_test room found all ≡ fine
  unfolding parts_test
  parts_fine h k = rw (le-ltb room all h, le-ltb found all k) (or_fine fine fine refl)

  -- What is answered goes by what is refused.
  module _ (place : ℕ) where
    pub judged_more : room < all → refused_as (plain more_flags) ≡ judged_as room all found place
    judged_more h = sym (ap (λ t. searched_as t found place) (parts_more h))

    pub judged_several : all ≤ room → found < all → refused_as (plain several_parts) ≡ judged_as room all found place
    judged_several h k = sym (ap (λ t. searched_as t found place) (parts_several h k))

    pub judged_fine : all ≤ room → all ≤ found → found_as fine found place ≡ judged_as room all found place
    judged_fine h k = sym (ap (λ t. searched_as t found place) (parts_fine h k))

pub ruleset judging = (judged_more, judged_several, judged_fine)

-- a number that no search has more than is compared with what stops after it as with the whole
ltb_capped : (k n : ℕ) → k ≤ limits.flags → ltb k (capped n) ≡ ltb k n
ltb_capped k n h = go (dec_lt k n)
  where
    go : Dec (k < n) → ltb k (capped n) ≡ ltb k n
    go (yes l) = lt-ltb k (capped n) (omega arith) ∙ sym (lt-ltb k n l)
    go (no l) = le-ltb k (capped n) (omega arith) ∙ sym (le-ltb k n (omega arith))

-- Room and what was found are compared with the count that stops as with the whole.
pub capped_test : (room found all : ℕ) → room ≤ limits.flags → found ≤ limits.flags
    → parts_test room found (capped all) ≡ parts_test room found all
unfolding parts_test
capped_test room found all h k = rw (ltb_capped room all h, ltb_capped found all k)
