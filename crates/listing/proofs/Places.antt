-- Where the lists of an element stand in a shaped listing, and how many elements there can be.
-- Assumes nothing.
use mathlib.Core.Path.{◌≡◌, ap}
use Prim.Native.Nat.{ℕ, zero, suc, ◌+◌, ◌*◌, ◌≤◌, ◌<◌}
use native.Mathlib.Omega.{arith}
use lib.ListN.{length}
use Rattle.listing.specs.Listing.{Listing, Limits, count, before, entries, side}
use Rattle.listing.specs.Shape.{Shaped}
use Rattle.listing.proofs.Listing.{before_next, before_all, count_le}

-- what holds at both sides holds at each
pub at_sides : (P : ℕ → Type 0) → P 0 → P 1 → (s : ℕ) → s < 2 → P s
at_sides P p q zero h = p
at_sides P p q (suc zero) h = q
at_sides P p q (suc (suc s)) h = absurd (omega arith)

module _ {m : Limits} (L : Listing) (S : Shaped m L) (r : ℕ) where
  -- a whole rank
  pub rank_fits : 2 * (before L.counts r + count L r) ≤ length L.ends
  rank_fits = omega (arith, before_next L.counts r, before_all L.counts (r + 1), S.two_ends_each)

  -- the lists of an element
  pub side_fits : (i s : ℕ) → i < count L r → s < 2 → 2 * (before L.counts r + i) + s < length L.ends
  side_fits i s h k = omega (arith, rank_fits)

  -- the elements before a rank are within the limit
  pub few_before : before L.counts r ≤ m.elements
  few_before = omega (arith, before_all L.counts r, S.few_elements)

  pub few_in_rank : count L r ≤ m.elements
  few_in_rank = omega (arith, count_le L.counts r, S.few_elements)

-- an element's list, found from where its rank begins
pub side_at : (L : Listing) (here r i s : ℕ) → here ≡ before L.counts r
    → entries L.ends L.inc (2 * (here + i) + s) ≡ side L s r i
side_at L here r i s e = ap (λ (p : ℕ). entries L.ends L.inc (2 * (p + i) + s)) e
