-- Laws of the elements before a rank, of where a list begins, and of elements that are there.
-- Assumes nothing.
use mathlib.Core.Path.{◌≡◌, refl}
use mathlib.Core.List.{List, ◌∷◌}
use Prim.Native.Nat.{ℕ, zero, suc, ◌+◌, ◌-◌, ◌≤◌, ◌<◌}
use native.Mathlib.Numerals.{add-one}
use native.Mathlib.Decide.{dec_lt}
use native.Mathlib.Omega.{arith}
use lib.ListN.{length, get_or, get_or-eq_default}
use Rattle.order.specs.Sums.{sum}
use Rattle.order.proofs.Sums.{sum_le}
use Rattle.listing.specs.Listing.{Listing, count, before, start}

-- ---- the elements before a rank

pub before_zero : (counts : List ℕ) → before counts 0 ≡ 0
unfolding before sum
before_zero counts = refl

pub before_next : (counts : List ℕ) (r : ℕ) → before counts (r + 1) ≡ before counts r + get_or counts r 0
unfolding before sum
before_next counts r = rw add-one

pub before_last : (counts : List ℕ) (r : ℕ) → before counts r ≡ before counts (r - 1) + get_or (0 ∷ counts) r 0
unfolding before sum
before_last counts zero = refl
before_last counts (suc r) =
    let e : suc r - 1 ≡ r = omega arith in
    rw e

pub before_le : (counts : List ℕ) (q r : ℕ) → q ≤ r → before counts q ≤ before counts r
unfolding before
before_le counts q r h = sum_le _ q r h

-- past the last rank nothing is added
pub before_all : (counts : List ℕ) (r : ℕ) → before counts r ≤ before counts (length counts)
unfolding before sum
before_all counts zero = omega arith
before_all counts (suc r) = go (before_all counts r) (dec_lt r (length counts))
  where
    go : before counts r ≤ before counts (length counts) → Dec (r < length counts)
        → before counts (suc r) ≤ before counts (length counts)
    go ih (yes l) = before_le counts (suc r) (length counts) l
    go ih (no l) = omega (arith, get_or-eq_default counts 0 {n = r} (omega arith))

-- a rank begins where the one below it ends
pub before_step : (counts : List ℕ) (r : ℕ) → 0 < r → before counts r ≡ before counts (r - 1) + get_or counts (r - 1) 0
before_step counts r h =
    let e : r - 1 + 1 ≡ r = omega arith in
    rw e at (before_next counts (r - 1))

-- where a rank begins, from where the one below it begins and how many that one has
pub before_on : (counts : List ℕ) (r b n : ℕ) → 0 < r → b ≡ before counts (r - 1) → n ≡ get_or counts (r - 1) 0
    → b + n ≡ before counts r
before_on counts r b n h e k = omega (arith, before_step counts r h)

-- a rank has no more elements than all have
pub count_le : (counts : List ℕ) (r : ℕ) → get_or counts r 0 ≤ before counts (length counts)
count_le counts r = omega (arith, before_next counts r, before_all counts (r + 1))

-- ---- where a list begins

-- the end before it; also the count of the rank below
pub start_more : (ends : List ℕ) {k : ℕ} → (k ≡ 0 → ⊥) → start ends k ≡ get_or ends (k - 1) 0
start_more ends {k = zero} h = absurd (h refl)
start_more ends {k = suc k} h =
    let e : suc k - 1 ≡ k = omega arith in
    rw e

-- ---- an element of a rank that is there

pub some_rank : (counts : List ℕ) (r i : ℕ) → i < get_or counts r 0 → r < length counts
some_rank counts r i h = go (dec_lt r (length counts))
  where
    go : Dec (r < length counts) → r < length counts
    go (yes l) = l
    go (no l) = absurd (omega (arith, get_or-eq_default counts 0 {n = r} (omega arith)))

pub rank_there : (L : Listing) (r i : ℕ) → i < count L r → r < length L.counts
rank_there L r i h = some_rank L.counts r i h

-- its number is below the number of all elements, and so is the number of those of its rank
pub before_lt : (counts : List ℕ) (r i : ℕ) → i < get_or counts r 0
    → before counts r + i < before counts (length counts)
before_lt counts r i h = omega (arith, before_next counts r, before_all counts (r + 1))
