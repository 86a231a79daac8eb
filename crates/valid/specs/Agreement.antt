-- Listings whose subs tell all: what the quick look finds where it says yes.
--
-- Agrees         nothing lies under the one element of rank 0; above it each element has subs, which ascend and exist
--                one rank lower; below the top each has sups; and the sups of each are those derived from the subs
-- Cursors        there are cursors and ends for n elements from a place on
-- AscendsBelow   a list ascends, and all that stands in it is below n
-- AllBelow       so do the first m of some lists, and none of them is empty
-- AgreesAt       what Agrees asks of the elements of a rank and of the subs of the rank above it
-- Met            the cursors of n elements have gone from `next` to `next'`, each along its numbers `so s`
-- AllMet         the cursors of n elements from a place on have come to the end of their sups
-- SomeSups       none of n elements from a place on is without sups
use Rattle.std.specs.Prelude.{◌≡◌, List, [], ℕ, suc, ◌+◌, ◌*◌, ◌≤◌, ◌<◌, length, get_or}
use Rattle.order.specs.Lists.{In, Ascending}
use Rattle.listing.specs.Listing.{Listing, limits, rank, count, subs, sups}
use Rattle.listing.specs.Layers.{layers, derived}

pub record Agrees (L : Listing) : Type 0 where
  pub lowest : (i : ℕ) → i < count L 0 → subs L 0 i ≡ []
  pub there : (r i x : ℕ) → i < count L (suc r) → In x (subs L (suc r) i) → x < count L r
  pub ascending : (r i : ℕ) → i < count L (suc r) → Ascending (subs L (suc r) i)
  pub some_subs : (r i : ℕ) → i < count L (suc r) → 0 < length (subs L (suc r) i)
  pub some_sups : (r i : ℕ) → r < rank L → i < count L r → 0 < length (sups L r i)
  pub derived_sups : (r i : ℕ) → i < count L r → sups L r i ≡ derived (layers L) r i

pub record Cursors (ends : List ℕ) (place n : ℕ) (next : List ℕ) : Type 0 where
  pub whole : length next ≡ limits.elements
  pub few : n ≤ limits.elements
  pub listed : 2 * (place + n) ≤ length ends

pub record AscendsBelow (n : ℕ) (l : List ℕ) : Type 0 where
  pub ascending : Ascending l
  pub there : (x : ℕ) → In x l → x < n

abbrev pub AllBelow : ℕ → (ℕ → List ℕ) → ℕ → Type 0
AllBelow n f m = (k : ℕ) → k < m → (0 < length (f k)) × AscendsBelow n (f k)

pub record AgreesAt (L : Listing) (r : ℕ) : Type 0 where
  pub all_below : AllBelow (count L r) (λ i. subs L (suc r) i) (count L (suc r))
  pub some_sups : (i : ℕ) → r < rank L → i < count L r → 0 < length (sups L r i)
  pub derived_sups : (i : ℕ) → i < count L r → sups L r i ≡ derived (layers L) r i

pub record Met (inc : List ℕ) (n : ℕ) (so : ℕ → List ℕ) (next next' : List ℕ) : Type 0 where
  pub same_length : length next' ≡ length next
  pub moved : (s : ℕ) → s < n → get_or next' s 0 ≡ get_or next s 0 + length (so s)
  pub stand : (s j : ℕ) → s < n → j < length (so s) → get_or inc (get_or next s 0 + j) 0 ≡ get_or (so s) j 0

abbrev pub AllMet : List ℕ → ℕ → ℕ → List ℕ → Type 0
AllMet ends place n next = (s : ℕ) → s < n → get_or next s 0 ≡ get_or ends (2 * (place + s) + 1) 0

abbrev pub SomeSups : List ℕ → ℕ → ℕ → Type 0
SomeSups ends place n =
    (s : ℕ) → s < n → get_or ends (2 * (place + s)) 0 ≡ get_or ends (2 * (place + s) + 1) 0 → ⊥
