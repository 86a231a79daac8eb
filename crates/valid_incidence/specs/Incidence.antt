-- Test 2: incidences.
--
-- element_test      one element: 11, its subs in order (15, 13), 12, its sups in order (16, 14)
-- incidences_test   all elements, by rank and then index
-- SubBack           x, as a sub of element i of rank r, exists one rank lower and lists the element back
-- SupBack           x, as a sup of element i of rank r, exists one rank higher and lists the element back
-- LowerAt           an element has subs if it is above rank 0, and each exists and lists it back
-- UpperAt           an element has sups if it is below the top, and each exists and lists it back
-- IncidentAt        both: what test 2 asks of an element
-- Incident          the book's rule: all of it, of every element
use Rattle.std.specs.Prelude.{ℕ, ◌+◌, ◌-◌, ◌<◌, length}
use Rattle.order.specs.Lists.{In}
use Rattle.listing.specs.declared.Answer.{Answer}
use Rattle.listing.specs.Answers.{◌or_else◌, first_of}
use Rattle.listing.specs.Listing.{Listing, rank, count, subs, sups}
use Rattle.valid_incidence.specs.Ways.{down, up, list_test}

unfoldable pub element_test : Listing → ℕ → ℕ → Answer
element_test L r i =
    list_test L.ends L.inc (down L r) r i (subs L r i) or_else
    list_test L.ends L.inc (up L r) r i (sups L r i)

unfoldable pub incidences_test : Listing → Answer
incidences_test L = first_of (λ r. first_of (element_test L r) 0 (count L r)) 0 (length L.counts)

abbrev pub SubBack : Listing → ℕ → ℕ → ℕ → Type 0
SubBack L r i x = (0 < r) × (x < count L (r - 1)) × In i (sups L (r - 1) x)

abbrev pub SupBack : Listing → ℕ → ℕ → ℕ → Type 0
SupBack L r i x = (x < count L (r + 1)) × In i (subs L (r + 1) x)

pub record LowerAt (L : Listing) (r i : ℕ) : Type 0 where
  pub some : 0 < r → (x : ℕ) × In x (subs L r i)
  pub each : (x : ℕ) → In x (subs L r i) → SubBack L r i x

pub record UpperAt (L : Listing) (r i : ℕ) : Type 0 where
  pub some : r < rank L → (x : ℕ) × In x (sups L r i)
  pub each : (x : ℕ) → In x (sups L r i) → SupBack L r i x

pub record IncidentAt (L : Listing) (r i : ℕ) : Type 0 where
  pub lower : LowerAt L r i
  pub upper : UpperAt L r i

unfoldable pub Incident : Listing → Type 0
Incident L = (r i : ℕ) → i < count L r → IncidentAt L r i
