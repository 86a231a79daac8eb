-- Refusals in their order, each with the rule whose breach it says: how an entry states "these refusals, then those".
--
-- Rule          what must hold, and the numbers, from low to high, that say that it does not
-- rules, rule    a rule with numbers from low to high, with one number
-- FirstBroken   n says which rule of a row is the first that is broken: it is one of that rule's numbers, and 0 if
--               none is
-- Filled        the ends do not fall and come to inc's length
-- shape_rules   1 to 6, of the shape test
use Rattle.std.specs.Prelude.{◌≡◌, ◌⊎◌, List, [], ◌∷◌, ℕ, ◌*◌, ◌≤◌, ◌<◌, length, get_or}
use Rattle.listing.specs.Refusals.{no_ranks, over_ranks, over_elements, wrong_ends, over_incidences, falling_ends}
use Rattle.listing.specs.Listing.{Listing, Limits, start}
use Rattle.listing.specs.Shape.{elements}

pub record Rule : Type 1 where
  pub low : ℕ
  pub high : ℕ
  pub holds : Type 0

abbrev pub rules : ℕ → ℕ → Type 0 → Rule
rules low high P = record { low = low; high = high; holds = P }

abbrev pub rule : ℕ → Type 0 → Rule
rule n P = rules n n P

unfoldable pub FirstBroken : List Rule → ℕ → Type 0
FirstBroken [] n = n ≡ 0
FirstBroken (w ∷ l) n = ((¬ w.holds) × (w.low ≤ n) × (n ≤ w.high)) ⊎ (w.holds × FirstBroken l n)

pub record Filled (L : Listing) : Type 0 where
  pub rising : (k : ℕ) → k < length L.ends → start L.ends k ≤ get_or L.ends k 0
  pub full : start L.ends (length L.ends) ≡ length L.inc

module _ (m : Limits) (L : Listing) where
  abbrev pub shape_rules : List Rule
  shape_rules =
      rule no_ranks (0 < length L.counts) ∷
      rule over_ranks (length L.counts ≤ m.ranks) ∷
      rule over_elements (elements L ≤ m.elements) ∷
      rule wrong_ends (length L.ends ≡ 2 * elements L) ∷
      rule over_incidences (length L.inc ≤ m.incidences) ∷
      rule falling_ends (Filled L) ∷ []
