-- The product of two factors, as it is written: its layers, its lists and what they ask for. A factor, P or Q, is given
-- as the builder has it: a listing with the counts of the ranks in use, in whose lists the first element in use has
-- the number 1 where the minimal one is left out.
--
-- subs_in_use     the subs in use of an element: none at the lowest rank in use
-- factor_layers   what a factor says, as layers
-- target          the layers of the product of two factors, with the ends added that min and max ask for
-- lists_of        the lists of the product, by their numbers: the subs and the derived sups of each element in turn
-- product_lists   the same, with the two flags in one
-- pair_shift      how the subs of a pair follow from those of its members
-- under_pair      what a pair has under it: the added minimal element alone, where it is a lowest pair and that is
--                 added; else the pairs with a member replaced by one of its subs in use
-- over_pair       how many lie over a pair: as many as over its members, and the added maximal element over a highest
--                 pair
-- size_of         how many elements the product has
-- Plan            what the builder stands on: the factors' lists are there, what they name exists, the lists of the
--                 product are those of the pairs, and there is room for all
use Rattle.std.specs.Prelude.{◌≡◌, Bool, cond, ◌&&◌, List, [], ℕ, pred, ◌+◌, ◌-◌, ◌*◌, ◌≤◌, ◌<◌, eqb, length}
use Rattle.order.specs.Lists.{In}
use Rattle.listing.specs.Listing.{Listing, rank, count, Ends, limits}
use Rattle.listing.specs.Shape.{elements}
use Rattle.listing.specs.Layers.{Layers, derived}
use Rattle.listing.specs.Written.{nth}
use Rattle.listing_sups.specs.Sups.{subs_from, layers_from}
use Rattle.listing_sups.specs.Filling.{starts}
use Rattle.product_pairs.specs.Trimmed.{bit}
use Rattle.product_pairs.specs.Paired.{paired}
use Rattle.product_pairs.specs.Grown.{grown}
use Rattle.product_places.specs.declared.Poles.{Poles}
use Rattle.product_places.specs.declared.put.Shift.{Shift}
use Rattle.product_places.specs.Places.{offset_in, pairs_to, pair_number, subs_of}

unfoldable pub subs_in_use : Bool → Listing → ℕ → ℕ → List ℕ
subs_in_use min P i a = cond (eqb i 0) [] (subs_from (bit min) P i a)

abbrev pub factor_layers : Bool → Listing → Layers
factor_layers min P = record { top = rank P; size = λ i. count P i; under = subs_in_use min P }

unfoldable pub target : Bool → Bool → Listing → Listing → Layers
target min max P Q = grown min max (paired (factor_layers min P) (factor_layers min Q))

unfoldable pub lists_of : Bool → Bool → Listing → Listing → ℕ → List ℕ
lists_of min max P Q = nth (target min max P Q) (derived (target min max P Q))

abbrev pub product_lists : Poles → Listing → Listing → ℕ → List ℕ
product_lists poles P Q = lists_of poles.min poles.max P Q

abbrev pub pair_shift : Bool → Listing → Listing → ℕ → ℕ → ℕ → ℕ → Shift
pair_shift low P Q i a j b = record {
  low = low;
  left = offset_in P.counts Q.counts (pred i) j + b;
  scale = count Q j;
  right = offset_in P.counts Q.counts i (pred j) + a * count Q (pred j);
}

unfoldable pub under_pair : Bool → Listing → Listing → ℕ → ℕ → ℕ → ℕ → List ℕ
unfolding subs_of
under_pair min P Q i a j b =
    subs_of (pair_shift (min && eqb (i + j) 0) P Q i a j b) (subs_in_use min P i a) (subs_in_use min Q j b)

unfoldable pub over_pair : Bool → Bool → Listing → Listing → ℕ → ℕ → ℕ → ℕ → ℕ
over_pair min max P Q i a j b =
    length (derived (layers_from (bit min) P) i a) + length (derived (layers_from (bit min) Q) j b)
    + cond (max && eqb (i + j + 2) (length P.counts + length Q.counts)) 1 0

unfoldable pub size_of : Bool → Bool → List ℕ → List ℕ → ℕ
size_of min max p q = bit min + pairs_to p q (length p + length q - 1) + bit max

pub record Plan (min max : Bool) (P Q : Listing) (room_ends room_inc : ℕ) : Type 0 where
  pub lists_p : Ends P.ends P.inc
  pub lists_q : Ends Q.ends Q.inc
  pub ends_p : 2 * (bit min + elements P) ≤ length P.ends
  pub ends_q : 2 * (bit min + elements Q) ≤ length Q.ends
  pub ranks_p : (0 < length P.counts) × (length P.counts ≤ limits.ranks)
  pub ranks_q : (0 < length Q.counts) × (length Q.counts ≤ limits.ranks)
  pub few_p : elements P ≤ limits.elements
  pub few_q : elements Q ≤ limits.elements
  pub under : (i a j b : ℕ) → a < count P i → b < count Q j
      → lists_of min max P Q (2 * pair_number min P.counts Q.counts i a j b) ≡ under_pair min P Q i a j b
  pub over : (i a j b : ℕ) → a < count P i → b < count Q j
      → length (lists_of min max P Q (2 * pair_number min P.counts Q.counts i a j b + 1))
      ≡ over_pair min max P Q i a j b
  pub small : (t x : ℕ) → In x (lists_of min max P Q t) → x < limits.elements
  pub elements : size_of min max P.counts Q.counts ≤ limits.elements
  pub room_for_ends : 2 * size_of min max P.counts Q.counts ≤ room_ends
  pub room_for_inc : starts (lists_of min max P Q) (2 * size_of min max P.counts Q.counts) ≤ room_inc
  pub incidences : starts (lists_of min max P Q) (2 * size_of min max P.counts Q.counts) ≤ limits.incidences
