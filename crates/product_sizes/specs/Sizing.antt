-- The sizes of a product: what is tested of them, and what the functions here count.
--
-- Usable           a factor that is_valid accepts, high enough for the ends that are left out of the pairs
-- counts_in_use    the counts of a factor's ranks in use
-- factor_of        a factor with these counts alone, and all its lists
-- subs_between     how many subs the elements from one number up to another list
-- extent_of        how large layers are
-- Little           an extent so small that products of two fit a word
-- totals_of        how many ranks, elements and incidences the product has of two factors that have these extents in
--                  use
-- Measures         the same of a listing
-- need_of_totals   how much room a listing of these three numbers takes
-- limits_then      33, 34, 35 by the limits, and then the rest
-- totals_test      these, and 36 by the room in the output slices, for a product of these three numbers
-- size_test        the same of a listing
use Rattle.std.specs.Prelude.{◌≡◌, Bool, List, ℕ, suc, ◌+◌, ◌-◌, ◌*◌, ◌≤◌, ◌<◌, ltb, length, take, drop}
use Rattle.order.specs.Ends.{need}
use Rattle.order.specs.Sums.{sum}
use Rattle.listing.specs.declared.Answer.{Answer}
use Rattle.listing.specs.Refusals.{product_ranks, product_elements, product_incidences}
use Rattle.listing.specs.Answers.{plain, on, ◌or_else◌}
use Rattle.listing.specs.Listing.{Listing, Limits, limits, listing, rank, entries}
use Rattle.listing.specs.Shape.{elements}
use Rattle.listing.specs.Layers.{Layers}
use Rattle.listing_outputs.specs.declared.outputs.Room.{Room}
use Rattle.listing_outputs.specs.Output.{short_test, room_test}
use Rattle.valid.specs.Tests.{is_valid}
use Rattle.product_pairs.specs.Trimmed.{bit}
use Rattle.product_pairs.specs.Lengths.{all_subs}
use Rattle.product_closure.specs.Sizes.{all_elements}
use Rattle.product_places.specs.declared.Poles.{Poles}
use Rattle.product_sizes.specs.declared.sizes.Extent.{Extent}
use Rattle.product_sizes.specs.declared.sizes.Totals.{Totals}

pub record Usable (min max : Bool) (L : Listing) : Type 0 where
  pub valid : (is_valid limits L).no ≡ 0
  pub high : need min max ≤ rank L

unfoldable pub counts_in_use : Bool → Bool → List ℕ → List ℕ
counts_in_use min max counts = take (length counts - bit max - bit min) (drop (bit min) counts)

abbrev pub factor_of : Bool → Bool → Listing → Listing
factor_of min max L = listing (counts_in_use min max L.counts) L.ends L.inc

unfoldable pub subs_between : List ℕ → List ℕ → ℕ → ℕ → ℕ
subs_between ends inc from to = sum (λ k. length (entries ends inc (2 * (from + k)))) (to - from)

abbrev pub extent_of : Layers → Extent
extent_of M = record {
  ranks = suc M.top;
  elements = all_elements M;
  subs = all_subs M;
  lowest = M.size 0;
  highest = M.size M.top;
}

pub record Little (x : Extent) : Type 0 where
  pub some_rank : 0 < x.ranks
  pub ranks : x.ranks ≤ limits.ranks
  pub elements : x.elements ≤ limits.elements
  pub subs : x.subs ≤ limits.elements * limits.incidences
  pub lowest : x.lowest ≤ limits.elements
  pub highest : x.highest ≤ limits.elements

abbrev pub totals_of : Poles → Extent → Extent → Totals
totals_of poles p q = record {
  ranks = p.ranks + q.ranks - 1 + bit poles.min + bit poles.max;
  elements = p.elements * q.elements + bit poles.min + bit poles.max;
  incidences =
      2 * (p.subs * q.elements + q.subs * p.elements + bit poles.min * (p.lowest * q.lowest)
      + bit poles.max * (p.highest * q.highest));
}

pub record Measures (R : Listing) (t : Totals) : Type 0 where
  pub ranks : length R.counts ≡ t.ranks
  pub elements : elements R ≡ t.elements
  pub ends : length R.ends ≡ 2 * t.elements
  pub incidences : length R.inc ≡ t.incidences

abbrev pub need_of_totals : Totals → Room
need_of_totals t = record { counts = t.ranks; ends = 2 * t.elements; inc = t.incidences }

abbrev pub limits_then : Limits → ℕ → ℕ → ℕ → Answer → Answer
limits_then m ranks elements incidences rest =
    on (ltb m.ranks ranks) (plain product_ranks) or_else
    on (ltb m.elements elements) (plain product_elements) or_else
    on (ltb m.incidences incidences) (plain product_incidences) or_else rest

unfoldable pub totals_test : Limits → Totals → Room → Answer
totals_test m t o =
    limits_then m t.ranks t.elements t.incidences
    (short_test (need_of_totals t) o)

unfoldable pub size_test : Limits → Listing → ℕ → ℕ → ℕ → Answer
size_test m R c e i =
    limits_then m (length R.counts) (elements R) (length R.inc) (room_test R c e i)
