-- A listing: three lists of numbers, and what they say of its elements.
--
-- Listing   counts: the elements of each rank; ends: where each element's subs and then its sups end; inc: the lists
-- listing   a listing of three lists
-- held      the listing in three lent slices
-- width     how many values a number of a listing can have
-- Limits    how much a listing, a search over it, and its text in bytes may hold
-- limits    the limits in force
-- rank      one less than the number of ranks
-- count     the elements of a rank; none for a rank that is not there
-- below     the elements of the rank below a rank
-- before    the elements of all ranks below a rank
-- start     where a list begins: at the end before it, the first at 0
-- Ends      the ends do not fall, and none passes inc
-- entries   the kth list
-- side      a list of element i of rank r: its subs at side 0, its sups at side 1
-- subs_at   the subs of the kth element from a place on, counting elements of all ranks
-- subs      the elements that it lists one rank lower
-- sups      the elements that it lists one rank higher
use Rattle.std.specs.Prelude.{List, ◌∷◌, ℕ, ◌+◌, ◌-◌, ◌*◌, ◌≤◌, ◌<◌, length, get_or, take, drop}
use Rattle.order.specs.Sums.{sum}
use Rattle.listing.specs.declared.Slices.{Slices}

pub record Listing : Type 0 where
  pub counts : List ℕ
  pub ends : List ℕ
  pub inc : List ℕ

abbrev pub listing : List ℕ → List ℕ → List ℕ → Listing
listing c e i = record { counts = c; ends = e; inc = i }

abbrev pub held : Slices → Listing
held s = listing s.counts.now s.ends.now s.inc.now

abbrev pub width : ℕ
width = 65536

pub record Limits : Type 0 where
  pub ranks : ℕ
  pub elements : ℕ
  pub incidences : ℕ
  pub flags : ℕ
  pub text : ℕ

abbrev pub limits : Limits
limits = record { ranks = 16; elements = 4096; incidences = 32768; flags = 16384; text = 65536 }

abbrev pub rank : Listing → ℕ
rank L = length L.counts - 1

abbrev pub count : Listing → ℕ → ℕ
count L r = get_or L.counts r 0

abbrev pub below : Listing → ℕ → ℕ
below L r = get_or (0 ∷ L.counts) r 0

unfoldable pub before : List ℕ → ℕ → ℕ
before counts r = sum (λ k. get_or counts k 0) r

abbrev pub start : List ℕ → ℕ → ℕ
start ends k = get_or (0 ∷ ends) k 0

pub record Ends (ends inc : List ℕ) : Type 0 where
  pub rising : (k : ℕ) → k < length ends → start ends k ≤ get_or ends k 0
  pub inside : (k : ℕ) → k < length ends → get_or ends k 0 ≤ length inc

unfoldable pub entries : List ℕ → List ℕ → ℕ → List ℕ
entries ends inc k = take (get_or ends k 0 - start ends k) (drop (start ends k) inc)

abbrev pub subs_at : List ℕ → List ℕ → ℕ → ℕ → List ℕ
subs_at ends inc place k = entries ends inc (2 * (place + k) + 0)

abbrev pub side : Listing → ℕ → ℕ → ℕ → List ℕ
side L s r i = entries L.ends L.inc (2 * (before L.counts r + i) + s)

abbrev pub subs : Listing → ℕ → ℕ → List ℕ
subs L r i = side L 0 r i

abbrev pub sups : Listing → ℕ → ℕ → List ℕ
sups L r i = side L 1 r i
