-- Sups derived from subs: how many each element has, and which.
--
-- subs_at       the subs of the kth element from the number `here` on; it stands in Rattle.listing.specs.Listing
-- subs_from     the subs of element a of rank i of a listing whose elements are numbered from b on
-- layers_from   what the counts and subs of such a listing say
-- UpCounts      a list that has for each of its elements, by rank and then index, how many sups are derived for it
-- Counted       the same of layers
-- Raised        each of n numbers from place `from` on raised by g of its index, and no other
-- Strewn        for each x of n, the numbers `so x` written from its cursor on, next (from + x), and nothing else
-- Apart         room for g x numbers at the cursor of each x of n: each ends before the next begins, all before `top`
-- span          the numbers from one place of a list up to another
-- sups_at       where the sups of an element begin, which is where its subs end
-- Fillable      the lists are there, all subs are written, and there is room for the sups of each element; subs may name
--               elements that do not exist
-- SupsFilled    the derived sups of the ranks below r written, each where its element's subs end, and nothing else
use Rattle.std.specs.Prelude.{◌≡◌, List, ℕ, suc, ◌+◌, ◌-◌, ◌*◌, ◌≤◌, ◌<◌, length, get_or, take, drop}
use Rattle.order.specs.Sums.{sum}
use Rattle.listing.specs.Listing.{Listing, width, limits, rank, count, before, Ends}
pub use Rattle.listing.specs.Listing.{subs_at}
use Rattle.listing.specs.Shape.{elements}
use Rattle.listing.specs.Layers.{Layers, layers, derived}

abbrev pub subs_from : ℕ → Listing → ℕ → ℕ → List ℕ
subs_from b L i a = subs_at L.ends L.inc (b + before L.counts i) a

abbrev pub layers_from : ℕ → Listing → Layers
layers_from b L = record { top = rank L; size = λ i. count L i; under = subs_from b L }

abbrev pub UpCounts : ℕ → Listing → List ℕ → Type 0
UpCounts b L up =
    (i x : ℕ) → x < count L i → get_or up (before L.counts i + x) 0 ≡ length (derived (layers_from b L) i x)

pub record Counted (M : Layers) (up : List ℕ) : Type 0 where
  pub long : sum M.size (suc M.top) ≤ length up
  pub at : (r x : ℕ) → x < M.size r → get_or up (sum M.size r + x) 0 ≡ length (derived M r x)

pub record Raised (from n : ℕ) (g : ℕ → ℕ) (up up' : List ℕ) : Type 0 where
  pub same_length : length up' ≡ length up
  pub at : (x : ℕ) → x < n → get_or up' (from + x) 0 ≡ get_or up (from + x) 0 + g x
  pub earlier : (p : ℕ) → p < from → get_or up' p 0 ≡ get_or up p 0
  pub later : (p : ℕ) → from + n ≤ p → get_or up' p 0 ≡ get_or up p 0

pub record Strewn (from n : ℕ) (so : ℕ → List ℕ) (next inc inc' : List ℕ) : Type 0 where
  pub same_length : length inc' ≡ length inc
  pub at : (x j : ℕ) → x < n → j < length (so x) → get_or inc' (get_or next (from + x) 0 + j) 0 ≡ get_or (so x) j 0
  pub rest : (p : ℕ) → ((x j : ℕ) → x < n → j < length (so x) → p ≡ get_or next (from + x) 0 + j → ⊥)
      → get_or inc' p 0 ≡ get_or inc p 0

pub record Apart (from n : ℕ) (g : ℕ → ℕ) (top : ℕ) (next : List ℕ) : Type 0 where
  pub order : (x y : ℕ) → x < y → y < n → get_or next (from + x) 0 + g x ≤ get_or next (from + y) 0
  pub below : (x : ℕ) → x < n → get_or next (from + x) 0 + g x ≤ top

abbrev pub span : List ℕ → ℕ → ℕ → List ℕ
span l lo hi = take (hi - lo) (drop lo l)

abbrev pub sups_at : Listing → ℕ → ℕ → ℕ
sups_at L r x = get_or L.ends (2 * (before L.counts r + x)) 0

pub record Fillable (L : Listing) : Type 0 where
  pub lists : Ends L.ends L.inc
  pub two_each : 2 * elements L ≤ length L.ends
  pub few : elements L ≤ limits.elements
  pub few_ranks : length L.counts < width
  pub room : (r x : ℕ) → x < count L r
      → sups_at L r x + length (derived (layers L) r x) ≤ get_or L.ends (2 * (before L.counts r + x) + 1) 0

pub record SupsFilled (L : Listing) (r : ℕ) (inc' : List ℕ) : Type 0 where
  pub same_length : length inc' ≡ length L.inc
  pub at : (i x j : ℕ) → i < r → x < count L i → j < length (derived (layers L) i x)
      → get_or inc' (sups_at L i x + j) 0 ≡ get_or (derived (layers L) i x) j 0
  pub rest : (p : ℕ)
      → ((i x j : ℕ) → i < r → x < count L i → j < length (derived (layers L) i x) → p ≡ sups_at L i x + j → ⊥)
      → get_or inc' p 0 ≡ get_or L.inc p 0
