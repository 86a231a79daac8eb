-- What the functions that write layers as a listing ask of what is noted, and what they leave.
--
-- Source        what a listing is written from: layers M within the limits, noted down in lists, with how many sups
--               each element gets, how many ranks and elements there are, and slices with room, of the lengths c, e
--               and i
-- subs_before   how many numbers the lists 0, 2, .. of the elements before element e have
-- Flat          the lists of n elements, as they stand in what is noted, and room for them in slices of the lengths e
--               and i
-- ElementPut    element e written, which has k subs and gets u sups: its subs, its two ends, and room for its sups
-- StandsOver    a listing R stands at the front of each slice, over what was there
use Rattle.std.specs.Prelude.{◌≡◌, List, ℕ, suc, ◌+◌, ◌*◌, ◌≤◌, ◌<◌, length, get_or, set}
use Rattle.order.specs.Lists.{over}
use Rattle.order.specs.Sums.{sum}
use Rattle.listing.specs.Listing.{Listing, width, limits}
use Rattle.listing.specs.Shape.{Shaped}
use Rattle.listing.specs.Layers.{Layers, Topped, derived}
use Rattle.listing.specs.Written.{written}
use Rattle.listing.specs.Laid.{Laid}
use Rattle.listing_outputs.specs.Output.{Fits}
use Rattle.listing_sups.specs.Sups.{Counted}
use Rattle.listing_sups.specs.Filling.{starts}
use Rattle.text_theory.specs.Notes.{Noted}
use Rattle.text_building.specs.declared.build.FromTo.{FromTo}

pub record Source (M : Layers) (noted many subs up : List ℕ) (ranks n c e i : ℕ) : Type 0 where
  pub topped : Topped M
  pub shaped : Shaped limits (written M (derived M))
  pub room : Fits (written M (derived M)) c e i
  pub counted : Counted M up
  pub notes : Noted M noted many subs
  pub ranks_are : ranks ≡ suc M.top
  pub elements_are : n ≡ sum M.size (suc M.top)

abbrev pub subs_before : (ℕ → List ℕ) → ℕ → ℕ
subs_before lists e = sum (λ k. length (lists (2 * k))) e

pub record Flat (lists : ℕ → List ℕ) (many subs up : List ℕ) (n e i : ℕ) : Type 0 where
  pub many_long : n ≤ length many
  pub up_long : n ≤ length up
  pub subs_long : subs_before lists n ≤ length subs
  pub each : (k : ℕ) → k < n → get_or many k 0 ≡ length (lists (2 * k))
  pub sups : (k : ℕ) → k < n → get_or up k 0 ≡ length (lists (2 * k + 1))
  pub sub : (k : ℕ) → k < n → (j : ℕ) → j < length (lists (2 * k))
      → get_or subs (subs_before lists k + j) 0 ≡ get_or (lists (2 * k)) j 0
  pub room_ends : 2 * n ≤ e
  pub room_inc : starts lists (2 * n) ≤ i
  pub few : starts lists (2 * n) < width

pub record ElementPut (k : ℕ) (subs : List ℕ) (u e : ℕ) (p : FromTo) (ends inc ends' inc' : List ℕ) (r : FromTo)
    : Type 0 where
  pub laid : Laid p.to (λ j. get_or subs (p.from + j) 0) k inc inc'
  pub both_ends : ends' ≡ set (set ends (2 * e) (p.to + k)) (2 * e + 1) r.to
  pub from : r.from ≡ p.from + k
  pub to : r.to ≡ p.to + k + u

pub record StandsOver (R old new : Listing) : Type 0 where
  pub counts : new.counts ≡ over R.counts old.counts
  pub ends : new.ends ≡ over R.ends old.ends
  pub inc : new.inc ≡ over R.inc old.inc
