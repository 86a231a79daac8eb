-- What a search finds, said of flags and of the slices that it writes.
--
-- Searchable   what a search asks: a closed listing, a flag of it to begin with, and a mask that asks for inner ranks
-- Leads        g is a flag that differs from f at one rank exactly, at which the mask asks for a change
-- FirstMet     flag k is the change at a rank of a flag before it, with the byte that this one does not have, and all
--              changes that were met before stand before it: flags are taken in order, ranks from the lowest upward
-- Repeat       the change at a rank of one of the first n flags stands among these with the byte of the flag that it
--              came of; all changes that were met before stand among these with the other byte, and these were all met
--              before
-- row, byte    flag k of a table, and its byte
-- Holds        n flags, each reachable and none twice, stand in the first rows of a table in the order found, with a
--              byte 0 or 1 for each, and past them the table and the bytes are as they were
-- Finds        an answer that is no refusal: the flags held are all that are reachable, and it counts them; it says
--              whether they can be given two colours so that each change exchanges these, and if so the bytes are these
--              colours, and if not how many flags were known at the first repeat with another byte
use Rattle.std.specs.Prelude.{◌≡◌, ◌↔◌, ℕ, ◌+◌, ◌-◌, ◌*◌, ◌≤◌, ◌<◌, length, get_or, drop}
use mathlib.Core.List.{List, Memᴰ}
use Rattle.order.specs.Lists.{Earlier}
use Rattle.order.specs.Steps.{ChangedAt, Reach}
use Rattle.listing.specs.Listing.{Listing, Limits, rank}
use Rattle.valid.specs.Closed.{Closed}
use Rattle.flag_change.specs.Flags.{IsFlag}
use Rattle.flag_change.specs.Change.{change_at}
use Rattle.search_theory.specs.Search.{Once, AtLeast, Colouring, tone}
use Rattle.search_theory.specs.Course.{Stands, Agrees}
use Rattle.search_index.specs.Rows.{row_of, rows}
use Rattle.search_masks.specs.Masks.{InMask, InnerRanks}
use Rattle.search.specs.declared.Searched.{Searched}

pub record Searchable (m : Limits) (L : Listing) (first : List ℕ) (mask : ℕ) : Type 0 where
  pub closed : Closed m L
  pub is_flag : IsFlag L first
  pub inner : InnerRanks (rank L) mask

pub record Leads (L : Listing) (mask : ℕ) (f g : List ℕ) : Type 0 where
  pub at : ℕ
  pub in_mask : InMask mask at
  pub is_flag : IsFlag L g
  pub changed : ChangedAt at f g

module _ (L : Listing) (mask : ℕ) (row : ℕ → List ℕ) (byte : ℕ → ℕ) where
  pub record FirstMet (k : ℕ) : Type 0 where
    pub from : ℕ
    pub at : ℕ
    pub earlier : from < k
    pub in_mask : InMask mask at
    pub is : row k ≡ change_at L at (row from)
    pub turned : byte k ≡ 1 - byte from
    pub first : (j r : ℕ) → Earlier j r from at → InMask mask r → Stands row k (change_at L r (row j))

  pub record Repeat (n : ℕ) : Type 0 where
    pub from : ℕ
    pub at : ℕ
    pub known : from < n
    pub in_mask : InMask mask at
    pub index : ℕ
    pub below : index < n
    pub is : row index ≡ change_at L at (row from)
    pub alike : byte index ≡ byte from
    pub met : (j r : ℕ) → Earlier j r from at → InMask mask r
        → Agrees row byte n (change_at L r (row j)) (1 - byte j)
    pub few : (k : ℕ) → 0 < k → k < n
        → (j : ℕ) × (r : ℕ) × Earlier j r from at × InMask mask r × (row k ≡ change_at L r (row j))

module _ (L : Listing) (first : List ℕ) (mask : ℕ) (table' bytes' : List ℕ) where
  abbrev pub row : ℕ → List ℕ
  row = row_of (rank L + 1) table'

  abbrev pub byte : ℕ → ℕ
  byte k = get_or bytes' k 0

  pub record Holds (table bytes : List ℕ) (n : ℕ) : Type 0 where
    pub once : Once (rows (rank L + 1) table' n)
    pub flags : (k : ℕ) → k < n → IsFlag L (row k)
    pub reached : (k : ℕ) → k < n → Reach (Leads L mask) first (row k)
    pub binary : (k : ℕ) → k < n → byte k ≤ 1
    pub start : 0 < n → (row 0 ≡ first) × (byte 0 ≡ 0)
    pub came : (k : ℕ) → 0 < k → k < n → FirstMet L mask row byte k
    pub long : length table' ≡ length table
    pub past : drop (n * (rank L + 1)) table' ≡ drop (n * (rank L + 1)) table
    pub bytes_long : length bytes' ≡ length bytes
    pub bytes_past : drop n bytes' ≡ drop n bytes

  pub record Finds (r : Searched) : Type 0 where
    pub all : (f : List ℕ) → Reach (Leads L mask) first f → Memᴰ f (rows (rank L + 1) table' r.count)
    pub count : AtLeast r.count (Leads L mask) first × ((n : ℕ) → AtLeast n (Leads L mask) first → n ≤ r.count)
    pub orientable : (r.orientable ≡ 1) ↔ Colouring (Leads L mask) first
    pub not_orientable : (r.orientable ≡ 0) ↔ (¬ Colouring (Leads L mask) first)
    pub place : (0 < r.place) ↔ (¬ Colouring (Leads L mask) first)
    pub placed : r.place ≤ r.count
    pub event : 0 < r.place → Repeat L mask row byte r.place
    pub exchanged : r.orientable ≡ 1 → (j k : ℕ) → j < r.count → k < r.count → Leads L mask (row j) (row k)
        → byte k ≡ 1 - byte j
    pub colours : (c : Colouring (Leads L mask) first) (k : ℕ) → k < r.count
        → byte k ≡ tone (c.colour first) (c.colour (row k))
