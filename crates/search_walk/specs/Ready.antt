-- What the walk over the flags asks and keeps.
--
-- nothing    nothing was found yet
-- Ended      the search has come to its end, with a result: the table and the bytes stand for the state S, and the rest
--            is as it was
-- AllFlags   the first n rows of a table are flags
-- Places     the places where the ranks begin
-- Ready      the places and weights of the ranks are there
-- Walks      the walk can go on: all is ready, the mask asks for inner ranks, and n rows are held, which are flags
-- AtHand     the flag at hand is one, and its sum is known
use Rattle.std.specs.Prelude.{◌≡◌, Result, List, ℕ, ◌*◌, ◌≤◌, ◌<◌, length, get_or}
use Rattle.listing.specs.Listing.{width, Listing, rank, before}
use Rattle.flag_change.specs.Flags.{IsFlag}
use Rattle.search_theory.specs.Search.{State}
use Rattle.search_store.specs.declared.Found.{Found}
use Rattle.search_store.specs.declared.Full.{Full}
use Rattle.search_store.specs.declared.Store.{Store}
use Rattle.search_index.specs.Rows.{row_of}
use Rattle.search_index.specs.Hash.{hashes, sum_from, Weights}
use Rattle.search_store.specs.Held.{found_in, come_to, Held, Rest}
use Rattle.search_masks.specs.Masks.{InnerRanks}
use Rattle.search_walk.specs.declared.Ranks.{Ranks}

abbrev pub nothing : Found
nothing = record { count = 0; place = 0 }

pub record Ended (w room : ℕ) (table bytes table' bytes' : List ℕ) (result : Result Found Full)
    (S : State (List ℕ)) : Type 0 where
  pub state : come_to w table' bytes' result ≡ S
  pub fits : (found_in result).count ≤ room
  pub rest : Rest w (found_in result).count table bytes table' bytes'

abbrev pub AllFlags : Listing → List ℕ → ℕ → Type 0
AllFlags L table n = (k : ℕ) → k < n → IsFlag L (row_of (length L.counts) table k)

abbrev pub Places : List ℕ → List ℕ → Type 0
Places counts l = (r : ℕ) → r < length counts → get_or l r 0 ≡ before counts r

pub record Ready (L : Listing) (ranks : Ranks) : Type 0 where
  pub begins : Places L.counts ranks.places
  pub weighs : Weights ranks.weights

pub record Walks (L : Listing) (ranks : Ranks) (mask : ℕ) (t : Store) (n : ℕ) : Type 0 where
  pub ready : Ready L ranks
  pub inner : InnerRanks (rank L) mask
  pub rows : Held (length L.counts) t n
  pub flags : AllFlags L t.table.now n

pub record AtHand (L : Listing) (flag : List ℕ) (sum : ℕ) : Type 0 where
  pub is_flag : IsFlag L flag
  pub sum_is : sum ≡ sum_from 0 flag
  pub small : sum ≤ length flag * (width * hashes)
