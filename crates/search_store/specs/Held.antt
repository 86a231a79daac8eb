-- What the code that keeps the flags found keeps.
--
-- state_of   the state that a table, its bytes and what was found stand for
-- state_in   the same of what a store holds
-- found_in   what was found by a step of the search, also where one more turned up than there is room for
-- come_to    the state that a table and its bytes stand for after a step, which answers what was found, or that one
--            more turned up
-- SameLent   what is lent to a store is lent to it still
-- Held       the table and the bytes have the room, n rows of it are in use, and these are indexed
-- AddedRow   the flag, whose hash is h, stands in row n, with a byte
-- Rest       what stands past the first n rows and bytes is as it was
-- Moved      the code has come from what was found, s, with one store, to a result, with the store as another: that
--            stands for the state S, is held, and the rest is as it was
use Rattle.std.specs.Prelude.{◌≡◌, Result, Ok, Err, true, false, List, ℕ, ◌*◌, ◌≤◌, length, take, drop, set}
use Rattle.std.proofs.Math.Seq.{paste}
use Rattle.listing.specs.Listing.{limits}
use Rattle.search_theory.specs.Search.{State}
use Rattle.search_store.specs.declared.Found.{Found}
use Rattle.search_store.specs.declared.Full.{Full}
use Rattle.search_store.specs.declared.Store.{Store}
use Rattle.search_index.specs.Rows.{rows}
use Rattle.search_index.specs.Index.{Indexed, entered}

unfoldable pub state_of : ℕ → List ℕ → List ℕ → Found → State (List ℕ)
state_of w table bytes s = record {
  found = rows w table s.count;
  bytes = take s.count bytes;
  place = s.place;
  overflow = false;
}

abbrev pub state_in : ℕ → Store → Found → State (List ℕ)
state_in w t s = state_of w t.table.now t.bytes.now s

abbrev pub found_in : Result Found Full → Found
found_in (Ok s) = s
found_in (Err d) = d.found

abbrev pub come_to : ℕ → List ℕ → List ℕ → Result Found Full → State (List ℕ)
come_to w table bytes (Ok s) = state_of w table bytes s
come_to w table bytes (Err d) = record {
  found = rows w table d.found.count;
  bytes = take d.found.count bytes;
  place = d.found.place;
  overflow = true;
}

pub record SameLent (t u : Store) : Type 0 where
  pub table : u.table.ghost_name ≡ t.table.ghost_name
  pub bytes : u.bytes.ghost_name ≡ t.bytes.ghost_name
  pub room : u.room ≡ t.room

pub record Held (w : ℕ) (t : Store) (n : ℕ) : Type 0 where
  pub room_rows : t.room * w ≤ length t.table.now
  pub room_bytes : t.room ≤ length t.bytes.now
  pub room_few : t.room ≤ limits.flags
  pub fits : n ≤ t.room
  pub indexed : Indexed w n t.table.now t.chains

pub record AddedRow (t : Store) (flag : List ℕ) (h byte n : ℕ) (u : Store) : Type 0 where
  pub same : SameLent t u
  pub table : u.table.now ≡ paste t.table.now (n * length flag) flag (length flag)
  pub bytes : u.bytes.now ≡ set t.bytes.now n byte
  pub chains : u.chains ≡ entered t.chains h n

pub record Rest (w n : ℕ) (table bytes table' bytes' : List ℕ) : Type 0 where
  pub long : length table' ≡ length table
  pub past : drop (n * w) table' ≡ drop (n * w) table
  pub bytes_long : length bytes' ≡ length bytes
  pub bytes_past : drop n bytes' ≡ drop n bytes

pub record Moved (w : ℕ) (t : Store) (s : Found) (u : Store) (result : Result Found Full) (S : State (List ℕ)) : Type 0
  where
    pub same : SameLent t u
    pub state : come_to w u.table.now u.bytes.now result ≡ S
    pub held : Held w u (found_in result).count
    pub more : s.count ≤ (found_in result).count
    pub rest : Rest w (found_in result).count t.table.now t.bytes.now u.table.now u.bytes.now
