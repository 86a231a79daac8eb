-- What the code of the look-up keeps: chains of the rows with one hash, each from row to row downward.
--
-- Indexed   the first n rows of a table are indexed: none stands there twice, each head is the number after the last
--           row with its hash, and next leads from each row to the number after the last row before it with the same
--           hash
-- entered   the chains after row n goes to the front of the chain of the hash h
use Rattle.std.specs.Prelude.{◌≡◌, List, ℕ, ◌+◌, ◌*◌, ◌≤◌, ◌<◌, length, get_or, set}
use Rattle.listing.specs.Listing.{limits}
use Rattle.search_theory.specs.Search.{Once}
use Rattle.search_index.specs.declared.index.Chains.{Chains}
use Rattle.search_index.specs.Chain.{latest}
use Rattle.search_index.specs.Rows.{row_of, rows}
use Rattle.search_index.specs.Hash.{hashes, hash_of}

pub record Indexed (w n : ℕ) (table : List ℕ) (chains : Chains) : Type 0 where
  pub all_heads : length chains.heads ≡ hashes
  pub all_next : length chains.next ≡ limits.flags
  pub few : n ≤ limits.flags
  pub fits : n * w ≤ length table
  pub once : Once (rows w table n)
  pub head : (h : ℕ) → h < hashes → get_or chains.heads h 0 ≡ latest hash_of (row_of w table) h n
  pub chain : (k : ℕ) → k < n → get_or chains.next k 0 ≡ latest hash_of (row_of w table) (hash_of (row_of w table k)) k

abbrev pub entered : Chains → ℕ → ℕ → Chains
entered chains h n = record {
  heads = set chains.heads h (n + 1);
  next = set chains.next n (get_or chains.heads h 0);
}
