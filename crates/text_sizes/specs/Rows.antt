-- Rows of numbers as they are counted: t is the text, ns are the numbers of the row at a place of it; up has the counts
-- of n elements from place `from` on, and subs the numbers from place `to` on, both before and afterwards; r is what is
-- answered.
--
-- RowCounted   the numbers are counted and written, those of them that name one of the elements counted too, and each
--              of these has its count raised; no number here passes the place that was reached
use Rattle.std.specs.Prelude.{◌≡◌, List, ℕ, ◌+◌, ◌*◌, ◌≤◌, ◌<◌, length, get_or, drop}
use Rattle.order.specs.Lists.{occurs}
use Rattle.listing.specs.Laid.{LaidList}
use Rattle.listing_sups.specs.Sups.{Raised}
use Rattle.text_theory.specs.Said.{after_line, below_in}
use Rattle.text_sizes.specs.declared.rows.Row.{Row}

pub record RowCounted (t : List ℕ) (at : ℕ) (ns : List ℕ) (from n to : ℕ) (up up' subs subs' : List ℕ) (r : Row)
    : Type 0 where
  pub later : at + 2 * r.count ≤ r.next
  pub inside : r.next ≤ length t
  pub after : drop r.next t ≡ after_line (drop at t)
  pub count : r.count ≡ length ns
  pub known : r.known ≡ below_in n ns
  pub small : (r.count ≤ r.next) × (r.known ≤ r.count)
  pub raised : Raised from n (λ y. occurs y ns) up up'
  pub few : (k : ℕ) → get_or up' k 0 < r.next
  pub laid : LaidList to ns subs subs'
