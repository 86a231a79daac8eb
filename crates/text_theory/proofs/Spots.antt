-- Where lines stand: in layers, the line at a place of a rank; in a text, the count of a rank and the list of an
-- element, what is asked of them, and that these are all lines.
-- Assumes nothing.
use mathlib.Core.Path.{◌≡◌, refl, ap}
use mathlib.Core.List.{List, [], ◌∷◌}
use Prim.Native.Nat.{ℕ, zero, suc, ◌+◌, ◌≤◌, ◌<◌}
use native.Mathlib.Omega.{arith}
use borrow.Author.Tests.{le-leb, lt-leb}
use lib.ListN.{length, drop}
use Rattle.order.specs.Sums.{sum}
use Rattle.order.proofs.Sums.{sum_lt, part_ok, part_at_lem}
use Rattle.listing.specs.Refusals.{over_ranks}
use Rattle.listing.specs.Answers.{◌or_else◌}
use Rattle.listing.specs.Listing.{Limits}
use Rattle.listing.specs.Layers.{Layers, Topped}
use Rattle.text_theory.specs.Text.{rank_key, subs_key, lines_in, line_of, spot, line_at, line_count}
use Rattle.text_theory.specs.Said.{from_line, values, value, count_at, count_line, said, form_test, bound_of, bound_at}
use Rattle.text_theory.specs.Said.{bound_test, line_test}

-- ---- the lines of layers

-- line k is line i of those of rank r
pub record Spot (M : Layers) (k r i : ℕ) : Type 0 where
  pub ranked : r ≤ M.top
  pub placed : i < lines_in M r
  pub stands : k ≡ suc (sum (lines_in M) r + i)

module _ (M : Layers) (k r i : ℕ) (s : Spot M k r i) where
  pub spot_is : (j : ℕ) → k ≡ suc j → spot M j ≡ (r, i)
  unfolding spot
  spot_is j e =
      let q : j ≡ sum (lines_in M) r + i = omega (arith, s.stands) in
      rw q (part_at_lem (lines_in M) (suc M.top) r i (omega (arith, s.ranked)) s.placed)

  pub spot_line : line_at M k ≡ line_of M (r, i)
  unfolding line_at
  spot_line = rw s.stands (ap (line_of M) (spot_is _ s.stands))

  pub spot_bound : (m : Limits) → bound_at m M k ≡ bound_of m M (r, i)
  unfolding bound_at
  spot_bound m = rw s.stands (ap (bound_of m M) (spot_is _ s.stands))

  pub spot_below : k < line_count M
  unfolding line_count
  spot_below =
      let l = sum_lt (lines_in M) r (suc M.top) i (omega (arith, s.ranked)) s.placed in
      omega (arith, s.stands)

pub rank_spot : (M : Layers) (r i : ℕ) → r ≤ M.top → i < lines_in M r → Spot M (suc (sum (lines_in M) r + i)) r i
rank_spot M r i h l = record { ranked = h; placed = l; stands = refl }

-- each line but the first is such a line
pub spotted : (M : Layers) (k : ℕ) → suc k < line_count M → Spot M (suc k) (spot M k).0 (spot M k).1
unfolding spot line_count
spotted M k h =
    let p = part_ok (lines_in M) (suc M.top) k (omega arith) in
    record { ranked = omega (arith, p.0); placed = p.1; stands = omega (arith, p.2) }

-- ---- what a text says

module _ (t : List ℕ) where
  pub said_top : (said t).top ≡ value (drop (length rank_key) (from_line t 0))
  unfolding said from_line
  said_top = refl

  pub said_size : (r : ℕ) → r ≤ (said t).top → (said t).size r ≡ count_at t (count_line t r)
  unfolding said
  said_size r h = rw (le-leb r _ h)

  pub said_under : (r i : ℕ) → (said t).under r i ≡ values (drop (length subs_key) (from_line t (count_line t r + suc i)))
  unfolding said
  said_under r i = refl

  pub said_topped : Topped (said t)
  unfolding said Topped
  said_topped r h = rw (lt-leb r _ h)

  -- ---- its lines

  pub rank_test : (m : Limits) → line_test m t 0
      ≡ form_test (record { key = rank_key; numbers = (said t).top ∷ [] }) t
      or_else bound_test (record { amount = suc (said t).top; most = m.ranks; no = over_ranks })
  unfolding line_at bound_at from_line
  rank_test m = refl

  pub count_first : count_line t 0 ≡ 1
  unfolding count_line
  count_first = refl

  pub count_next : (r : ℕ) → r ≤ (said t).top → count_line t (suc r) ≡ count_line t r + suc ((said t).size r)
  unfolding count_line
  count_next r h = omega (arith, said_size r h)

  pub count_line_lem : (r : ℕ) → r ≤ suc (said t).top → count_line t r ≡ suc (sum (lines_in (said t)) r)
  unfolding sum
  count_line_lem zero h = count_first
  count_line_lem (suc r) h = omega (arith, count_next r (omega arith), count_line_lem r (omega arith))

  pub count_last : count_line t (suc (said t).top) ≡ line_count (said t)
  unfolding line_count
  count_last = count_line_lem (suc (said t).top) (omega arith)

module _ (t : List ℕ) (r : ℕ) (h : r ≤ (said t).top) where
  pub count_spot : Spot (said t) (count_line t r) r 0
  count_spot = record { ranked = h; placed = omega arith; stands = omega (arith, count_line_lem t r (omega arith)) }

  pub list_spot : (i : ℕ) → i < (said t).size r → Spot (said t) (count_line t r + suc i) r (suc i)
  list_spot i l =
      record { ranked = h; placed = omega arith; stands = omega (arith, count_line_lem t r (omega arith)) }

  pub count_below : count_line t r < line_count (said t)
  count_below = spot_below (said t) _ r 0 count_spot

  pub list_below : (i : ℕ) → i < (said t).size r → count_line t r + suc i < line_count (said t)
  list_below i l = spot_below (said t) _ r (suc i) (list_spot i l)

  pub count_line_at : line_at (said t) (count_line t r) ≡ line_of (said t) (r, 0)
  count_line_at = spot_line (said t) _ r 0 count_spot

  pub list_line_at : (i : ℕ) → i < (said t).size r → line_at (said t) (count_line t r + suc i) ≡ line_of (said t) (r, suc i)
  list_line_at i l = spot_line (said t) _ r (suc i) (list_spot i l)

  pub count_bound_at : (m : Limits) → bound_at m (said t) (count_line t r) ≡ bound_of m (said t) (r, 0)
  count_bound_at m = spot_bound (said t) _ r 0 count_spot m

  pub list_bound_at : (m : Limits) (i : ℕ) → i < (said t).size r
      → bound_at m (said t) (count_line t r + suc i) ≡ bound_of m (said t) (r, suc i)
  list_bound_at m i l = spot_bound (said t) _ r (suc i) (list_spot i l) m

  -- ---- what is asked of them

  pub count_test : (m : Limits) → line_test m t (count_line t r)
      ≡ form_test (line_of (said t) (r, 0)) (from_line t (count_line t r)) or_else bound_test (bound_of m (said t) (r, 0))
  count_test m = rw (count_line_at, count_bound_at m)

  pub list_test : (m : Limits) (i : ℕ) → i < (said t).size r → line_test m t (count_line t r + suc i)
      ≡ form_test (line_of (said t) (r, suc i)) (from_line t (count_line t r + suc i))
      or_else bound_test (bound_of m (said t) (r, suc i))
  list_test m i l = rw (list_line_at i l, list_bound_at m i l)
