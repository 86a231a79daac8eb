-- A run of lines decides what a text says: a text that begins with the first k lines of layers says the same as they do
-- in these lines, ends after them where they do, and goes on after them with what is left.
-- Assumes nothing.
use mathlib.Core.Path.{◌≡◌, refl, sym, ap, ◌∙◌}
use mathlib.Core.List.{List, [], ◌∷◌, ◌++◌, append_assoc}
use Prim.Native.Nat.{ℕ, zero, suc, ◌+◌, ◌≤◌, ◌<◌}
use native.Mathlib.Omega.{arith}
use lib.ListN.{length, drop}
use Rattle.order.specs.Sums.{sum}
use Rattle.listing.specs.Listing.{Limits}
use Rattle.listing.specs.Layers.{Layers}
use Rattle.listing.specs.Written.{joined}
use Rattle.listing.proofs.Written.{joined_split}
use Rattle.text_theory.specs.Text.{Line, line_bytes, subs_key, lines_in, line_of, line_at, line_count, text_to}
use Rattle.text_theory.specs.Said.{after_line, from_line, values, value, count_at, count_line, said, bound_at}
use Rattle.text_theory.specs.Places.{Begins}
use Rattle.text_theory.proofs.Lines.{line_keyed, after_bytes, values_bytes, value_bytes}
use Rattle.text_theory.proofs.Spots.{spot_line, rank_spot, said_top, said_size, said_under}
use Rattle.text_theory.proofs.Alike.{Alike, line_alike, bound_alike, below_alike, key_alike, count_alike}

-- ---- lines one after another

pub to_next : (M : Layers) (j : ℕ) (s : List ℕ) → text_to M (suc j) ++ s ≡ text_to M j ++ (line_bytes (line_at M j) ++ s)
unfolding text_to joined
to_next M j s = append_assoc (text_to M j) (line_bytes (line_at M j)) s

-- what is left after j lines
pub from_to : (M : Layers) (j : ℕ) (s : List ℕ) → from_line (text_to M j ++ s) j ≡ s
unfolding text_to joined from_line
from_to M zero s = refl
from_to M (suc j) s =
    ap (λ t. after_line (from_line t j)) (to_next M j s)
    ∙ ap after_line (from_to M j (line_bytes (line_at M j) ++ s))
    ∙ after_bytes (line_at M j) s (line_keyed M j)

module _ (t : List ℕ) (M : Layers) (k : ℕ) (rest : List ℕ) (e : t ≡ text_to M k ++ rest) where
  pub from_rest : from_line t k ≡ rest
  from_rest = ap (λ s. from_line s k) e ∙ from_to M k rest

  pub from_line_lem : (j : ℕ) → j < k → Begins (line_bytes (line_at M j)) (from_line t j)
  unfolding text_to
  from_line_lem j h =
      let s = joined_split (λ j. line_bytes (line_at M j)) k j h in
      let q = ap (λ l. l ++ rest) s.1 ∙ split (text_to M j) (line_bytes (line_at M j)) s.0 in
      (s.0 ++ rest, ap (λ l. from_line l j) (e ∙ q) ∙ from_to M j _)
    where
      split : (a b c : List ℕ) → (a ++ (b ++ c)) ++ rest ≡ a ++ (b ++ (c ++ rest))
      split a b c = simp append_assoc

  -- ---- the numbers of a line

  line_value : (j n : ℕ) (l : Line) → j < k → line_at M j ≡ l → l.numbers ≡ n ∷ []
      → value (drop (length l.key) (from_line t j)) ≡ n
  line_value j n l h p q =
      let b = from_line_lem j h in
      rw (b.1, p) (value_bytes l b.0 n q)

  line_values : (j : ℕ) (l : Line) → j < k → line_at M j ≡ l
      → values (drop (length l.key) (from_line t j)) ≡ l.numbers
  line_values j l h p =
      let b = from_line_lem j h in
      rw (b.1, p) (values_bytes l b.0)

  -- ---- what the text says of ranks and elements

  top_run : 0 < k → M.top ≡ (said t).top
  unfolding line_at
  top_run h = sym (said_top t ∙ line_value 0 M.top _ h refl refl)

  counted : (r : ℕ) → r ≤ M.top → suc (sum (lines_in M) r + 0) < k
      → count_at t (suc (sum (lines_in M) r + 0)) ≡ M.size r
  unfolding line_of
  counted r h l = line_value _ (M.size r) _ l (spot_line M _ r 0 (rank_spot M r 0 h (omega arith))) refl

  -- the counts of the ranks below one are lines of the run; a count stands at place 0 of its rank
  count_run : (r : ℕ) → r ≤ suc M.top → suc (sum (lines_in M) r) ≤ k → count_line t r ≡ suc (sum (lines_in M) r + 0)
  unfolding count_line sum
  count_run zero h l = refl
  count_run (suc r) h l =
      rw (count_run r (omega arith) (omega arith)) (omega (arith, counted r (omega arith) (omega arith)))

  size_run : (r : ℕ) → r ≤ M.top → suc (sum (lines_in M) r) < k → M.size r ≡ (said t).size r
  size_run r h l =
      let c = count_run r (omega arith) (omega arith) in
      sym (said_size t r (omega (arith, top_run (omega arith))) ∙ ap (count_at t) c ∙ counted r h (omega arith))

  list_run : (r i : ℕ) → r ≤ M.top → i < M.size r → suc (sum (lines_in M) r + suc i) < k
      → M.under r i ≡ (said t).under r i
  unfolding line_of
  list_run r i h p l =
      let s = spot_line M _ r (suc i) (rank_spot M r (suc i) h (omega arith)) in
      sym (said_under t r i ∙ ap (λ j. values (drop (length subs_key) (from_line t j))) there ∙ line_values _ _ l s)
    where
      there : count_line t r + suc i ≡ suc (sum (lines_in M) r + suc i)
      there = omega (arith, count_run r (omega arith) (omega arith))

  pub run_alike : Alike M (said t) k
  run_alike = record { tops = top_run; sizes = size_run; lists = list_run }

-- ---- its lines

module _ (t : List ℕ) (M : Layers) (k : ℕ) (rest : List ℕ) (c : k ≤ line_count M) (e : t ≡ text_to M k ++ rest) where
  alike : Alike M (said t) k
  alike = run_alike t M k rest e

  pub run_line : (j : ℕ) → j < k → line_at (said t) j ≡ line_at M j
  run_line j h = sym (line_alike M (said t) k alike j h (omega arith))

  pub run_bound : (m : Limits) (j : ℕ) → j < k → bound_at m (said t) j ≡ bound_at m M j
  run_bound m j h = sym (bound_alike M (said t) k alike m j h (omega arith))

  -- the line after them
  pub run_below : k < line_count M → k < line_count (said t)
  run_below h = below_alike M (said t) k alike k (omega arith) h

  pub run_key : k < line_count M → (line_at (said t) k).key ≡ (line_at M k).key
  run_key h = sym (key_alike M (said t) k alike k (omega arith) h)

  pub run_count : k ≡ line_count M → line_count (said t) ≡ k
  run_count h = count_alike M (said t) k alike (sym h)
