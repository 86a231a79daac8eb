-- Layers that begin alike: where the first k lines of two say the same, these lines stand at the same places, are the
-- same and count for the same amounts; the line after them has the same key; and if they are all lines of the one, they
-- are all lines of the other, and the text of both is the same.
-- Assumes nothing.
use mathlib.Core.Path.{◌≡◌, refl, sym, ap, ◌∙◌}
use Prim.Native.Nat.{ℕ, zero, suc, ◌+◌, ◌≤◌, ◌<◌}
use native.Mathlib.Omega.{arith}
use Rattle.order.specs.Sums.{sum}
use Rattle.order.proofs.Sums.{sum_le, sum_lt, sum_same}
use Rattle.listing.specs.Listing.{Limits}
use Rattle.listing.specs.Layers.{Layers}
use Rattle.listing.proofs.Written.{joined_same}
use Rattle.text_theory.specs.Text.{line_bytes, lines_in, line_of, line_at, line_count, spot, text_to, text_of}
use Rattle.text_theory.specs.Said.{incidences_to, bound_of, bound_at}
use Rattle.text_theory.proofs.Spots.{Spot, spot_line, spot_bound, spot_below, spotted}
use Rattle.text_theory.proofs.Incidences.{incidences_to_same}

-- what the first k lines of M say, N says too: the top, the size of a rank, the list of an element
pub record Alike (M N : Layers) (k : ℕ) : Type 0 where
  pub tops : 0 < k → M.top ≡ N.top
  pub sizes : (r : ℕ) → r ≤ M.top → suc (sum (lines_in M) r) < k → M.size r ≡ N.size r
  pub lists : (r i : ℕ) → r ≤ M.top → i < M.size r → suc (sum (lines_in M) r + suc i) < k
      → M.under r i ≡ N.under r i

module _ (M N : Layers) (k : ℕ) (a : Alike M N k) where
  -- ---- places

  -- the counts of the ranks below one whose count may be the next line
  sums_alike : (r : ℕ) → r ≤ suc M.top → suc (sum (lines_in M) r) ≤ k → sum (lines_in M) r ≡ sum (lines_in N) r
  sums_alike r h l = sum_same _ _ r (λ q g. ap suc (a.sizes q (omega arith) (before q g)))
    where
      before : (q : ℕ) → q < r → suc (sum (lines_in M) q) < k
      before q g = omega (arith, sum_lt (lines_in M) q r 0 g (omega arith))

  -- a line of them, or the next
  pub spot_alike : (j r i : ℕ) → j ≤ k → Spot M j r i → Spot N j r i
  spot_alike j r i h s = record {
    ranked = omega (arith, s.ranked, a.tops (omega (arith, s.stands)));
    placed = placed i s.placed s.stands;
    stands = omega (arith, s.stands, sums_alike r (omega (arith, s.ranked)) (omega (arith, s.stands)));
  }
    where
      placed : (i : ℕ) → i < lines_in M r → j ≡ suc (sum (lines_in M) r + i) → i < lines_in N r
      placed zero l e = omega arith
      placed (suc i) l e = omega (arith, a.sizes r s.ranked (omega arith))

  pub below_alike : (j : ℕ) → j ≤ k → j < line_count M → j < line_count N
  unfolding line_count
  below_alike zero h l = omega arith
  below_alike (suc j) h l = spot_below N (suc j) _ _ (spot_alike (suc j) _ _ h (spotted M j l))

  pub count_alike : line_count M ≡ k → line_count N ≡ k
  unfolding line_count
  count_alike e =
      let p : suc M.top ≡ suc N.top = ap suc (a.tops (omega arith)) in
      let q : sum (lines_in N) (suc M.top) ≡ sum (lines_in N) (suc N.top) = ap (sum (lines_in N)) p in
      omega (arith, sums_alike (suc M.top) (omega arith) (omega arith))

  -- ---- lines

  of_alike : (r i : ℕ) → r ≤ M.top → i < lines_in M r → suc (sum (lines_in M) r + i) < k
      → line_of M (r, i) ≡ line_of N (r, i)
  unfolding line_of
  of_alike r zero h l g = rw (a.sizes r h (omega arith))
  of_alike r (suc i) h l g = rw (a.lists r i h (omega arith) g)

  pub line_alike : (j : ℕ) → j < k → j < line_count M → line_at M j ≡ line_at N j
  unfolding line_at
  line_alike zero h l = rw (a.tops h)
  line_alike (suc j) h l =
      let s = spotted M j l in
      of_alike (spot M j).0 (spot M j).1 s.ranked s.placed (omega (arith, s.stands))
      ∙ sym (spot_line N (suc j) _ _ (spot_alike (suc j) _ _ (omega arith) s))

  -- whether a line is a count or a list
  key_of : (r i : ℕ) → (line_of M (r, i)).key ≡ (line_of N (r, i)).key
  unfolding line_of
  key_of r zero = refl
  key_of r (suc i) = refl

  pub key_alike : (j : ℕ) → j ≤ k → j < line_count M → (line_at M j).key ≡ (line_at N j).key
  unfolding line_at
  key_alike zero h l = refl
  key_alike (suc j) h l =
      let s = spotted M j l in
      key_of (spot M j).0 (spot M j).1
      ∙ sym (ap (λ l. l.key) (spot_line N (suc j) _ _ (spot_alike (suc j) _ _ h s)))

  -- ---- limits

  -- line i of rank r is one of them: so are the counts up to r, the lists of the ranks below, and those of r before i
  module _ (r i : ℕ) (h : r ≤ M.top) (l : i < lines_in M r) (g : suc (sum (lines_in M) r + i) < k) where
    size_alike : (q : ℕ) → q < suc r → M.size q ≡ N.size q
    size_alike q p = a.sizes q (omega arith) (omega (arith, sum_le (lines_in M) q r (omega arith)))

    list_alike : (q b : ℕ) → q < r → b < M.size q → M.under q b ≡ N.under q b
    list_alike q b p c =
        let e = sum_lt (lines_in M) q r (suc b) p (omega arith) in
        a.lists q b (omega arith) c (omega arith)

    incidences_to_alike : incidences_to M r i ≡ incidences_to N r i
    incidences_to_alike =
        incidences_to_same M N r i (λ q p. size_alike q (omega arith)) list_alike
        (λ b c. a.lists r b h (omega arith) (omega arith))

  bound_of_lem : (m : Limits) (r i : ℕ) → r ≤ M.top → i < lines_in M r → suc (sum (lines_in M) r + i) < k
      → bound_of m M (r, i) ≡ bound_of m N (r, i)
  unfolding bound_of
  bound_of_lem m r zero h l g = rw (sum_same _ _ (suc r) (size_alike r 0 h l g))
  bound_of_lem m r (suc i) h l g = rw (incidences_to_alike r (suc i) h l g)

  pub bound_alike : (m : Limits) (j : ℕ) → j < k → j < line_count M → bound_at m M j ≡ bound_at m N j
  unfolding bound_at
  bound_alike m zero h l = rw (a.tops h)
  bound_alike m (suc j) h l =
      let s = spotted M j l in
      bound_of_lem m (spot M j).0 (spot M j).1 s.ranked s.placed (omega (arith, s.stands))
      ∙ sym (spot_bound N (suc j) _ _ (spot_alike (suc j) _ _ (omega arith) s) m)

-- ---- the whole text

pub text_alike : (M N : Layers) → Alike M N (line_count M) → text_of M ≡ text_of N
unfolding text_to
text_alike M N a =
    joined_same _ _ (line_count M) (λ j h. ap line_bytes (line_alike M N (line_count M) a j h h))
    ∙ ap (text_to N) (sym (count_alike M N (line_count M) a refl))
