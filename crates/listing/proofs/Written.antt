-- Lists and numbers one after another; layers written out: the listing says what they say, and has a good shape; layers
-- that say the same are written alike.
-- Assumes nothing.
use mathlib.Core.Path.{◌≡◌, refl, sym, ap, ◌∙◌}
use mathlib.Core.List.{List, [], ◌∷◌, ◌++◌, append_assoc, append-nil}
use Prim.Native.Nat.{ℕ, zero, suc, ◌+◌, ◌-◌, ◌*◌, ◌/◌, ◌%◌, ◌≤◌, ◌<◌}
use native.Mathlib.Decide.{dec_lt}
use native.Mathlib.Numerals.{add-one}
use native.Mathlib.Omega.{arith}
use lib.ListN.{length, get_or, take, drop, length-append, get_or-append, get_or-eq_default}
use lib.Seq.{take_at, drop_at, get_or_at, get_or-append-add}
use Rattle.order.specs.Sums.{sum, part_at}
use Rattle.order.proofs.Sums.{sum_le, sum_lt, sum_same, part_ok, part_at_lem}
use Rattle.listing.specs.Listing.{Limits, rank, count, before, start, entries, side, subs, sups}
use Rattle.listing.specs.Shape.{elements, Shaped}
use Rattle.listing.specs.Layers.{Layers, Topped}
use Rattle.listing.specs.Written.{joined, tabulated, lengths, list_at, nth, written}
use Rattle.listing.proofs.Sequences.{sum_parts, sum_twos}
use Rattle.listing.proofs.Layers.{in_range}

-- ---- lists one after another

module _ (f : ℕ → List ℕ) where
  pub joined_length : (n : ℕ) → length (joined f n) ≡ sum (lengths f) n
  unfolding joined sum
  joined_length zero = refl
  joined_length (suc n) = omega (arith, length-append (joined f n) (f n), joined_length n)

  -- the lists before the ith, the ith, and what follows
  pub joined_split : (n i : ℕ) → i < n → (t : List ℕ) × (joined f n ≡ joined f i ++ (f i ++ t))
  unfolding joined
  joined_split zero i h = absurd (omega arith)
  joined_split (suc n) i h = go (λ l. joined_split n i l) (dec_lt i n)
    where
      go : (i < n → (t : List ℕ) × (joined f n ≡ joined f i ++ (f i ++ t))) → Dec (i < n)
          → (t : List ℕ) × (joined f n ++ f n ≡ joined f i ++ (f i ++ t))
      go ih (yes l) = let r = ih l in (r.0 ++ f n, ap (λ s. s ++ f n) r.1 ∙ simp append_assoc)
      go ih (no l) =
          let e : i ≡ n = omega arith in
          ([], rw (e, append-nil))

  joined_slice : (n i : ℕ) → i < n → take (length (f i)) (drop (sum (lengths f) i) (joined f n)) ≡ f i
  joined_slice n i h =
      let s = joined_split n i h in
      rw (s.1, drop_at (joined f i) (f i ++ s.0) (sum (lengths f) i) (joined_length i))
      (take_at (f i) s.0 (length (f i)) refl)

  pub joined_next : (n : ℕ) → joined f (n + 1) ≡ joined f n ++ f n
  unfolding joined
  joined_next n = rw add-one

  pub joined_longer : (n : ℕ) → length (joined f (n + 1)) ≡ length (joined f n) + length (f n)
  joined_longer n = ap length (joined_next n) ∙ length-append (joined f n) (f n)

  -- the first a of them, and b behind
  pub joined_add : (a b : ℕ) → joined f (a + b) ≡ joined f a ++ joined (λ i. f (a + i)) b
  unfolding joined
  joined_add a zero =
      let z : a + 0 ≡ a = omega arith in
      rw z (sym (append-nil (joined f a)))
  joined_add a (suc b) =
      let e : a + suc b ≡ suc (a + b) = omega arith in
      ap (joined f) e ∙ ap (λ (s : List ℕ). s ++ f (a + b)) (joined_add a b)
      ∙ append_assoc (joined f a) (joined (λ i. f (a + i)) b) (f (a + b))

  pub joined_le : (i n : ℕ) → i ≤ n → length (joined f i) ≤ length (joined f n)
  joined_le i n h = omega (arith, joined_length i, joined_length n, sum_le (lengths f) i n h)

-- a number of the tth list
pub joined_at : (f : ℕ → List ℕ) (n t j : ℕ) → t < n → j < length (f t)
    → get_or (joined f n) (sum (lengths f) t + j) 0 ≡ get_or (f t) j 0
joined_at f n t j h l =
    let s = joined_split f n t h in
    rw (s.1, ← joined_length f t)
    (get_or-append-add (joined f t) (f t ++ s.0) j 0 ∙ get_or-append (f t) s.0 0 j l)

pub joined_same : (f g : ℕ → List ℕ) (n : ℕ) → ((i : ℕ) → i < n → f i ≡ g i) → joined f n ≡ joined g n
unfolding joined
joined_same f g zero h = refl
joined_same f g (suc n) h = rw (joined_same f g n (λ i l. h i (omega arith)), h n (omega arith))

-- the first of them, and those behind
pub joined_first : (f : ℕ → List ℕ) (n : ℕ) → joined f (suc n) ≡ f 0 ++ joined (λ i. f (suc i)) n
unfolding joined
joined_first f n =
    let e : suc n ≡ 1 + n = omega arith in
    ap (joined f) e ∙ joined_add f 1 n
    ∙ ap (λ (s : List ℕ). f 0 ++ s) (joined_same _ _ n (λ i h. ap f (omega arith)))

-- lists that fall into parts, part after part: the first r of n parts
pub joined_parts : (g : ℕ × ℕ → List ℕ) (size : ℕ → ℕ) (n r : ℕ) → r ≤ n
    → joined (λ k. g (part_at size n k)) (sum size r) ≡ joined (λ q. joined (λ i. g (q, i)) (size q)) r
unfolding joined sum
joined_parts g size n zero h = refl
joined_parts g size n (suc r) h =
    joined_add (λ k. g (part_at size n k)) (sum size r) (size r)
    ∙ (λ t. joined_parts g size n r (omega arith) t ++ last t)
  where
    last : joined (λ i. g (part_at size n (sum size r + i))) (size r) ≡ joined (λ i. g (r, i)) (size r)
    last = joined_same _ _ (size r) (λ i l. ap g (part_at_lem size n r i (omega arith) l))

-- ---- numbers one after another

module _ (f : ℕ → ℕ) where
  pub tabulated_length : (n : ℕ) → length (tabulated f n) ≡ n
  unfolding tabulated joined
  tabulated_length zero = refl
  tabulated_length (suc n) = omega (arith, length-append (tabulated f n) (f n ∷ []), tabulated_length n)

  pub tabulated_at : (n i : ℕ) → i < n → get_or (tabulated f n) i 0 ≡ f i
  unfolding tabulated
  tabulated_at n i h =
      let s = joined_split (λ k. f k ∷ []) n i h in
      rw s.1 (get_or_at (tabulated f i) (f i) s.0 0 i (tabulated_length i))

pub tabulated_same : (f g : ℕ → ℕ) (n : ℕ) → ((i : ℕ) → i < n → f i ≡ g i) → tabulated f n ≡ tabulated g n
unfolding tabulated
tabulated_same f g n h = joined_same _ _ n (λ i l. ap (λ x. x ∷ []) (h i l))

-- ---- the three lists

-- how many lists there are: two for each element
abbrev pub lists : Layers → ℕ
lists M = 2 * sum M.size (suc M.top)

-- how many incidences there are: what the lists of all elements hold together
abbrev pub total : Layers → (ℕ → ℕ → List ℕ) → ℕ
total M above = sum (λ r. sum (λ i. length (M.under r i) + length (above r i)) (M.size r)) (suc M.top)

module _ (M : Layers) (above : ℕ → ℕ → List ℕ) where
  pub written_counts_length : length (written M above).counts ≡ suc M.top
  unfolding written
  written_counts_length = tabulated_length M.size (suc M.top)

  pub written_ends_length : length (written M above).ends ≡ lists M
  unfolding written
  written_ends_length = tabulated_length _ (lists M)

  pub written_rank : rank (written M above) ≡ M.top
  written_rank = omega (arith, written_counts_length)

  -- a list begins where the lists before it end
  written_start : (k : ℕ) → k ≤ lists M → start (written M above).ends k ≡ sum (lengths (nth M above)) k
  unfolding written sum
  written_start zero h = refl
  written_start (suc k) h = tabulated_at (λ n. sum (lengths (nth M above)) (suc n)) (lists M) k h

  written_entries : (k : ℕ) → k < lists M → entries (written M above).ends (written M above).inc k ≡ nth M above k
  unfolding entries written sum
  written_entries k h =
      let n : ℕ → ℕ = lengths (nth M above) in
      let e : sum n (suc k) - sum n k ≡ n k = omega arith in
      rw (written_start (suc k) h, written_start k (omega arith), e) (joined_slice (nth M above) (lists M) k h)

  -- where a list of an element stands
  pub nth_at : (s r i : ℕ) → s < 2 → r ≤ M.top → i < M.size r
      → nth M above (2 * (sum M.size r + i) + s) ≡ list_at M above s (r, i)
  unfolding nth
  nth_at s r i hs hr hi =
      let d : (2 * (sum M.size r + i) + s) / 2 ≡ sum M.size r + i = omega arith in
      let e : (2 * (sum M.size r + i) + s) % 2 ≡ s = omega arith in
      rw (d, e, part_at_lem M.size (suc M.top) r i (omega arith) hi)

  -- the lengths of all lists together, in the order of the lists and by elements
  lengths_total : sum (lengths (nth M above)) (lists M) ≡ total M above
  unfolding list_at
  lengths_total =
      sum_twos _ (sum M.size (suc M.top)) ∙ sum_parts _ M.size (suc M.top)
      ∙ sum_same _ _ (suc M.top) (λ r h. sum_same _ _ (M.size r) (both r (omega arith)))
    where
      both : (r : ℕ) → r ≤ M.top → (i : ℕ) → i < M.size r
          → length (nth M above (2 * (sum M.size r + i) + 0)) + length (nth M above (2 * (sum M.size r + i) + 1))
          ≡ length (M.under r i) + length (above r i)
      both r h i l = rw (nth_at 0 r i (omega arith) h l, nth_at 1 r i (omega arith) h l)

  inc_lengths : length (written M above).inc ≡ sum (lengths (nth M above)) (lists M)
  unfolding written
  inc_lengths = joined_length (nth M above) (lists M)

  pub written_inc_length : length (written M above).inc ≡ total M above
  written_inc_length = inc_lengths ∙ lengths_total

  written_rising : (k : ℕ) → k < lists M → start (written M above).ends k ≤ get_or (written M above).ends k 0
  unfolding sum
  written_rising k h = omega (arith, written_start k (omega arith), written_start (suc k) h)

  written_full : start (written M above).ends (length (written M above).ends) ≡ length (written M above).inc
  written_full = rw written_ends_length (written_start (lists M) (omega arith) ∙ sym inc_lengths)

-- ---- what it says

module _ (M : Layers) (above : ℕ → ℕ → List ℕ) (t : Topped M) where
  pub written_count : (r : ℕ) → count (written M above) r ≡ M.size r
  unfolding written Topped
  written_count r = go (dec_lt M.top r)
    where
      go : Dec (M.top < r) → get_or (tabulated M.size (suc M.top)) r 0 ≡ M.size r
      go (yes l) =
          let n = tabulated_length M.size (suc M.top) in
          get_or-eq_default (tabulated M.size (suc M.top)) 0 (omega arith) ∙ sym (t r l)
      go (no l) = tabulated_at M.size (suc M.top) r (omega arith)

  pub written_before : (r : ℕ) → before (written M above).counts r ≡ sum M.size r
  unfolding before
  written_before r = sum_same _ M.size r (λ k h. written_count k)

  pub written_elements : elements (written M above) ≡ sum M.size (suc M.top)
  written_elements = rw (written_counts_length M above) (written_before (suc M.top))

  written_side : (s r i : ℕ) → s < 2 → i < M.size r → side (written M above) s r i ≡ list_at M above s (r, i)
  written_side s r i hs hi =
      let hr = in_range M t r i hi in
      let l = sum_lt M.size r (suc M.top) i (omega arith) hi in
      rw (written_before r) (written_entries M above _ (omega arith) ∙ nth_at M above s r i hs hr hi)

  pub written_subs : (r i : ℕ) → i < M.size r → subs (written M above) r i ≡ M.under r i
  unfolding list_at
  written_subs r i h = written_side 0 r i (omega arith) h

  pub written_sups : (r i : ℕ) → i < M.size r → sups (written M above) r i ≡ above r i
  unfolding list_at
  written_sups r i h = written_side 1 r i (omega arith) h

  -- within the limits it has a good shape
  pub written_shaped : (m : Limits) → suc M.top ≤ m.ranks → sum M.size (suc M.top) ≤ m.elements
      → total M above ≤ m.incidences → Shaped m (written M above)
  written_shaped m hr he hi = record {
    some_rank = omega (arith, written_counts_length M above);
    few_ranks = omega (arith, written_counts_length M above);
    few_elements = omega (arith, written_elements);
    two_ends_each = omega (arith, written_ends_length M above, written_elements);
    few_incidences = omega (arith, written_inc_length M above);
    rising = λ k h. written_rising M above k (omega (arith, written_ends_length M above));
    full = written_full M above;
  }

-- ---- layers that say the same are written alike

module _ (M N : Layers) (a b : ℕ → ℕ → List ℕ) (p : M.top ≡ N.top) (q : (r : ℕ) → M.size r ≡ N.size r)
    (u : (r i : ℕ) → i < M.size r → M.under r i ≡ N.under r i)
    (v : (r i : ℕ) → i < M.size r → a r i ≡ b r i) where
  same_list : (s : ℕ) (x : ℕ × ℕ) → x.1 < M.size x.0 → list_at M a s x ≡ list_at N b s x
  unfolding list_at
  same_list s x h = rw (u x.0 x.1 h, v x.0 x.1 h)

  same_nth : (n : ℕ) → n < lists M → nth M a n ≡ nth N b n
  unfolding nth
  same_nth n h =
      same_list (n % 2) _ (part_ok M.size (suc M.top) (n / 2) (omega arith)).1
      ∙ (λ t. list_at N b (n % 2) (part_at (λ r. q r t) (suc (p t)) (n / 2)))

  same_lists : lists M ≡ lists N
  same_lists = λ t. 2 * sum (λ r. q r t) (suc (p t))

  pub written_same : written M a ≡ written N b
  unfolding written
  written_same = λ t. record { counts = tabulated (λ r. q r t) (suc (p t)); ends = ends t; inc = inc t }
    where
      ends : (written M a).ends ≡ (written N b).ends
      ends =
          tabulated_same _ _ (lists M) (λ i h. sum_same _ _ (suc i) (λ k l. ap length (same_nth k (omega arith))))
          ∙ ap (tabulated (λ n. sum (lengths (nth N b)) (suc n))) same_lists

      inc : (written M a).inc ≡ (written N b).inc
      inc = joined_same _ _ _ same_nth ∙ ap (joined (nth N b)) same_lists
