-- No second answer fits what is promised of a search that found its flags: it determines each number of the table and
-- the bytes, the count, the place and whether they are orientable.
-- Assumes nothing.
use mathlib.Core.Path.{◌≡◌, sym, ap, ◌∙◌}
use mathlib.Core.Logic.{◌≢◌, inl, inr}
use mathlib.Core.List.Memᴰ
use mathlib.Core.List.{List, [], ◌∷◌, ◌++◌}
use Prim.Native.Nat.{ℕ, zero, suc, ◌+◌, ◌-◌, ◌*◌, ◌≤◌, ◌<◌}
use native.Mathlib.Decide.{ℕ_discrete, dec_lt}
use native.Mathlib.Omega.{arith}
use lib.ListN.{length, get_or, take, drop, take-append-drop}
use lib.Seq.{ext_get_or, get_or-drop}
use Rattle.order.specs.Lists.{Earlier}
use Rattle.order.proofs.Earlier.{Compared, compare, earlier_at}
use Rattle.listing.specs.Listing.{Listing, rank}
use Rattle.flag_change.specs.Change.{change_at}
use Rattle.search_theory.specs.Search.{Once, Colouring}
use Rattle.search_theory.proofs.Once.{mem_at}
use Rattle.search_index.specs.Rows.{row_of, rows, flatten}
use Rattle.search_index.proofs.Rows.{rows_length, rows_at, rows_flat}
use Rattle.search.specs.declared.Searched.{Searched}
use Rattle.search.specs.Exact.{Leads, FirstMet, Repeat, Holds, Finds}

-- ---- nothing stands twice

once_apart : (l : List (List ℕ)) → Once l → (j k : ℕ) → j < k → k < length l → get_or l j [] ≢ get_or l k []
unfolding Once
once_apart [] o j k h i = absurd (omega arith)
once_apart (x ∷ l) o j zero h i = absurd (omega arith)
once_apart (x ∷ l) o zero (suc k) h i = λ e. o.0 (Memᴰ.cast e (mem_at l [] k (omega arith)))
once_apart (x ∷ l) o (suc j) (suc k) h i = once_apart l o.1 j k (omega arith) (omega arith)

-- no two of the first n rows are the same
abbrev Apart : ℕ → (ℕ → List ℕ) → Type 0
Apart n row = (j k : ℕ) → j < k → k < n → row j ≢ row k

rows_apart : (w : ℕ) (table : List ℕ) (n : ℕ) → Once (rows w table n) → Apart n (row_of w table)
rows_apart w table n o j k h i =
    rw (rows_at w table n j [] (omega arith), rows_at w table n k [] i)
    at (once_apart (rows w table n) o j k h (omega (arith, rows_length w table n)))

apart_same : (n : ℕ) (row : ℕ → List ℕ) → Apart n row → (j k : ℕ) → j < n → k < n → row j ≡ row k → j ≡ k
apart_same n row o j k h i e = go (dec_lt j k) (dec_lt k j)
  where
    go : Dec (j < k) → Dec (k < j) → j ≡ k
    go (yes a) b = absurd (o j k a i e)
    go (no a) (yes b) = absurd (o k j b h (sym e))
    go (no a) (no b) = omega arith

-- ---- the rows and their bytes

module _ (L : Listing) (mask : ℕ) where
  -- the kth did not come earlier in one table than in the other, where these are the same before it
  not_earlier : (row row' : ℕ → List ℕ) (byte byte' : ℕ → ℕ) (k : ℕ) → ((j : ℕ) → j < k → row j ≡ row' j)
      → ((j : ℕ) → j < k → row j ≢ row k) → (c : FirstMet L mask row byte k) (d : FirstMet L mask row' byte' k)
      → ¬ Earlier c.from c.at d.from d.at
  not_earlier row row' byte byte' k e o c d h =
      let s = d.first c.from c.at h c.in_mask in
      o s.index s.below
      (e s.index s.below ∙ s.is ∙ ap (change_at L c.at) (sym (e c.from c.earlier)) ∙ sym c.is)

  module _ (row row' : ℕ → List ℕ) (byte byte' : ℕ → ℕ) (n : ℕ) (o : Apart n row) (o' : Apart n row')
      (f : (k : ℕ) → 0 < k → k < n → FirstMet L mask row byte k)
      (f' : (k : ℕ) → 0 < k → k < n → FirstMet L mask row' byte' k) where
    abbrev Same : ℕ → Type 0
    Same k = (row k ≡ row' k) × (byte k ≡ byte' k)

    same_next : (k : ℕ) → 0 < k → k < n → ((j : ℕ) → j < k → Same j) → Same k
    same_next k z h e = go (compare c.from c.at d.from d.at)
      where
        c : FirstMet L mask row byte k
        c = f k z h

        d : FirstMet L mask row' byte' k
        d = f' k z h

        go : Compared c.from c.at d.from d.at → Same k
        go (inl l) =
            absurd (not_earlier row row' byte byte' k (λ j i. (e j i).0) (λ j i. o j k i h) c d l)
        go (inr (inl l)) =
            absurd (not_earlier row' row byte' byte k (λ j i. sym (e j i).0) (λ j i. o' j k i h) d c l)
        go (inr (inr l)) =
            let i = e c.from c.earlier in (
              c.is ∙ ap (change_at L c.at) (i.0 ∙ ap row' l.0) ∙ ap (λ r. change_at L r (row' d.from)) l.1
                  ∙ sym d.is,
              c.turned ∙ ap (λ x. 1 - x) (i.1 ∙ ap byte' l.0) ∙ sym d.turned,
            )

    same_course : Same 0 → (m : ℕ) → m ≤ n → (k : ℕ) → k < m → Same k
    same_course s zero h k i = absurd (omega arith)
    same_course s (suc m) h k i = go (dec_lt k m) (ℕ_discrete k 0) (same_course s m (omega arith))
      where
        go : Dec (k < m) → Dec (k ≡ 0) → ((j : ℕ) → j < m → Same j) → Same k
        go (yes a) b ih = ih k a
        go (no a) (yes b) ih = rw b s
        go (no a) (no b) ih = same_next k (omega arith) (omega arith) (λ j l. ih j (omega arith))

  -- ---- the place

  module _ (row : ℕ → List ℕ) (byte : ℕ → ℕ) (n : ℕ) (o : Apart n row) where
    sooner : (p q : ℕ) → p ≤ n → q ≤ n → (c : Repeat L mask row byte p) (d : Repeat L mask row byte q)
        → ¬ Earlier c.from c.at d.from d.at
    sooner p q h k c d e =
        let s = d.met c.from c.at e c.in_mask in
        let i : s.index ≡ c.index =
        apart_same n row o s.index c.index (omega (arith, s.below)) (omega (arith, c.below))
        (s.is ∙ sym c.is) in
        let b : byte c.index ≡ 1 - byte c.from = sym (ap byte i) ∙ s.with in
        omega (arith, b, c.alike)

    fewer : (p q : ℕ) → p ≤ n → q ≤ n → (c : Repeat L mask row byte p) (d : Repeat L mask row byte q)
        → c.from ≡ d.from → c.at ≡ d.at → p ≤ q
    fewer p q h k c d e a = go (dec_lt q p)
      where
        go : Dec (q < p) → p ≤ q
        go (no l) = omega arith
        go (yes l) =
            let t = c.few q (omega (arith, d.known)) l in
            let s = d.met t.0 t.1 (earlier_at e a t.2) t.3 in
            let i : s.index ≡ q =
            apart_same n row o s.index q (omega (arith, s.below)) (omega arith) (s.is ∙ sym t.4) in
            absurd (omega (arith, i, s.below))

    same_place : (p q : ℕ) → p ≤ n → q ≤ n → Repeat L mask row byte p → Repeat L mask row byte q → p ≡ q
    same_place p q h k c d = go (compare c.from c.at d.from d.at)
      where
        go : Compared c.from c.at d.from d.at → p ≡ q
        go (inl l) = absurd (sooner p q h k c d l)
        go (inr (inl l)) = absurd (sooner q p k h d c l)
        go (inr (inr l)) =
            omega (arith, fewer p q h k c d l.0 l.1, fewer q p k h d c (sym l.0) (sym l.1))

-- ---- the slices

module _ {L : Listing} {first : List ℕ} {mask : ℕ} {table bytes t b t' b' : List ℕ} {n : ℕ}
    (H : Holds L first mask t b table bytes n) (H' : Holds L first mask t' b' table bytes n) where
  abbrev w : ℕ
  w = rank L + 1

  same : (k : ℕ) → k < n → (row_of w t k ≡ row_of w t' k) × (get_or b k 0 ≡ get_or b' k 0)
  same k h =
      let s = H.start (omega arith) in
      let s' = H'.start (omega arith) in
      same_course L mask (row_of w t) (row_of w t') (λ i. get_or b i 0) (λ i. get_or b' i 0) n
      (rows_apart w t n H.once) (rows_apart w t' n H'.once) H.came H'.came
      (s.0 ∙ sym s'.0, s.1 ∙ sym s'.1) n (omega arith) k h

  same_rows : rows w t n ≡ rows w t' n
  same_rows =
      let l = rows_length w t n in
      ext_get_or [] (rows w t n) (rows w t' n) (l ∙ sym (rows_length w t' n))
      (λ k h.
      let i : k < n = omega arith in
      rows_at w t n k [] i ∙ (same k i).0 ∙ sym (rows_at w t' n k [] i))

  same_bytes : (k : ℕ) → k < length b → get_or b k 0 ≡ get_or b' k 0
  same_bytes k h = go (dec_lt k n)
    where
      go : Dec (k < n) → get_or b k 0 ≡ get_or b' k 0
      go (yes i) = (same k i).1
      go (no i) =
          let z : n + (k - n) ≡ k = omega arith in
          rw z at (sym (get_or-drop n b (k - n) 0) ∙ ap (λ l. get_or l (k - n) 0) (H.bytes_past ∙ sym H'.bytes_past)
          ∙ get_or-drop n b' (k - n) 0)

  -- The table and the bytes that hold n flags are determined, number by number.
  pub one_table : (t ≡ t') × (b ≡ b')
  one_table = (
    sym (take-append-drop (n * w) t)
        ∙ ap (λ l. l ++ drop (n * w) t) (sym (rows_flat w t n) ∙ ap flatten same_rows ∙ rows_flat w t' n)
        ∙ ap (λ l. take (n * w) t' ++ l) (H.past ∙ sym H'.past)
        ∙ take-append-drop (n * w) t',
    ext_get_or 0 b b' (H.bytes_long ∙ sym H'.bytes_long) same_bytes,
  )

module _ {L : Listing} {first : List ℕ} {mask : ℕ} {t b t' b' : List ℕ} {r r' : Searched}
    (F : Finds L first mask t b r) (F' : Finds L first mask t' b' r') where
  same_count : r.count ≡ r'.count
  same_count = omega (arith, F.count.1 r'.count F'.count.0, F'.count.1 r.count F.count.0)

  same_orientable : r.orientable ≡ r'.orientable
  same_orientable = go (ℕ_discrete r.orientable 1)
    where
      go : Dec (r.orientable ≡ 1) → r.orientable ≡ r'.orientable
      go (yes e) = e ∙ sym (F'.orientable.1 (F.orientable.0 e))
      go (no e) =
          let n : ¬ Colouring (Leads L mask) first = λ c. e (F.orientable.1 c) in
          F.not_orientable.1 n ∙ sym (F'.not_orientable.1 n)

-- The count and the place of an answer are determined by the slices.
pub one_count : {L : Listing} {first : List ℕ} {mask : ℕ} {table bytes t b : List ℕ} {r r' : Searched}
    → Holds L first mask t b table bytes r.count → Finds L first mask t b r → Finds L first mask t b r'
    → (r.count ≡ r'.count) × (r.place ≡ r'.place)
one_count {L} {first} {mask} {table} {bytes} {t} {b} {r} {r'} H F F' =
    (many, go (ℕ_discrete r.place 0) (ℕ_discrete r'.place 0))
  where
    many : r.count ≡ r'.count
    many = same_count F F'

    go : Dec (r.place ≡ 0) → Dec (r'.place ≡ 0) → r.place ≡ r'.place
    go (yes a) (yes c) = a ∙ sym c
    go (yes a) (no c) = absurd (omega (arith, a, F.place.1 (F'.place.0 (omega arith))))
    go (no a) (yes c) = absurd (omega (arith, c, F'.place.1 (F.place.0 (omega arith))))
    go (no a) (no c) =
        same_place L mask (row_of (rank L + 1) t) (λ k. get_or b k 0) r.count
        (rows_apart (rank L + 1) t r.count H.once) r.place r'.place F.placed
        (omega (arith, F'.placed, many)) (F.event (omega arith)) (F'.event (omega arith))

-- Two outcomes of one call that are both promised, and in both of which the flags were found, are the same.
pub one_found : {L : Listing} {first : List ℕ} {mask : ℕ} {table bytes t b t' b' : List ℕ} {r r' : Searched}
    → Holds L first mask t b table bytes r.count → Finds L first mask t b r
    → Holds L first mask t' b' table bytes r'.count → Finds L first mask t' b' r'
    → (r.count ≡ r'.count) × (r.place ≡ r'.place) × (r.orientable ≡ r'.orientable) × (t ≡ t') × (b ≡ b')
one_found H F H' F' =
    let n = same_count F F' in
    let s = one_table H (rw (sym n) at H') in
    let p = one_count H F (rw (sym s.0, sym s.1) at F') in
    (n, p.1, same_orientable F F', s.0, s.1)
