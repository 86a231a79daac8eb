-- Flags in a table: whether two are the same, the rows one after another, and one more row.
-- Assumes nothing.
use mathlib.Core.Path.{◌≡◌, refl, sym, ap, ap₂, ◌∙◌}
use mathlib.Core.Bool.{Bool, true, false, true≢false, ◌&&◌}
use mathlib.Core.List.{List, [], ◌∷◌, ◌++◌, append_assoc, append-nil}
use Prim.Native.Nat.{ℕ, zero, suc, ◌+◌, ◌-◌, ◌*◌, ◌≤◌, ◌<◌}
use native.Mathlib.Nat.{mul-le-mul_right, suc-mul, zero-mul}
use native.Mathlib.Numerals.{add-one}
use native.Mathlib.Omega.{arith}
use borrow.Author.Tests.{eq-eqb, ne_eqb, eqb-true, eqb-false}
use lib.Dec.{eqb}
use lib.ListN.{length, get_or, take, drop, set, length-drop, drop_of_length-le, get_or-append}
use lib.Seq.{length-take-le, drop-cons, take_at, get_or_at, get_or-take, get_or-drop, take-add}
use lib.Seq.{take-append-le, drop-append-le, drop_at, ext_get_or, paste, length_paste_head, length-paste}
use lib.Seq.{drop-paste, paste-suc, take-length}
use Rattle.order.proofs.Tests.{and_true}
use Rattle.search_theory.specs.Search.{Decides}
use Rattle.search_theory.proofs.Once.{length_snoc}
use Rattle.search_index.specs.Rows.{row_of, rows, same_list, flatten}

-- ---- the same list

same_refl : (l : List ℕ) → same_list l l ≡ true
unfolding same_list
same_refl [] = refl
same_refl (x ∷ l) = rw (eq-eqb x x refl, same_refl l)

same_eq : (l m : List ℕ) → same_list l m ≡ true → l ≡ m
unfolding same_list
same_eq [] [] e = refl
same_eq [] (y ∷ m) e = absurd (true≢false (sym e))
same_eq (x ∷ l) [] e = absurd (true≢false (sym e))
same_eq (x ∷ l) (y ∷ m) e =
    let p = and_true (eqb x y) (same_list l m) e in
    ap₂ (λ z n. z ∷ n) (eqb-true x y p.0) (same_eq l m p.1)

pub same_decides : Decides same_list
same_decides l m = (same_eq l m, λ e. rw e (same_refl m))

-- ---- one row

pub row_end : (k n w : ℕ) → k < n → k * w + w ≤ n * w
row_end k n w h = omega (arith, mul-le-mul_right w h, suc-mul k w)

module _ (w : ℕ) (table : List ℕ) (k : ℕ) where
  pub row_length : k * w + w ≤ length table → length (row_of w table k) ≡ w
  unfolding row_of
  row_length h = length-take-le w (drop (k * w) table) (omega (arith, length-drop (k * w) table))

  row_at : (j : ℕ) → j < w → get_or (row_of w table k) j 0 ≡ get_or table (k * w + j) 0
  unfolding row_of
  row_at j h = get_or-take w (drop (k * w) table) j 0 h ∙ get_or-drop (k * w) table j 0

-- the numbers of the table from where row k begins to where it ends
pub row_between : (w : ℕ) (table : List ℕ) (k : ℕ) → take (k * w + w - k * w) (drop (k * w) table) ≡ row_of w table k
unfolding row_of
row_between w table k =
    let z : k * w + w - k * w ≡ w = omega arith in
    rw z

-- a row is compared with a flag, number by number: the answer to the whole is the answer to what is left
module _ (row flag : List ℕ) (z : length row ≡ length flag) (j : ℕ)
    (e : same_list row flag ≡ same_list (drop j row) (drop j flag)) where
  pub same_inside : j < length flag → j < length row
  same_inside i = omega (arith, z)

  split : j < length flag → same_list row flag
      ≡ (eqb (get_or row j 0) (get_or flag j 0) && same_list (drop (suc j) row) (drop (suc j) flag))
  unfolding same_list
  split i = e ∙ rw (drop-cons row j 0 (same_inside i), drop-cons flag j 0 i)

  pub same_next : j < length flag → get_or row j 0 ≡ get_or flag j 0
      → same_list row flag ≡ same_list (drop (j + 1) row) (drop (j + 1) flag)
  same_next i q = split i ∙ rw (add-one, eq-eqb _ _ q)

  pub same_stop : j < length flag → (get_or row j 0 ≡ get_or flag j 0 → ⊥) → false ≡ same_list row flag
  same_stop i q = sym (split i ∙ rw (ne_eqb _ _ q))

  pub same_end : length flag ≤ j → true ≡ same_list row flag
  unfolding same_list
  same_end i =
      sym (e ∙ rw (drop_of_length-le row {i = j} (omega (arith, z))) (rw (drop_of_length-le flag {i = j} i)))

-- a row is as the first numbers of the table are
row_kept : (w : ℕ) (t u : List ℕ) (k n : ℕ) → k < n → n * w ≤ length t → n * w ≤ length u
    → take (n * w) u ≡ take (n * w) t
    → row_of w u k ≡ row_of w t k
row_kept w t u k n h p q e =
    ext_get_or 0 (row_of w u k) (row_of w t k) (a ∙ sym (row_length w t k (omega (arith, row_end k n w h)))) same
  where
    a : length (row_of w u k) ≡ w
    a = row_length w u k (omega (arith, row_end k n w h))

    same : (j : ℕ) → j < length (row_of w u k) → get_or (row_of w u k) j 0 ≡ get_or (row_of w t k) j 0
    same j i =
        let l : j < w = omega (arith, a) in
        let b : k * w + j < n * w = omega (arith, row_end k n w h) in
        row_at w u k j l ∙ sym (get_or-take (n * w) u (k * w + j) 0 b) ∙ ap (λ l. get_or l (k * w + j) 0) e
        ∙ get_or-take (n * w) t (k * w + j) 0 b ∙ sym (row_at w t k j l)

-- ---- the first rows

module _ (w : ℕ) (table : List ℕ) where
  pub rows_length : (n : ℕ) → length (rows w table n) ≡ n
  unfolding rows
  rows_length zero = refl
  rows_length (suc n) = length_snoc (rows w table n) (row_of w table n) ∙ ap suc (rows_length n)

  rows_next : (n : ℕ) → rows w table (n + 1) ≡ rows w table n ++ (row_of w table n ∷ [])
  unfolding rows
  rows_next n = rw add-one

  -- row k of the table is the kth of the rows
  pub rows_at : (n k : ℕ) (d : List ℕ) → k < n → get_or (rows w table n) k d ≡ row_of w table k
  unfolding rows
  rows_at zero k d h = absurd (omega arith)
  rows_at (suc n) k d h = go (eqb k n) refl (rows_at n k d)
    where
      go : (q : Bool) → eqb k n ≡ q → (k < n → get_or (rows w table n) k d ≡ row_of w table k)
          → get_or (rows w table n ++ (row_of w table n ∷ [])) k d ≡ row_of w table k
      go true e ih =
          let z : k ≡ n = eqb-true k n e in
          rw z (get_or_at (rows w table n) (row_of w table n) [] d n (rows_length n))
      go false e ih =
          let l : k < n = omega (arith, eqb-false k n e) in
          get_or-append (rows w table n) (row_of w table n ∷ []) d k (omega (arith, rows_length n)) ∙ ih l

flatten_snoc : (l : List (List ℕ)) (f : List ℕ) → flatten (l ++ (f ∷ [])) ≡ flatten l ++ f
unfolding flatten
flatten_snoc [] f = append-nil f
flatten_snoc (g ∷ l) f = ap (λ m. g ++ m) (flatten_snoc l f) ∙ sym (append_assoc g (flatten l) f)

-- the rows one after another are the first numbers of the table
pub rows_flat : (w : ℕ) (table : List ℕ) (n : ℕ) → flatten (rows w table n) ≡ take (n * w) table
unfolding rows flatten row_of
rows_flat w table zero = rw (zero-mul w)
rows_flat w table (suc n) =
    flatten_snoc (rows w table n) (row_of w table n) ∙ ap (λ l. l ++ row_of w table n) (rows_flat w table n)
    ∙ sym (ap (λ k. take k table) (suc-mul n w) ∙ take-add (n * w) w table)

rows_kept : (w : ℕ) (t u : List ℕ) (m n : ℕ) → m ≤ n → n * w ≤ length t → n * w ≤ length u
    → take (n * w) u ≡ take (n * w) t → rows w u m ≡ rows w t m
unfolding rows
rows_kept w t u zero n h p q e = refl
rows_kept w t u (suc m) n h p q e =
    ap₂ (λ l f. l ++ (f ∷ [])) (rows_kept w t u m n (omega arith) p q e) (row_kept w t u m n h p q e)

-- ---- one more row

pub put_next : (t : List ℕ) (at : ℕ) (f : List ℕ) (j : ℕ) (u : List ℕ) → u ≡ paste t at f j → at + j < length t
    → j < length f → set u (at + j) (get_or f j 0) ≡ paste t at f (j + 1)
put_next t at f j u e h g = rw (e, add-one) (paste-suc t at f j 0 h g)

module _ (t : List ℕ) (n : ℕ) (f : List ℕ) (h : n * length f + length f ≤ length t) where
  abbrev w : ℕ
  w = length f

  -- the table with f in row n
  abbrev T : List ℕ
  T = paste t (n * w) f w

  pub put_length : length T ≡ length t
  put_length = length-paste t (n * w) f w h (omega arith)

  head_length : length (take (n * w) t ++ take w f) ≡ n * w + w
  head_length = length_paste_head t (n * w) f w (omega arith) (omega arith)

  first_length : length (take (n * w) t) ≡ n * w
  first_length = length-take-le (n * w) t (omega arith)

  put_first : take (n * w) T ≡ take (n * w) t
  put_first =
      take-append-le (n * w) (take (n * w) t ++ take w f) (drop (n * w + w) t) (omega (arith, head_length))
      ∙ take_at (take (n * w) t) (take w f) (n * w) first_length

  pub put_kept : (k : ℕ) → k < n → row_of w T k ≡ row_of w t k
  put_kept k i = row_kept w t T k n i (omega arith) (omega (arith, put_length)) put_first

  pub put_rest : drop ((n + 1) * w) T ≡ drop ((n + 1) * w) t
  put_rest =
      let z : (n + 1) * w ≡ n * w + w = omega arith in
      rw z (drop-paste t (n * w) f w (omega arith) (omega arith))

  pub put_row : row_of w T n ≡ f
  unfolding row_of
  put_row =
      ap (take w)
      (drop-append-le (n * w) (take (n * w) t ++ take w f) (drop (n * w + w) t) (omega (arith, head_length)))
      ∙ ap (λ l. take w (l ++ drop (n * w + w) t)) (drop_at (take (n * w) t) (take w f) (n * w) first_length)
      ∙ take_at (take w f) (drop (n * w + w) t) w (length-take-le w f (omega arith))
      ∙ take-length f

  pub put_rows : rows w T (n + 1) ≡ rows w t n ++ (f ∷ [])
  put_rows =
      rows_next w T n
      ∙ ap₂ (λ l x. l ++ (x ∷ []))
      (rows_kept w t T n n (omega arith) (omega arith) (omega (arith, put_length)) put_first) put_row

-- a row compared with a flag
pub ruleset compared = (row_length, same_inside, same_next, same_stop, same_end)
