-- Numbers parted by commas, one after another: how long they are, and as they are written.
-- Assumes nothing.
use mathlib.Core.Path.{◌≡◌, refl, sym, ap, ◌∙◌}
use mathlib.Core.List.{List, [], ◌∷◌, ◌++◌, append_assoc, append-nil}
use Prim.Native.Nat.{ℕ, ◌+◌, ◌-◌, ◌≤◌, ◌<◌}
use native.Mathlib.Numerals.{add-one}
use native.Mathlib.Omega.{arith}
use lib.ListN.{length, get_or, take, drop, set, length-append, take-append-drop}
use lib.Seq.{take_all, take-suc}
use Rattle.text_theory.specs.Text.{comma, numeral, parted, commas}
use Rattle.text_writing.specs.Writing.{PutAt}
use Rattle.text_writing.proofs.Putting.{put_none, put_byte, put_then, put_as}

-- ---- commas

parted_append : (s t : List ℕ) → parted (s ++ t) ≡ parted s ++ parted t
unfolding parted
parted_append [] t = refl
parted_append (x ∷ s) t =
    ap (λ (l : List ℕ). comma ∷ l)
    (ap (λ (l : List ℕ). numeral x ++ l) (parted_append s t) ∙ sym (append_assoc (numeral x) (parted s) (parted t)))

-- a number, and those behind it
pub commas_some : (l : List ℕ) (x : ℕ) (more : List ℕ) → l ≡ x ∷ more → commas l ≡ numeral x ++ parted more
unfolding commas
commas_some l x more e = rw e

-- how long they are then
pub commas_both : (l : List ℕ) (x : ℕ) (more : List ℕ) → l ≡ x ∷ more
    → length (commas l) ≡ length (numeral x) + length (parted more)
commas_both l x more e = ap length (commas_some l x more e) ∙ length-append (numeral x) (parted more)

pub commas_none : (l : List ℕ) → length l ≡ 0 → commas l ≡ []
unfolding commas
commas_none [] e = refl
commas_none (x ∷ l) e = absurd (omega arith)

pub parted_none : parted [] ≡ []
unfolding parted
parted_none = refl

pub parted_all : (l : List ℕ) (j : ℕ) → length l ≤ j → parted (take j l) ≡ parted l
parted_all l j h = ap parted (take_all j l h)

parted_next : (l : List ℕ) (j : ℕ) → j < length l
    → parted (take (j + 1) l) ≡ parted (take j l) ++ (comma ∷ numeral (get_or l j 0))
unfolding parted
parted_next l j h =
    ap (λ (n : ℕ). parted (take n l)) (add-one j)
    ∙ ap parted (take-suc l j 0 h)
    ∙ parted_append (take j l) (get_or l j 0 ∷ [])
    ∙ ap (λ (s : List ℕ). parted (take j l) ++ (comma ∷ s)) (append-nil (numeral (get_or l j 0)))

-- ---- how long they are

pub parted_longer : (l : List ℕ) (j : ℕ) → j < length l
    → length (parted (take (j + 1) l)) ≡ length (parted (take j l)) + (1 + length (numeral (get_or l j 0)))
parted_longer l j h =
    let a = length-append (parted (take j l)) (comma ∷ numeral (get_or l j 0)) in
    omega (arith, ap length (parted_next l j h), a)

-- the first j are no longer than all
parted_part : (l : List ℕ) (j : ℕ) → length (parted (take j l)) ≤ length (parted l)
parted_part l j =
    let e = ap parted (sym (take-append-drop j l)) ∙ parted_append (take j l) (drop j l) in
    omega (arith, ap length e, length-append (parted (take j l)) (parted (drop j l)))

-- without the first comma
pub commas_length : (l : List ℕ) → length (commas l) ≡ length (parted l) - 1
unfolding commas parted
commas_length [] = refl
commas_length (x ∷ l) = omega arith

-- ---- as they are written

module _ (l : List ℕ) {at : ℕ} {d : List ℕ} (j : ℕ) {d' : List ℕ} {p : ℕ} (s : PutAt (parted (take j l)) at d d' p)
    (h : j < length l) where
  -- there is room for a comma and the next number
  pub row_room : at + length (parted l) ≤ length d → p + 1 + length (numeral (get_or l j 0)) ≤ length d'
  row_room room =
      omega (arith, room, parted_longer l j h, parted_part l (j + 1), s.next, s.laid.same_length)

  pub row_next : p < length d' → (d'' : List ℕ) (q : ℕ)
      → PutAt (numeral (get_or l j 0)) (p + 1) (set d' p comma) d'' q → PutAt (parted (take (j + 1) l)) at d d'' q
  row_next k d'' q b =
      let t = put_then _ _ p d' _ d'' _ q (put_byte comma p d' k) b in
      put_as (sym (parted_next l j h)) (put_then _ _ at d d' d'' p q s t)

-- how long numbers are, one after another
pub ruleset row_lengths = (parted_none, parted_all, parted_longer, commas_length)

-- numbers as they are written: none, one, and those behind it
pub ruleset row_puts = (put_none, parted_none, commas_none, commas_both)
