-- A number and the byte behind it: a comma, and the line goes on; a newline, and it ends; else it is no good line.
-- Assumes nothing.
use mathlib.Core.Path.{◌≡◌, refl, ap, ◌∙◌}
use mathlib.Core.Logic.{◌⊎◌, inl, inr, ⊎_elim}
use mathlib.Core.Bool.{Bool, true, false}
use mathlib.Core.List.{List, [], ◌∷◌, ◌++◌, append_assoc, append-nil}
use Prim.Native.Nat.{ℕ, ◌<◌}
use native.Mathlib.Omega.{arith}
use borrow.Author.Tests.{lt-ltb, ltb-true}
use lib.Dec.{ltb}
use lib.ListN.{length, get_or, drop}
use lib.Seq.{drop-cons, drop-append_seam}
use Rattle.order.proofs.Tests.{and_true}
use Rattle.text_theory.specs.Text.{text_width, newline, comma, numeral, parted, commas}
use Rattle.text_theory.specs.Said.{after_line, values_from, begins, numbers_fit}
use Rattle.text_theory.specs.Digits.{is_digit, digits_in, valued, Numeral, good_row}
use Rattle.text_theory.proofs.Digits.{digits_none, digits_split}
use Rattle.text_theory.proofs.Numerals.{numeral_own, numeral_value, numeral_digits}
use Rattle.text_theory.proofs.Lines.{begins_past, begins_exact, after_stop, after_on, after_digits}
use Rattle.text_theory.proofs.Lines.{from_stop, from_next, from_numeral}

pub unless : (q : Bool) → (q ≡ true → ⊥) → q ≡ false
unless true h = absurd (h refl)
unless false h = refl

-- what follows the digits that a text begins with
abbrev pub past_digits : List ℕ → List ℕ
past_digits t = drop (length (digits_in t)) t

-- a text that begins with a number, from the number on
pub text_is : (t : List ℕ) (b : ℕ) → Numeral (digits_in t) → 0 < length (past_digits t) → get_or (past_digits t) 0 0 ≡ b
    → t ≡ numeral (valued 0 (digits_in t)) ++ (b ∷ drop 1 (past_digits t))
text_is t b n h e =
    digits_split t ∙ ap (λ (u : List ℕ). digits_in t ++ u) (drop-cons (past_digits t) 0 0 h)
    ∙ (λ i. n.0 i ++ (e i ∷ drop 1 (past_digits t)))

-- ---- a line that begins with a number

module _ (n : ℕ) (w : List ℕ) where
  pub last_values : values_from 0 (numeral n ++ (newline ∷ w)) ≡ n ∷ []
  last_values = from_numeral n (newline ∷ w) ∙ from_stop n newline w refl

  pub next_values : values_from 0 (numeral n ++ (comma ∷ w)) ≡ n ∷ values_from 0 w
  next_values = from_numeral n (comma ∷ w) ∙ from_next n comma w refl

  pub last_after : after_line (numeral n ++ (newline ∷ w)) ≡ w
  last_after = after_digits (numeral n) (newline ∷ w) (numeral_own n) ∙ after_stop newline w refl

  pub next_after : after_line (numeral n ++ (comma ∷ w)) ≡ after_line w
  next_after = after_digits (numeral n) (comma ∷ w) (numeral_own n) ∙ after_on comma w (λ e. omega arith)

  pub last_good : n < text_width → good_row (n ∷ []) (numeral n ++ (newline ∷ w)) ≡ true
  unfolding good_row begins numbers_fit commas parted
  last_good h =
      rw (append-nil (numeral n), begins_past (numeral n) (newline ∷ []) (newline ∷ w), lt-ltb n text_width h)

  pub next_good : (l : List ℕ) → n < text_width → 0 < length l
      → good_row (n ∷ l) (numeral n ++ (comma ∷ w)) ≡ good_row l w
  unfolding good_row begins numbers_fit commas parted
  next_good [] h s = absurd (omega arith)
  next_good (m ∷ l) h s =
      rw (
        append_assoc (numeral n) (parted (m ∷ l)) (newline ∷ []),
        begins_past (numeral n) (parted (m ∷ l) ++ (newline ∷ [])) (comma ∷ w),
        lt-ltb n text_width h,
      )

-- ---- a good line of some numbers begins with a number, and a newline or a comma stands behind it

pub record Marked (t : List ℕ) : Type 0 where
  pub number : Numeral (digits_in t)
  pub some : 0 < length (past_digits t)
  pub mark : (get_or (past_digits t) 0 0 ≡ newline) ⊎ (get_or (past_digits t) 0 0 ≡ comma)

-- a number and a byte that is no digit are read as they are written
module _ (n b : ℕ) (w : List ℕ) (h : is_digit b ≡ false) where
  own_digits : digits_in (numeral n ++ (b ∷ w)) ≡ numeral n
  own_digits =
      numeral_digits n (b ∷ w) ∙ ap (λ (s : List ℕ). numeral n ++ s) (digits_none b w h) ∙ append-nil (numeral n)

  own_past : past_digits (numeral n ++ (b ∷ w)) ≡ b ∷ w
  own_past = rw own_digits (drop-append_seam (numeral n) (b ∷ w))

  own_number : n < text_width → Numeral (digits_in (numeral n ++ (b ∷ w)))
  own_number l = rw (own_digits, numeral_value n) (refl, l)

  own_marked : n < text_width → (b ≡ newline) ⊎ (b ≡ comma) → Marked (numeral n ++ (b ∷ w))
  own_marked l m = record {
    number = own_number l;
    some = rw own_past (omega arith);
    mark = rw own_past m;
  }

-- a line of numbers, from its first number on
numbers_is : (n : ℕ) (l w : List ℕ)
    → (commas (n ∷ l) ++ (newline ∷ [])) ++ w ≡ numeral n ++ (parted l ++ (newline ∷ w))
unfolding commas
numbers_is n l w = simp append_assoc

good_parts : (n : ℕ) (l t : List ℕ) → good_row (n ∷ l) t ≡ true
    → (n < text_width) × ((w : List ℕ) × (t ≡ numeral n ++ (parted l ++ (newline ∷ w))))
unfolding good_row numbers_fit
good_parts n l t e =
    let p = and_true (begins (commas (n ∷ l) ++ (newline ∷ [])) t) (numbers_fit (n ∷ l)) e in
    let r = (begins_exact (commas (n ∷ l) ++ (newline ∷ [])) t).0 p.0 in
    (ltb-true n text_width (and_true (ltb n text_width) (numbers_fit l) p.1).0, (r.0, r.1 ∙ numbers_is n l r.0))

pub good_marked : (l t : List ℕ) → 0 < length l → good_row l t ≡ true → Marked t
unfolding is_digit parted
good_marked [] t h e = absurd (omega arith)
good_marked (n ∷ []) t h e =
    let p = good_parts n [] t e in
    rw p.1.1 (own_marked n newline p.1.0 refl p.0 (inl refl))
good_marked (n ∷ (m ∷ l)) t h e =
    let p = good_parts n (m ∷ l) t e in
    rw p.1.1 (own_marked n comma _ refl p.0 (inr refl))

-- behind a line's only number stands its end
pub good_lone : (n : ℕ) (t : List ℕ) → good_row (n ∷ []) t ≡ true → get_or (past_digits t) 0 0 ≡ newline
unfolding is_digit parted
good_lone n t e =
    let p = good_parts n [] t e in
    rw (p.1.1, own_past n newline p.1.0 refl)

-- so a line is not good if no number begins it, if the text ends behind that, or if another byte stands there
module _ (l t : List ℕ) (h : 0 < length l) where
  pub good_wrong : (Numeral (digits_in t) → ⊥) → good_row l t ≡ false
  good_wrong f = unless (good_row l t) (λ e. f (good_marked l t h e).number)

  pub good_end : length (past_digits t) ≡ 0 → good_row l t ≡ false
  good_end z = unless (good_row l t) (λ e. let m = (good_marked l t h e).some in omega arith)

  pub good_other : (get_or (past_digits t) 0 0 ≡ newline → ⊥) → (get_or (past_digits t) 0 0 ≡ comma → ⊥)
      → good_row l t ≡ false
  good_other f g = unless (good_row l t) (λ e. ⊎_elim f g (good_marked l t h e).mark)
