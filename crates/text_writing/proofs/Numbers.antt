-- How many digits a number has; and a number as it is written from its last digit to its first.
-- Assumes nothing.
use mathlib.Core.Path.{◌≡◌, sym, ap, ◌∙◌}
use mathlib.Core.List.{List, [], ◌∷◌, ◌++◌, append_assoc, append-nil}
use Prim.Native.Nat.{ℕ, ◌+◌, ◌-◌, ◌/◌, ◌%◌, ◌≤◌, ◌<◌}
use native.Mathlib.Decide.{dec_lt}
use native.Mathlib.Omega.{arith}
use lib.ListN.{length, get_or, set, length-append}
use Rattle.listing.specs.Laid.{LaidList}
use Rattle.listing.proofs.Laying.{laid_none, list_before}
use Rattle.text_theory.specs.Text.{digit, numeral}
use Rattle.text_theory.proofs.Numerals.{numeral_some, numeral_short, numeral_long}
use Rattle.text_writing.specs.Writing.{PutAt}

-- ---- how many digits

pub one_digit : (n : ℕ) → n < 10 → 1 ≡ length (numeral n)
one_digit n h = rw (numeral_short n h)

-- one more than a tenth of it has
digit_more : (n : ℕ) → 10 ≤ n → length (numeral n) ≡ length (numeral (n / 10)) + 1
digit_more n h = rw (numeral_long n h) (length-append (numeral (n / 10)) (digit (n % 10) ∷ []))

pub two_digits : (n : ℕ) → 10 ≤ n → n < 100 → 2 ≡ length (numeral n)
two_digits n l h = omega (arith, digit_more n l, one_digit (n / 10) (omega arith))

pub three_digits : (n : ℕ) → 100 ≤ n → n < 1000 → 3 ≡ length (numeral n)
three_digits n l h = omega (arith, digit_more n (omega arith), two_digits (n / 10) (omega arith) (omega arith))

pub four_digits : (n : ℕ) → 1000 ≤ n → n < 10000 → 4 ≡ length (numeral n)
four_digits n l h = omega (arith, digit_more n (omega arith), three_digits (n / 10) (omega arith) (omega arith))

pub five_digits : (n : ℕ) → 10000 ≤ n → n < 100000 → 5 ≡ length (numeral n)
five_digits n l h = omega (arith, digit_more n (omega arith), four_digits (n / 10) (omega arith) (omega arith))

-- the same the other way round
more_digits : (n : ℕ) → 1 < length (numeral n) → 10 ≤ n
more_digits n h = go (dec_lt n 10)
  where
    go : Dec (n < 10) → 10 ≤ n
    go (yes l) = absurd (omega (arith, one_digit n l))
    go (no l) = omega arith

few_digits : (n : ℕ) → length (numeral n) ≤ 1 → n < 10
few_digits n h = go (dec_lt n 10)
  where
    go : Dec (n < 10) → n < 10
    go (yes l) = l
    go (no l) = absurd (omega (arith, digit_more n (omega arith), numeral_some (n / 10)))

-- ---- from the last digit to the first

-- of the number x, to be written at a place, all but v stands there, from place p on
pub record Spelling (x at : ℕ) (d d' : List ℕ) (p v : ℕ) : Type 0 where
  pub tail : List ℕ
  pub whole : numeral x ≡ numeral v ++ tail
  pub place : p ≡ at + length (numeral v)
  pub laid : LaidList p tail d d'

module _ (x at : ℕ) (d : List ℕ) where
  pub spelling_begun : (p : ℕ) → p ≡ at + length (numeral x) → Spelling x at d d p x
  spelling_begun p e = record {
    tail = [];
    whole = sym (append-nil (numeral x));
    place = e;
    laid = laid_none p (λ j. get_or [] j 0) d;
  }

  module _ (room : at + length (numeral x) ≤ length d) (d' : List ℕ) (p v : ℕ) (s : Spelling x at d d' p v) where
    -- what is left of it lies inside
    spelling_fits : p ≤ length d
    spelling_fits =
        omega (arith, room, s.place, ap length s.whole, length-append (numeral v) s.tail)

    pub spelling_next : at + 1 < p → Spelling x at d (set d' (p - 1) (digit (v % 10))) (p - 1) (v / 10)
    spelling_next b =
        let h = more_digits v (omega (arith, s.place)) in
        let n = digit_more v h in
        let e : p ≡ p - 1 + 1 = omega (arith, s.place) in
        let one = digit (v % 10) ∷ [] in record {
          tail = digit (v % 10) ∷ s.tail;
          whole = s.whole ∙ ap (λ (l : List ℕ). l ++ s.tail) (numeral_long v h)
              ∙ append_assoc (numeral (v / 10)) one _;
          place = omega (arith, s.place);
          laid = list_before (p - 1) d d' s.tail (digit (v % 10)) (omega (arith, spelling_fits, s.place))
              (rw e at s.laid);
        }

    -- its first digit is left, and there is room for it
    pub spelling_first : p ≤ at + 1 → (v < 10) × (at < length d')
    spelling_first b =
        let h = few_digits v (omega (arith, s.place)) in
        (h, omega (arith, spelling_fits, s.place, one_digit v h, s.laid.same_length))

    pub spelling_done : p ≤ at + 1 → (r : ℕ) → r ≡ at + length (numeral x)
        → PutAt (numeral x) at d (set d' at (digit v)) r
    spelling_done b r e =
        let h = (spelling_first b).0 in
        let q : p ≡ at + 1 = omega (arith, s.place, one_digit v h) in
        let w = s.whole ∙ ap (λ (l : List ℕ). l ++ s.tail) (numeral_short v h) in
        let l = list_before at d d' s.tail (digit v) (omega (arith, spelling_fits)) (rw q at s.laid) in
        record { laid = rw w l; next = e }

-- one law for each number of digits
pub ruleset digit_counts = (one_digit, two_digits, three_digits, four_digits, five_digits)

-- a number at its last digit, and one digit on
pub ruleset spelling = (spelling_begun, spelling_next)
