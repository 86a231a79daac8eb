-- Numbers and their digits: what is written of a number is read as the number again, and digits that are read are the
-- number as it is written, unless a 0 stands in front of others.
-- Assumes nothing.
use mathlib.Core.Path.{◌≡◌, sym, ap, ◌∙◌}
use mathlib.Core.Logic.{◌↔◌}
use mathlib.Core.Bool.{true}
use mathlib.Core.List.{List, [], ◌∷◌, ◌++◌, append_assoc, append-nil}
use Prim.Native.Nat.{ℕ, zero, suc, ◌+◌, ◌-◌, ◌*◌, ◌/◌, ◌%◌, ◌≤◌, ◌<◌}
use native.Mathlib.Decide.{dec_lt}
use native.Mathlib.Omega.{arith}
use borrow.Author.Tests.{lt-ltb, le-ltb}
use lib.ListN.{length, get_or, length-append, get_or-append}
use Rattle.text_theory.specs.Text.{text_width, digit, spelled, numeral}
use Rattle.text_theory.specs.Digits.{is_digit, digits_in, valued, Numeral}
use Rattle.text_theory.proofs.Digits.{digit_is, digit_range, digits_more, digits_each, digits_append}
use Rattle.text_theory.proofs.Digits.{digits_again, digits_front, valued_more}

-- ---- a number, and a tenth of it

-- more digits than are needed change nothing
spelled_enough : (k j n : ℕ) → n < k → n < j → spelled k n ≡ spelled j n
unfolding spelled
spelled_enough zero j n h m = absurd (omega arith)
spelled_enough (suc k) zero n h m = absurd (omega arith)
spelled_enough (suc k) (suc j) n h m = go (dec_lt n 10) (λ l. spelled_enough k j (n / 10) (omega arith) (omega arith))
  where
    go : Dec (n < 10) → (10 ≤ n → spelled k (n / 10) ≡ spelled j (n / 10)) → spelled (suc k) n ≡ spelled (suc j) n
    go (yes l) e = rw (lt-ltb n 10 l)
    go (no l) e = rw (le-ltb n 10 (omega arith), e (omega arith))

pub numeral_short : (n : ℕ) → n < 10 → numeral n ≡ digit n ∷ []
unfolding numeral spelled
numeral_short n h = rw (lt-ltb n 10 h)

pub numeral_long : (n : ℕ) → 10 ≤ n → numeral n ≡ numeral (n / 10) ++ (digit (n % 10) ∷ [])
unfolding numeral spelled
numeral_long n h =
    let e = spelled_enough n (suc (n / 10)) (n / 10) (omega arith) (omega arith) in
    rw (le-ltb n 10 h) (ap (λ (s : List ℕ). s ++ (digit (n % 10) ∷ [])) e)

-- what holds of one digit, and of a number if of a tenth of it, holds of all numbers
module _ (P : ℕ → Type 0) (one : (n : ℕ) → n < 10 → P n) (more : (n : ℕ) → 10 ≤ n → P (n / 10) → P n) where
  below : (k n : ℕ) → n < k → P n
  below zero n h = absurd (omega arith)
  below (suc k) n h = go (dec_lt n 10) (λ l. below k (n / 10) (omega arith))
    where
      go : Dec (n < 10) → (10 ≤ n → P (n / 10)) → P n
      go (yes l) p = one n l
      go (no l) p = more n (omega arith) (p (omega arith))

  pub by_tenths : (n : ℕ) → P n
  by_tenths n = below (suc n) n (omega arith)

-- ---- the digits of a number

pub numeral_own : (n : ℕ) → numeral n ≡ digits_in (numeral n)
unfolding digits_in
numeral_own = by_tenths (λ n. numeral n ≡ digits_in (numeral n)) one more
  where
    one : (n : ℕ) → n < 10 → numeral n ≡ digits_in (numeral n)
    one n h = rw (numeral_short n h) (sym (digits_more (digit n) [] (digit_is n h)))

    more : (n : ℕ) → 10 ≤ n → numeral (n / 10) ≡ digits_in (numeral (n / 10)) → numeral n ≡ digits_in (numeral n)
    more n h e =
        let m = digits_more (digit (n % 10)) [] (digit_is (n % 10) (omega arith)) in
        rw (numeral_long n h) (sym (digits_append _ _ e ∙ ap (λ (s : List ℕ). numeral (n / 10) ++ s) m))

pub numeral_digits : (n : ℕ) (t : List ℕ) → digits_in (numeral n ++ t) ≡ numeral n ++ digits_in t
numeral_digits n t = digits_append (numeral n) t (numeral_own n)

pub numeral_value : (n : ℕ) → valued 0 (numeral n) ≡ n
unfolding valued
numeral_value = by_tenths (λ n. valued 0 (numeral n) ≡ n) one more
  where
    one : (n : ℕ) → n < 10 → valued 0 (numeral n) ≡ n
    one n h = rw (numeral_short n h) (omega arith)

    more : (n : ℕ) → 10 ≤ n → valued 0 (numeral (n / 10)) ≡ n / 10 → valued 0 (numeral n) ≡ n
    more n h e = rw (numeral_long n h, valued_more 0 (numeral (n / 10)) (digit (n % 10))) (omega arith)

pub numeral_some : (n : ℕ) → 0 < length (numeral n)
numeral_some = by_tenths (λ n. 0 < length (numeral n)) one more
  where
    one : (n : ℕ) → n < 10 → 0 < length (numeral n)
    one n h = rw (numeral_short n h) (omega arith)

    more : (n : ℕ) → 10 ≤ n → 0 < length (numeral (n / 10)) → 0 < length (numeral n)
    more n h l = rw (numeral_long n h, length-append) (omega arith)

-- a number that is not 0 does not begin with a 0
numeral_head : (n : ℕ) → 0 < n → get_or (numeral n) 0 0 ≡ 48 → ⊥
numeral_head = by_tenths (λ n. 0 < n → get_or (numeral n) 0 0 ≡ 48 → ⊥) one more
  where
    one : (n : ℕ) → n < 10 → 0 < n → get_or (numeral n) 0 0 ≡ 48 → ⊥
    one n h l = rw (numeral_short n h) (λ e. omega arith)

    more : (n : ℕ) → 10 ≤ n → (0 < n / 10 → get_or (numeral (n / 10)) 0 0 ≡ 48 → ⊥) → 0 < n
        → get_or (numeral n) 0 0 ≡ 48 → ⊥
    more n h f l =
        let s = get_or-append (numeral (n / 10)) (digit (n % 10) ∷ []) 0 0 (numeral_some (n / 10)) in
        rw (numeral_long n h, s) (f (omega arith))

pub numeral_front : (n : ℕ) → 1 < length (numeral n) → get_or (numeral n) 0 0 ≡ 48 → ⊥
numeral_front zero h e = omega (arith, ap length (numeral_short 0 (omega arith)))
numeral_front (suc n) h e = numeral_head (suc n) (omega arith) e

-- ---- digits that are a number as it is written

-- a number that is not 0, and a digit more
numeral_more : (v x : ℕ) → 0 < v → is_digit x ≡ true → numeral (10 * v + (x - 48)) ≡ numeral v ++ (x ∷ [])
numeral_more v x h e =
    let r = digit_range x e in
    let q : (10 * v + (x - 48)) / 10 ≡ v = omega arith in
    let m : digit ((10 * v + (x - 48)) % 10) ≡ x = omega arith in
    numeral_long (10 * v + (x - 48)) (omega arith) ∙ rw (q, m)

-- and more digits
numeral_all : (v : ℕ) (d : List ℕ) → 0 < v → d ≡ digits_in d → numeral (valued v d) ≡ numeral v ++ d
unfolding valued
numeral_all v [] h e = sym (append-nil (numeral v))
numeral_all v (x ∷ d) h e =
    let p = digits_each x d e in
    numeral_all (10 * v + (x - 48)) d (omega arith) p.1
    ∙ ap (λ (s : List ℕ). s ++ d) (numeral_more v x h p.0) ∙ append_assoc (numeral v) (x ∷ []) d

pub numeral_of : (d : List ℕ) → d ≡ digits_in d → 0 < length d → (1 < length d → get_or d 0 0 ≡ 48 → ⊥)
    → numeral (valued 0 d) ≡ d
unfolding valued
numeral_of [] e h f = absurd (omega arith)
numeral_of (x ∷ []) e h f =
    let r = digit_range x (digits_each x [] e).0 in
    let m : digit (10 * 0 + (x - 48)) ≡ x = omega arith in
    numeral_short (10 * 0 + (x - 48)) (omega arith) ∙ ap (λ (y : ℕ). y ∷ []) m
numeral_of (x ∷ (y ∷ d)) e h f =
    let p = digits_each x (y ∷ d) e in
    let r = digit_range x p.0 in
    let m : digit (10 * 0 + (x - 48)) ≡ x = omega arith in
    let z : x ≡ 48 → ⊥ = f (omega arith) in
    numeral_all (10 * 0 + (x - 48)) (y ∷ d) (omega arith) p.1
    ∙ ap (λ (s : List ℕ). s ++ (y ∷ d)) (numeral_short (10 * 0 + (x - 48)) (omega arith)) ∙ rw m

-- what code that reads a number has to ask
abbrev pub Decimal : List ℕ → Type 0
Decimal t =
    (0 < length (digits_in t)) × (valued 0 (digits_in t) < text_width)
    × (1 < length (digits_in t) → get_or t 0 0 ≡ 48 → ⊥)

numeral_decimal : (t : List ℕ) → Numeral (digits_in t) → Decimal t
numeral_decimal t n =
    let d = digits_in t in
    let h : 0 < length d = rw n.0 (numeral_some (valued 0 d)) in
    let f : get_or (numeral (valued 0 d)) 0 0 ≡ get_or t 0 0 = rw (← n.0) (digits_front t h) in
    (h, n.1, λ l e. numeral_front (valued 0 d) (rw (← n.0) l) (f ∙ e))

decimal_numeral : (t : List ℕ) → Decimal t → Numeral (digits_in t)
decimal_numeral t a =
    let f = digits_front t a.0 in
    (sym (numeral_of (digits_in t) (digits_again t) a.0 (λ l e. a.2 l (sym f ∙ e))), a.1)

pub numeral_exact : (t : List ℕ) → Numeral (digits_in t) ↔ Decimal t
numeral_exact t = (numeral_decimal t, decimal_numeral t)
