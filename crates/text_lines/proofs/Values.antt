-- The number that digits tell, where one too large stays the first that is, and whether digits are a number as it is
-- written.
-- Assumes nothing.
use mathlib.Core.Path.{◌≡◌, refl, sym, ap, ◌∙◌}
use mathlib.Core.Logic.{◌↔◌}
use mathlib.Core.Bool.{true, false, true≢false}
use mathlib.Core.List.{List, [], ◌∷◌}
use Prim.Native.Nat.{ℕ, ◌+◌, ◌-◌, ◌*◌, ◌≤◌, ◌<◌, min}
use native.Mathlib.Decide.{dec_lt}
use native.Mathlib.Omega.{arith}
use borrow.Author.Tests.{eq-eqb, eqb-true}
use lib.Dec.{eqb}
use lib.ListN.{length, get_or, drop}
use lib.Seq.{get_or-drop}
use Rattle.listing.specs.Listing.{width}
use Rattle.text_theory.specs.Digits.{is_digit, digits_in, valued, Numeral}
use Rattle.text_theory.proofs.Digits.{digits_step, digits_stop, digits_end}
use Rattle.text_theory.proofs.Numerals.{numeral_exact}

off : {P : Type 0} → ¬ P → (false ≡ true) ↔ P
off n = (λ e. absurd (true≢false (sym e)), λ p. absurd (n p))

-- a number with one digit more, and the same with one too large cut down before
more_most : (w a c : ℕ) → 0 < w → min (10 * min a w + c) w ≡ min (10 * a + c) w
more_most w a c h = omega arith

pub valued_most : (w a : ℕ) (l : List ℕ) → 0 < w → min (valued (min a w) l) w ≡ min (valued a l) w
unfolding valued
valued_most w a [] h = omega arith
valued_most w a (x ∷ l) h =
    let b = 10 * min a w + (x - 48) in
    sym (valued_most w b l h)
    ∙ ap (λ (v : ℕ). min (valued v l) w) (more_most w a (x - 48) h)
    ∙ valued_most w (10 * a + (x - 48)) l h

pub valued_none : (v : ℕ) → valued v [] ≡ v
unfolding valued
valued_none v = refl

pub valued_step : (v x : ℕ) (l : List ℕ) → valued v (x ∷ l) ≡ valued (10 * v + (x - 48)) l
unfolding valued
valued_step v x l = refl

-- the digits from one place up to another tell v
pub record Told (t : List ℕ) (at end v : ℕ) : Type 0 where
  pub ends : end ≡ at + length (digits_in (drop at t))
  pub tells : v ≡ min (valued 0 (digits_in (drop at t))) width

pub told_of : (t : List ℕ) {at end v : ℕ} → end ≡ at + length (digits_in (drop at t))
    → v ≡ min (valued 0 (digits_in (drop at t))) width → Told t at end v
told_of t e v = record { ends = e; tells = v }

module _ {t : List ℕ} {at end v : ℕ} (h : Told t at end v) where
  abbrev d : List ℕ
  d = digits_in (drop at t)

  -- the byte that the digits begin with
  front : get_or (drop at t) 0 0 ≡ get_or t at 0
  front =
      let z : at + 0 ≡ at = omega arith in
      get_or-drop at t 0 0 ∙ ap (λ (k : ℕ). get_or t k 0) z

  pub no_digit : at ≡ end → (false ≡ true) ↔ Numeral d
  no_digit q = off (λ n. omega (arith, h.ends, ((numeral_exact (drop at t)).0 n).0))

  pub too_large : width - 1 < v → (false ≡ true) ↔ Numeral d
  too_large l = off (λ n. omega (arith, h.tells, n.1))

  module _ (s : at ≡ end → ⊥) (l : v ≤ width - 1) where
    -- a 0 is a number by itself
    pub zero_front : get_or t at 0 ≡ 48 → (eqb (at + 1) end ≡ true) ↔ Numeral d
    zero_front z = (
      λ q. let e = eqb-true (at + 1) end q in
          (numeral_exact (drop at t)).1
          (omega (arith, h.ends), omega (arith, h.tells), λ m. absurd (omega (arith, h.ends))),
      λ n. eq-eqb (at + 1) end (alone n (dec_lt 1 (length d))),
    )
      where
        alone : Numeral d → Dec (1 < length d) → at + 1 ≡ end
        alone n (yes q) = absurd (((numeral_exact (drop at t)).0 n).2 q (front ∙ z))
        alone n (no q) = omega (arith, h.ends, ((numeral_exact (drop at t)).0 n).0)

    pub other_front : (get_or t at 0 ≡ 48 → ⊥) → (true ≡ true) ↔ Numeral d
    other_front z = (
      λ q. (numeral_exact (drop at t)).1
          (omega (arith, h.ends), omega (arith, h.tells), λ m q. z (sym front ∙ q)),
      λ n. refl,
    )

-- what the first two tests of a number as it is written find
pub ruleset numerals = (told_of, no_digit, too_large)

-- ---- one digit after another

-- one digit more
told : (v : ℕ) {d d' : List ℕ} {n : ℕ} → d ≡ d' → valued v d' ≡ n → min (valued v d) width ≡ min n width
told v e q = ap (λ (l : List ℕ). min (valued v l) width) e ∙ ap (λ (n : ℕ). min n width) q

-- the digits up to i tell v, and those from i on, after v, are what is left
pub record Reading (t : List ℕ) (at v i : ℕ) : Type 0 where
  pub small : v ≤ width
  pub left : i + length (digits_in (drop i t)) ≡ at + length (digits_in (drop at t))
  pub value : min (valued v (digits_in (drop i t))) width ≡ min (valued 0 (digits_in (drop at t))) width

module _ (t : List ℕ) (at v i : ℕ) (h : Reading t at v i) where
  reading_ended : digits_in (drop i t) ≡ [] → Told t at i v
  reading_ended e =
      let n = told v e (valued_none v) in record {
        ends = omega (arith, ap length e, h.left);
        tells = omega (arith, n, h.small, h.value);
      }

  pub reading_end : length t ≤ i → Told t at i v
  reading_end l = reading_ended (digits_end t i l)

  module _ (l : i < length t) where
    pub reading_stop : is_digit (get_or t i 0) ≡ false → Told t at i v
    reading_stop e = reading_ended (digits_stop t i l e)

    pub reading_next : (w : ℕ) → is_digit (get_or t i 0) ≡ true → w ≡ min (10 * v + (get_or t i 0 - 48)) width
        → Reading t at w (i + 1)
    reading_next w d q =
        let e = digits_step t i l d in
        let u = digits_in (drop (i + 1) t) in
        let a = 10 * v + (get_or t i 0 - 48) in record {
          small = omega arith;
          left = omega (arith, ap length e, h.left);
          value = rw q (valued_most width a u (omega arith) ∙ sym (told v e (valued_step v _ u)) ∙ h.value);
        }
