-- How a coordinate is looked at: two comparisons, then the float without its fraction, as a float again, compared with
-- the float itself.
-- Assumes nothing.
use Rattle.std.proofs.Common.{◌≡◌, ℕ, zero, suc, ◌+◌, ◌-◌, ◌*◌, ◌/◌, ◌%◌, ◌^◌, ◌<◌, ◌≤◌, min, Bool, true, false, ◌&&◌, ◌||◌, T, eqb, ltb, leb, ℤ, pos, neg_ℤ, sym, refl, ap, ◌∙◌, lt_of_le_of_lt, mul-lt-mul_of_pos_right, div-add-mod', zero-mul, mul-one, mul_right_comm, arith, ltb-false, ltb-true, lt-ltb, eq-eqb, ne_eqb, eqb-true, le-leb, leb-true}
use mathlib.Core.Bool.{false≢true, and-true, beq}
use native.Mathlib.Nat.{div-le_of_le-mul, eq_of_mul-eq-mul_right}
use borrow.Author.Tests.{eqb-false}
use borrow.Author.Tests.{lt-leb}
use lib.Ieee.{Float, nan, inf, fin, binary64, up, down, of_int, to_signed, le, lt, eq}
use lib.Ieee.Fits.{down_pos}
use lib.Ieee.Exact.{HasValue}
use lib.Ieee.Back.{round_whole}
use Rattle.volume_metres.specs.Whole.{signed, farthest, coordinate}
use Rattle.volume_metres.specs.Formulas.{most_exact}

-- ---- comparisons with a limit, k * 2 ^ q below or above 0

abbrev pub lower : ℕ → ℕ → Float
lower k q = fin true k (pos q)

abbrev pub upper : ℕ → ℕ → Float
upper k q = fin false k (pos q)

less_or_same : (a b : ℕ) (t : Bool) → t ≡ eqb a b → ltb a b || (t && true) ≡ leb a b
less_or_same a b t e = rw e (go (ltb a b) (eqb a b) refl refl)
  where
    go : (p q : Bool) → ltb a b ≡ p → eqb a b ≡ q → p || (q && true) ≡ leb a b
    go true q f g = sym (le-leb a b (omega (arith, ltb-true a b f)))
    go false true f g = sym (le-leb a b (omega (arith, eqb-true a b g)))
    go false false f g =
        let n : a ≡ b → ⊥ = eqb-false a b g in sym (lt-leb a b (omega (arith, ltb-false a b f)))

eqb_sym : (a b : ℕ) → eqb a b ≡ eqb b a
eqb_sym a b = go (eqb b a) refl
  where
    go : (q : Bool) → eqb b a ≡ q → eqb a b ≡ q
    go true e = eq-eqb a b (sym (eqb-true b a e))
    go false e = ne_eqb a b (λ f. eqb-false b a e (sym f))

module _ (k q m : ℕ) (e : ℤ) where
  not_under : le (lower k q) (fin true m e) ≡ leb (m * up e) (k * 2 ^ q * down e)
  unfolding le lt eq
  not_under =
      rw (mul-one (m * up e))
      (less_or_same (m * up e) (k * 2 ^ q * down e) _ (eqb_sym (k * 2 ^ q * down e) (m * up e)))

  not_over : le (fin false m e) (upper k q) ≡ leb (m * up e) (k * 2 ^ q * down e)
  unfolding le lt eq
  not_over = rw (mul-one (m * up e)) (less_or_same (m * up e) (k * 2 ^ q * down e) _ refl)

  -- of the other sign
  over_lower : 0 < k * 2 ^ q * down e → le (lower k q) (fin false m e) ≡ true
  unfolding le lt eq
  over_lower h = rw (lt-ltb 0 (k * 2 ^ q * down e + m * up e * 1) (omega arith))

  under_upper : 0 < k * 2 ^ q * down e → le (fin true m e) (upper k q) ≡ true
  unfolding le lt eq
  under_upper h = rw (lt-ltb 0 (m * up e * 1 + k * 2 ^ q * down e) (omega arith))

-- ---- what lies between two limits

module _ (k q : ℕ) where
  in_reach : (s : Bool) (m : ℕ) (e : ℤ) → le (lower k q) (fin s m e) ≡ true → le (fin s m e) (upper k q) ≡ true
      → m * up e ≤ k * 2 ^ q * down e
  in_reach false m e g h = leb-true _ _ (sym (not_over k q m e) ∙ h)
  in_reach true m e g h = leb-true _ _ (sym (not_under k q m e) ∙ g)

  -- it is finite
  between : (P : Float → Type 0) → ((s : Bool) (m : ℕ) (e : ℤ) → m * up e ≤ k * 2 ^ q * down e → P (fin s m e))
      → (x : Float) → le (lower k q) x ≡ true → le x (upper k q) ≡ true → P x
  unfolding le lt eq
  between P f nan g h = absurd (false≢true g)
  between P f (inf true) g h = absurd (false≢true g)
  between P f (inf false) g h = absurd (false≢true h)
  between P f (fin s m e) g h = f s m e (in_reach s m e g h)

-- and can be cut to an integer of 64 bits, where the limits can
abbrev Castable : Float → Type 0
Castable x = T (le (lower 1 63) x) × T (lt x (upper 1 63))

pub castable : (k q : ℕ) → k * 2 ^ q < 2 ^ 63 → (x : Float) → le (lower k q) x ≡ true → le x (upper k q) ≡ true
    → Castable x
unfolding lt
castable k q l = between k q Castable (λ s m e h. go s m e (lt_of_le_of_lt h (mul-lt-mul_of_pos_right l (down_pos e))))
  where
    go : (s : Bool) (m : ℕ) (e : ℤ) → m * up e < 2 ^ 63 * down e → Castable (fin s m e)
    go false m e h = (
      rw (over_lower 1 63 m e (omega (arith, down_pos e))) tt,
      rw (mul-one (m * up e), lt-ltb (m * up e) (2 ^ 63 * down e) h) tt,
    )
    go true m e h = (
      rw (not_under 1 63 m e, le-leb (m * up e) (2 ^ 63 * down e) (omega arith)) tt,
      rw (lt-ltb 0 (m * up e * 1 + 2 ^ 63 * down e) (omega (arith, down_pos e))) tt,
    )

-- ---- what lies outside: 1,000 is 125 * 2 ^ 3

far : (s : Bool) (m : ℕ) (e : ℤ) → leb (m * up e) (farthest * down e) ≡ false → coordinate (fin s m e) ≡ false
unfolding coordinate
far s m e h = rw h

pub below_out : (x : Float) → le (lower 125 3) x ≡ false → coordinate x ≡ false
unfolding coordinate
below_out nan h = refl
below_out (inf s) h = refl
below_out (fin false m e) h = absurd (false≢true (sym h ∙ over_lower 125 3 m e (omega (arith, down_pos e))))
below_out (fin true m e) h = far true m e (sym (not_under 125 3 m e) ∙ h)

pub above_out : (x : Float) → le x (upper 125 3) ≡ false → coordinate x ≡ false
unfolding coordinate
above_out nan h = refl
above_out (inf s) h = refl
above_out (fin true m e) h = absurd (false≢true (sym h ∙ under_upper 125 3 m e (omega (arith, down_pos e))))
above_out (fin false m e) h = far false m e (sym (not_over 125 3 m e) ∙ h)

-- ---- the float without its fraction, and that integer as a float again

cut_is : (s : Bool) (m : ℕ) (e : ℤ) → m * up e / down e ≤ farthest
    → to_signed 63 (fin s m e) ≡ signed s (m * up e / down e)
unfolding to_signed
cut_is false m e h = let f : min (m * up e / down e) (2 ^ 63 - 1) ≡ m * up e / down e = omega arith in ap pos f
cut_is true m e h =
    let f : min (m * up e / down e) (2 ^ 63) ≡ m * up e / down e = omega arith in ap (λ n. neg_ℤ (pos n)) f

-- an integer as a float: a zero is the positive one
as_float : (s : Bool) (n : ℕ) → n ≤ most_exact → HasValue (of_int binary64 (signed s n)) (s && ltb 0 n) n 1
unfolding of_int
as_float false n h = round_whole binary64 false n h
as_float true zero h = round_whole binary64 false zero h
as_float true (suc n) h = rw (lt-ltb 0 (suc n) (omega arith)) (round_whole binary64 true (suc n) h)

-- nothing was cut where nothing is left over
cut_same : (a u w : ℕ) → 0 < w → eqb (a / u * w * u) (a * w) ≡ eqb (a % u) 0
cut_same a u w h = go (eqb (a % u) 0) refl
  where
    go : (t : Bool) → eqb (a % u) 0 ≡ t → eqb (a / u * w * u) (a * w) ≡ t
    go true f =
        let g : a / u * u ≡ a = omega (arith, div-add-mod' a u, eqb-true (a % u) 0 f) in
        eq-eqb _ _ (mul_right_comm (a / u) w u ∙ ap (λ k. k * w) g)
    go false f =
        ne_eqb _ _ (λ g.
        let k = eq_of_mul-eq-mul_right w h (a / u * u) a (sym (mul_right_comm (a / u) w u) ∙ g) in
        eqb-false (a % u) 0 f (omega (arith, div-add-mod' a u)))

-- the signs are the same, but of a zero
cut_sign : (s : Bool) (n u w : ℕ) → beq (s && ltb 0 n) s || eqb (n * w * u) 0 ≡ true
cut_sign false n u w = refl
cut_sign true zero u w = eq-eqb _ _ (ap (λ k. k * u) (zero-mul w) ∙ zero-mul u)
cut_sign true (suc n) u w = rw (lt-ltb 0 (suc n) (omega arith))

cut_equal : (y : Float) (s : Bool) (m : ℕ) (e : ℤ)
    → HasValue y (s && ltb 0 (m * up e / down e)) (m * up e / down e) 1
    → eq y (fin s m e) ≡ eqb (m * up e % down e) 0
unfolding eq
cut_equal nan s m e v = elim v [ ]
cut_equal (inf r) s m e v = elim v [ ]
cut_equal (fin t k d) s m e (p, q) =
    let f : k * up d ≡ m * up e / down e * down d = sym (mul-one (k * up d)) ∙ q in
    rw (p, f, cut_sign s (m * up e / down e) (down e) (down d), and-true _)
    (cut_same (m * up e) (down e) (down d) (down_pos d))

pub cut_exact : (x : Float) → le (lower 125 3) x ≡ true → le x (upper 125 3) ≡ true
    → eq (of_int binary64 (to_signed 63 x)) x ≡ coordinate x
unfolding coordinate
cut_exact = between 125 3 (λ x. eq (of_int binary64 (to_signed 63 x)) x ≡ coordinate x) go
  where
    go : (s : Bool) (m : ℕ) (e : ℤ) → m * up e ≤ farthest * down e
        → eq (of_int binary64 (to_signed 63 (fin s m e))) (fin s m e) ≡ coordinate (fin s m e)
    go s m e h =
        let n : m * up e / down e ≤ farthest =
        div-le_of_le-mul (down e) {m = m * up e} {n = farthest} (omega arith) in
        rw (cut_is s m e n, le-leb (m * up e) (farthest * down e) h)
        (cut_equal _ s m e (as_float s (m * up e / down e) (omega arith)))
