-- A running sum of floats that are whole numbers, from 0.0 on, is the sum over the integers as a float; so where it is
-- zero, it is the positive zero.
-- Assumes nothing.
use Rattle.std.proofs.Common.{◌≡◌, ℕ, zero, suc, ◌+◌, ◌*◌, ◌^◌, ◌<◌, ◌≤◌, Bool, true, false, cond, not, ltb, ◌≢◌, List, [], ◌∷◌, ℤ, pos, negsuc, ◌+ℤ◌, neg_ℤ, nat_abs, sym, refl, ap, ◌∙◌, le_of_lt, mul-one, arith}
use mathlib.Core.Bool.{false≢true}
use lib.Ieee.{Float, nan, inf, fin, Format, prec, emax, low, up, odd, units, round, binary64, of_bits, of_int, neg, add}
use lib.Ieee.Exact.{HasValue}
use lib.Ieee.Back.{round_whole}
use Rattle.volume_metres.specs.Whole.{signed, IsWhole}
use Rattle.volume_metres.specs.Formulas.{most_exact, Formula, nothing, of, plus}
use Rattle.volume_metres.specs.Formulas.{in_floats, in_whole, NoRounding, running_sum}
use Rattle.volume_metres.proofs.Signs.{sign_of, amount_of, signed_add, sign_zero}
use Rattle.volume_metres.proofs.WholeExact.{round_keeps, add_amount}
use Rattle.volume_metres.proofs.Rounding.{exact_of}

-- ---- integers as floats

-- the literal 0.0
pub zero_literal : of_bits binary64 0 ≡ of_int binary64 (pos 0)
unfolding of_bits of_int
zero_literal = refl

pub of_int_lem : (z : ℤ) → nat_abs z ≤ most_exact → IsWhole (of_int binary64 z) z
unfolding of_int
of_int_lem (pos n) h = round_keeps false n h
of_int_lem (negsuc n) h = round_keeps true (suc n) h

-- the sign plays no part in rounding
neg_odd : (d : ℕ) (s : Bool) (q k l : ℕ) → odd d (not s) q k l ≡ neg (odd d s q k l)
unfolding odd neg
neg_odd d s zero k l = refl
neg_odd d s (suc q) k l = refl

neg_units : (f : Format) (s : Bool) (q k : ℕ) → units f (not s) q k ≡ neg (units f s q k)
unfolding units neg
neg_units f s q k = go (ltb (q * 2 ^ k) (2 ^ (low f + suc (emax f))))
  where
    go : (b : Bool) → cond b (odd (suc (prec f)) (not s) q k (low f)) (inf (not s))
        ≡ neg (cond b (odd (suc (prec f)) s q k (low f)) (inf s))
    go true = neg_odd (suc (prec f)) s q k (low f)
    go false = refl

neg_round : (f : Format) (s : Bool) (a c : ℕ) → round f (not s) a c ≡ neg (round f s a c)
unfolding round
neg_round f s a c = neg_units f s _ _

pub neg_of_int : (z : ℤ) → z ≢ pos 0 → of_int binary64 (neg_ℤ z) ≡ neg (of_int binary64 z)
unfolding of_int
neg_of_int (pos zero) n = absurd (n refl)
neg_of_int (pos (suc k)) n = neg_round binary64 false (suc k) 1
neg_of_int (negsuc k) n = neg_round binary64 true (suc k) 1

-- a number with a sign, rounded, is that integer as a float, but for a negative zero
as_int : (s : Bool) (n : ℕ) → (s ≡ true → 0 < n) → round binary64 s n 1 ≡ of_int binary64 (signed s n)
unfolding of_int
as_int false n h = refl
as_int true zero h = absurd (omega (arith, h refl))
as_int true (suc n) h = refl

-- ---- one number more

plus_next : (x y : Float) (s : Bool) (i : ℕ) (b : ℤ) → HasValue x s i 1 → (s ≡ true → 0 < i) → IsWhole y b
    → add binary64 x y ≡ of_int binary64 (signed s i +ℤ b)
plus_next nan y s i b v h w = elim v [ ]
plus_next (inf r) y s i b v h w = elim v [ ]
plus_next (fin r m e) nan s i b v h w = elim w [ ]
plus_next (fin r m e) (inf t) s i b v h w = elim w [ ]
plus_next (fin r m e) (fin t k d) s i b (f, p) h (j, q, v) =
    ap (λ r. add binary64 (fin r m e) (fin t k d)) f
    ∙ add_amount s m e t k d i j (sym (mul-one (m * up e)) ∙ p) q
    ∙ as_int (sign_of s i t j) (amount_of s i t j) (sign_zero s i t j h)
    ∙ ap (of_int binary64) (signed_add s i t j ∙ ap (λ z. signed s i +ℤ z) v)

pub add_next : (z : ℤ) (x : Float) (y : ℤ) → nat_abs z ≤ most_exact → IsWhole x y
    → add binary64 (of_int binary64 z) x ≡ of_int binary64 (z +ℤ y)
unfolding of_int
add_next (pos n) x y h w =
    plus_next (round binary64 false n 1) x false n y (round_whole binary64 false n h) (λ e. absurd (false≢true e)) w
add_next (negsuc n) x y h w =
    plus_next (round binary64 true (suc n) 1) x true (suc n) y (round_whole binary64 true (suc n) h) (λ e. omega arith)
    w

-- ---- running sums

module _ (xs : List Float) where
  -- what a running sum started from was not rounded either
  start_no_rounding : (p : Formula) (l : List Formula) → NoRounding xs (running_sum p l) → NoRounding xs p
  unfolding running_sum NoRounding
  start_no_rounding p [] h = h
  start_no_rounding p (q ∷ l) h = (start_no_rounding (of plus p q) l h).1

  running_on : (p : Formula) (l : List Formula) → in_floats xs p ≡ of_int binary64 (in_whole xs p)
      → NoRounding xs (running_sum p l)
      → in_floats xs (running_sum p l) ≡ of_int binary64 (in_whole xs (running_sum p l))
  unfolding running_sum in_floats in_whole NoRounding
  running_on p [] e h = e
  running_on p (q ∷ l) e h =
      let s = start_no_rounding (of plus p q) l h in
      let f = exact_of xs p s.1 in
      let g = exact_of xs q s.2 in
      running_on (of plus p q) l
      (ap (λ x. add binary64 x (in_floats xs q)) e
      ∙ add_next (in_whole xs p) (in_floats xs q) (in_whole xs q) (le_of_lt f.small) g.is)
      h

  pub running_is : (l : List Formula) → NoRounding xs (running_sum nothing l)
      → in_floats xs (running_sum nothing l) ≡ of_int binary64 (in_whole xs (running_sum nothing l))
  unfolding in_floats in_whole
  running_is l h = running_on nothing l refl h
