-- How many counts of a tally are at least 1, and how many at least 2: none in the tally of nothing, and what becomes of
-- both when one count changes. Where they are as many, no index was met once; where none is at least 1, none was met.
-- Assumes nothing.
use mathlib.Core.Path.{◌≡◌, refl, sym, ap, ◌∙◌}
use mathlib.Core.Logic.{◌↔◌}
use mathlib.Core.Bool.{Bool, true, false, cond}
use mathlib.Core.List.{List, [], ◌∷◌}
use Prim.Native.Nat.{ℕ, zero, suc, ◌+◌, ◌-◌, ◌≤◌, ◌<◌}
use native.Mathlib.Nat.{le_of_suc-le-suc}
use native.Mathlib.Omega.{arith}
use borrow.Author.Tests.{ne_eqb, le-leb, lt-leb}
use lib.Dec.{leb}
use lib.ListN.{length, get_or, set, length-set}
use Rattle.order.proofs.Lists.{occurs_nil}
use Rattle.listing.specs.declared.Answer.{Answer}
use Rattle.listing.specs.Answers.{fine, on}
use Rattle.listing.proofs.Answers.{of_fine}
use Rattle.valid_diamond.specs.Tally.{at_least, MetIn, TotalsIn, Tally, lone_in}

-- what one count adds
abbrev own : ℕ → ℕ → ℕ
own k c = cond (leb k c) 1 0

own_yes : (k c : ℕ) → k ≤ c → own k c ≡ 1
own_yes k c h = rw (le-leb k c h)

own_no : (k c : ℕ) → c < k → own k c ≡ 0
own_no k c h = rw (lt-leb k c h)

own_le : (k c : ℕ) → own k c ≤ 1
own_le k c = go (leb k c)
  where
    go : (b : Bool) → cond b 1 0 ≤ 1
    go true = omega arith
    go false = omega arith

-- what a count below 2, and one more than it, add
own_low : (c : ℕ) → c < 2 → (own 1 c ≡ c) × (own 1 (c + 1) ≡ 1) × (own 2 c ≡ 0) × (own 2 (c + 1) ≡ c)
own_low zero h = (refl, refl, refl, refl)
own_low (suc zero) h = (refl, refl, refl, refl)
own_low (suc (suc c)) h = absurd (omega arith)

-- ---- a list of counts

module _ (k : ℕ) where
  least_le : (t : List ℕ) → at_least k t ≤ length t
  unfolding at_least
  least_le [] = omega arith
  least_le (c ∷ t) = omega (arith, own_le k c, least_le t)

  least_none : 0 < k → (t : List ℕ) → ((x : ℕ) → x < length t → get_or t x 0 ≡ 0) → at_least k t ≡ 0
  unfolding at_least
  least_none p [] a = refl
  least_none p (c ∷ t) a =
      let z : c ≡ 0 = a 0 (omega arith) in
      omega (arith, own_no k c (omega arith), least_none p t (λ x h. a (suc x) (omega arith)))

  -- one count becomes v
  least_set : (t : List ℕ) (x v : ℕ) → x < length t
      → at_least k (set t x v) + own k (get_or t x 0) ≡ at_least k t + own k v
  unfolding at_least
  least_set [] x v h = absurd (omega arith)
  least_set (c ∷ t) zero v h = omega arith
  least_set (c ∷ t) (suc x) v h = omega (arith, least_set t x v (le_of_suc-le-suc h))

-- a count that is at least 2 is at least 1
two_own : (c : ℕ) → own 2 c ≤ own 1 c
two_own zero = omega arith
two_own (suc c) = omega (arith, own_le 2 (suc c), own_yes 1 (suc c) (omega arith))

two_one : (t : List ℕ) → at_least 2 t ≤ at_least 1 t
unfolding at_least
two_one [] = omega arith
two_one (c ∷ t) = omega (arith, two_own c, two_one t)

none_one : (t : List ℕ) (x : ℕ) → at_least 1 t ≡ at_least 2 t → get_or t x 0 ≡ 1 → ⊥
unfolding at_least
none_one [] x h e = omega arith
none_one (c ∷ t) zero h e = omega (arith, ap (own 1) e, ap (own 2) e, two_one t)
none_one (c ∷ t) (suc x) h e = none_one t x (omega (arith, two_own c, two_one t)) e

least_zero : (t : List ℕ) (x : ℕ) → at_least 1 t ≡ 0 → get_or t x 0 ≡ 0
unfolding at_least
least_zero [] x h = refl
least_zero (zero ∷ t) zero h = refl
least_zero (suc c ∷ t) zero h = absurd (omega (arith, own_yes 1 (suc c) (omega arith)))
least_zero (c ∷ t) (suc x) h = least_zero t x (omega arith)

-- ---- a tally of n counts

-- of nothing
pub totals_none : {n : ℕ} (t : List ℕ) → Tally n t [] → TotalsIn n t 0 0
totals_none {n} t T = record {
  met_in = record { whole = T.whole; met_is = sym (least_none 1 (omega arith) t zeros) };
  twice_is = sym (least_none 2 (omega arith) t zeros);
}
  where
    zeros : (x : ℕ) → x < length t → get_or t x 0 ≡ 0
    zeros x h = T.counts x (omega (arith, T.whole)) ∙ occurs_nil x

module _ {n : ℕ} (t : List ℕ) (met twice : ℕ) (S : TotalsIn n t met twice) where
  pub totals_few : (met ≤ n) × (twice ≤ n)
  totals_few = (omega (arith, least_le 1 t, S), omega (arith, least_le 2 t, S))

  -- an index is met that had not been met twice
  pub totals_more : (x : ℕ) → x < n → get_or t x 0 < 2 → (m w : ℕ) → m + get_or t x 0 ≡ met + 1
      → w ≡ twice + get_or t x 0 → TotalsIn n (set t x (get_or t x 0 + 1)) m w
  totals_more x h g m w p q =
      let c = get_or t x 0 in
      let l : x < length t = omega (arith, S) in
      let o = own_low c g in
      let e : m ≡ at_least 1 (set t x (c + 1)) = omega (arith, least_set 1 t x (c + 1) l, S) in
      record {
        met_in = record { whole = length-set t x _ ∙ S.met_in.whole; met_is = e };
        twice_is = omega (arith, least_set 2 t x (c + 1) l, S);
      }

  -- as many were met twice as were met: none was met once
  pub lone_none : (f : ℕ → Answer) (k : ℕ) → met ≡ twice → fine ≡ lone_in f t k
  unfolding lone_in
  lone_none f k e =
      let z : at_least 1 t ≡ at_least 2 t = omega (arith, S) in
      sym (of_fine _ (λ x. ap (λ (b : Bool). on b (f x)) (ne_eqb (get_or t x 0) 1 (none_one t x z))) 0 k)

-- ---- what is left, where counts are set back

-- a count that is not 0 is set back: at least one was left, and now one less is
module _ {n : ℕ} (t : List ℕ) (left : ℕ) (C : MetIn n t left) (x : ℕ) (h : x < n) (g : get_or t x 0 ≡ 0 → ⊥) where
  one_less : at_least 1 (set t x 0) + 1 ≡ left
  one_less =
      let c = get_or t x 0 in
      let l : x < length t = omega (arith, C) in
      omega (arith, least_set 1 t x 0 l, own_yes 1 c (omega arith), own_no 1 0 (omega arith), C)

  pub left_some : 0 < left
  left_some = omega (arith, one_less)

  pub left_less : MetIn n (set t x 0) (left - 1)
  left_less = record { whole = length-set t x 0 ∙ C.whole; met_is = omega (arith, one_less) }

-- none is left exactly in the tally of nothing
pub left_none : {n : ℕ} (t : List ℕ) (left : ℕ) → MetIn n t left → (left ≡ 0) ↔ Tally n t []
left_none {n} t left C = (none, λ T. C.met_is ∙ sym (totals_none t T).met_in.met_is)
  where
    none : left ≡ 0 → Tally n t []
    none z = record { whole = C.whole; counts = λ x _. least_zero t x (sym C.met_is ∙ z) ∙ sym (occurs_nil x) }
