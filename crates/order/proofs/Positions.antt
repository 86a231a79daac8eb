-- Where numbers stand in a list: looking one place at a time, what a place holds, and places in an ascending list.
-- Assumes nothing.
use mathlib.Core.Path.{◌≡◌, refl, sym, ap, ◌∙◌}
use mathlib.Core.Logic.{inl, inr}
use mathlib.Core.Bool.{true, false, cond}
use mathlib.Core.List.{List, [], ◌∷◌}
use Prim.Native.Nat.{ℕ, zero, suc, ◌+◌, ◌≤◌, ◌<◌}
use native.Mathlib.Nat.{not-suc-le-zero, le_of_suc-le-suc}
use native.Mathlib.Decide.{ℕ_discrete, dec_lt}
use native.Mathlib.Numerals.{add-one}
use native.Mathlib.Omega.{arith}
use lib.Dec.{eqb}
use lib.ListN.{length, get_or, set, drop, drop_of_length-le}
use lib.Seq.{drop-cons, get_or-set_same, get_or-set_other}
use Rattle.order.specs.Lists.{In, has, Ascending}
use Rattle.order.proofs.Lists.{has_yes, has_no}

-- ---- looking for a number, one place at a time

module _ (l : List ℕ) (k a : ℕ) where
  pub has_step : k < length l → has (drop k l) a ≡ cond (eqb (get_or l k 0) a) true (has (drop (k + 1) l) a)
  unfolding has
  has_step h = rw (add-one, drop-cons l k 0 h)

  pub has_end : length l ≤ k → has (drop k l) a ≡ false
  unfolding has
  has_end h = ap (λ (t : List ℕ). has t a) (drop_of_length-le l h)

-- ---- numbers and places

-- the number at a place stands in the list
pub in_at : (l : List ℕ) (k : ℕ) → k < length l → In (get_or l k 0) l
unfolding In
in_at [] k h = absurd (not-suc-le-zero h)
in_at (x ∷ l) zero h = inl refl
in_at (x ∷ l) (suc k) h = inr (in_at l k (le_of_suc-le-suc h))

pub has_at : (l : List ℕ) (k : ℕ) → k < length l → {x : ℕ} → get_or l k 0 ≡ x → has l x ≡ true
has_at l k h e = (has_yes _ l).1 (rw e at (in_at l k h))

-- a number of a list stands at a place
pub at_in : (l : List ℕ) (x : ℕ) → In x l → (k : ℕ) × (k < length l) × (get_or l k 0 ≡ x)
unfolding In
at_in [] x h = absurd h
at_in (y ∷ l) x (inl e) = (0, omega arith, sym e)
at_in (y ∷ l) x (inr h) = let r = at_in l x h in (suc r.0, omega (arith, r.1), r.2)

-- a list that is not empty holds something, and back
pub some_in : (l : List ℕ) → (length l ≡ 0 → ⊥) → (x : ℕ) × In x l
unfolding In
some_in [] h = absurd (h refl)
some_in (x ∷ l) h = (x, inl refl)

pub in_some : (l : List ℕ) (x : ℕ) → In x l → length l ≡ 0 → ⊥
unfolding In
in_some [] x m e = m
in_some (y ∷ l) x m e = absurd (omega arith)

-- where the first r numbers are those of a function, and its next is written after them, the first r + 1 are
pub set_next : (f : ℕ → ℕ) (l : List ℕ) (r x : ℕ) → r < length l → x ≡ f r → ((k : ℕ) → k < r → get_or l k 0 ≡ f k)
    → (k : ℕ) → k < r + 1 → get_or (set l r x) k 0 ≡ f k
set_next f l r x h e p k i = go (ℕ_discrete k r)
  where
    go : Dec (k ≡ r) → get_or (set l r x) k 0 ≡ f k
    go (yes d) = rw d (get_or-set_same l r x 0 h ∙ e)
    go (no d) = get_or-set_other l r k x 0 d ∙ p k (omega arith)

-- ---- an ascending list

-- it ascends from place to place
pub ascending_at : (l : List ℕ) → Ascending l → (p q : ℕ) → p < q → q < length l → get_or l p 0 < get_or l q 0
unfolding Ascending
ascending_at [] a p q h k = absurd (omega arith)
ascending_at (x ∷ l) a p zero h k = absurd (omega arith)
ascending_at (x ∷ l) a zero (suc q) h k = a.0 (get_or l q 0) (in_at l q (omega arith))
ascending_at (x ∷ l) a (suc p) (suc q) h k = ascending_at l a.1 p q (omega arith) (omega arith)

-- and a smaller number stands at a lower place
pub ascending_back : (l : List ℕ) → Ascending l → (p q : ℕ) → p < length l → get_or l p 0 < get_or l q 0 → p < q
ascending_back l a p q k e = go (dec_lt p q) (ℕ_discrete p q)
  where
    go : Dec (p < q) → Dec (p ≡ q) → p < q
    go (yes h) z = h
    go (no h) (yes z) =
        let w : get_or l p 0 ≡ get_or l q 0 = ap (λ i. get_or l i 0) z in
        absurd (omega (arith, e))
    go (no h) (no z) = absurd (omega (arith, e, ascending_at l a q p (omega arith) k))

-- ---- halving an ascending list: what it passes over

module _ (l : List ℕ) (x : ℕ) where
  -- wherever x stands in l, it is from lo up to, not including, hi
  unfoldable pub OnlyFrom : ℕ → ℕ → Type 0
  OnlyFrom lo hi = (k : ℕ) → k < length l → get_or l k 0 ≡ x → (lo ≤ k) × (k < hi)

  pub only_all : OnlyFrom 0 (length l)
  unfolding OnlyFrom
  only_all k h e = (omega arith, h)

  pub only_none : (lo hi : ℕ) → hi ≤ lo → OnlyFrom lo hi → has l x ≡ false
  unfolding OnlyFrom
  only_none lo hi h w =
      (has_no x l).1 (λ m. let r = at_in l x m in absurd (omega (arith, w r.0 r.1 r.2)))

  module _ (lo hi mid : ℕ) (a : Ascending l) (h : mid < length l) (w : OnlyFrom lo hi) where
    -- below x at mid: what stands up to mid is passed
    pub only_above : get_or l mid 0 < x → OnlyFrom (mid + 1) hi
    unfolding OnlyFrom
    only_above s k n e = (omega (arith, ascending_back l a mid k h (rw e s)), (w k n e).1)

    -- above x at mid: what stands from mid on is passed
    pub only_below : x < get_or l mid 0 → OnlyFrom lo mid
    unfolding OnlyFrom
    only_below s k n e = ((w k n e).0, ascending_back l a k mid n (rw e s))
