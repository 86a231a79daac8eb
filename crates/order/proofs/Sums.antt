-- Sums, and the places that they give: where a number falls, and that it falls nowhere else.
-- Assumes nothing.
use mathlib.Core.Path.{◌≡◌, refl, sym, ap}
use mathlib.Core.Logic.{◌⊎◌, inl, inr}
use mathlib.Core.List.{List, [], ◌∷◌}
use Prim.Native.Nat.{ℕ, zero, suc, ◌+◌, ◌-◌, ◌*◌, ◌≤◌, ◌<◌}
use native.Mathlib.Nat.{not-suc-le-zero, eq-or-lt_of_le}
use native.Mathlib.Decide.{dec_lt}
use native.Mathlib.Numerals.{add-one}
use native.Mathlib.Omega.{arith}
use lib.ListN.{length, get_or, drop, drop_of_length-le}
use lib.Seq.{drop-cons}
use Rattle.order.specs.Lists.{In}
use Rattle.order.specs.Sums.{choose, sum, sum_over, part_at, Placed}

pub choose_yes {ℓ} : {P : Type 0} {A : Type ℓ} (d : Dec P) (a b : A) → P → choose d a b ≡ a
unfolding choose
choose_yes (yes p) a b h = refl
choose_yes (no p) a b h = absurd (p h)

pub choose_no {ℓ} : {P : Type 0} {A : Type ℓ} (d : Dec P) (a b : A) → ¬ P → choose d a b ≡ b
unfolding choose
choose_no (yes p) a b h = absurd (h p)
choose_no (no p) a b h = refl

-- what a turn of a loop leaves: the number after one that is below n is at most n
pub next_le : (a n : ℕ) → a < n → a + 1 ≤ n
next_le a n h = omega (arith, h)

pub sum_none : (f : ℕ → ℕ) → sum f 0 ≡ 0
unfolding sum
sum_none f = refl

pub sum_next : (f : ℕ → ℕ) (n : ℕ) → sum f (n + 1) ≡ sum f n + f n
unfolding sum
sum_next f n = rw add-one

pub sum_le : (f : ℕ → ℕ) (i n : ℕ) → i ≤ n → sum f i ≤ sum f n
unfolding sum
sum_le f i zero h = let e : i ≡ 0 = omega arith in rw e (omega arith)
sum_le f i (suc n) h = go (λ l. sum_le f i n l) (eq-or-lt_of_le h)
  where
    go : (i ≤ n → sum f i ≤ sum f n) → (i ≡ suc n) ⊎ (i < suc n) → sum f i ≤ sum f n + f n
    go ih (inl e) = rw e (omega arith)
    go ih (inr l) = omega (arith, ih (omega arith))

pub sum_lt : (f : ℕ → ℕ) (i j a : ℕ) → i < j → a < f i → sum f i + a < sum f j
unfolding sum
sum_lt f i j a l h = omega (arith, sum_le f (suc i) j l)

pub sum_zero : (f : ℕ → ℕ) (n : ℕ) → ((i : ℕ) → i < n → f i ≡ 0) → sum f n ≡ 0
unfolding sum
sum_zero f zero h = refl
sum_zero f (suc n) h = omega (arith, sum_zero f n (λ i l. h i (omega arith)), h n (omega arith))

pub sum_same : (f g : ℕ → ℕ) (n : ℕ) → ((i : ℕ) → i < n → f i ≡ g i) → sum f n ≡ sum g n
unfolding sum
sum_same f g zero h = refl
sum_same f g (suc n) h = omega (arith, sum_same f g n (λ i l. h i (omega arith)), h n (omega arith))

-- two sums together
pub sum_plus : (f g : ℕ → ℕ) (n : ℕ) → sum (λ i. f i + g i) n ≡ sum f n + sum g n
unfolding sum
sum_plus f g zero = refl
sum_plus f g (suc n) = omega (arith, sum_plus f g n)

-- the first apart
pub sum_first : (f : ℕ → ℕ) (n : ℕ) → sum f (suc n) ≡ f 0 + sum (λ i. f (suc i)) n
unfolding sum
sum_first f zero = omega arith
sum_first f (suc n) = omega (arith, sum_first f n)

-- two sums exchanged
pub sum_swap : (f : ℕ → ℕ → ℕ) (m n : ℕ) → sum (λ a. sum (f a) n) m ≡ sum (λ b. sum (λ a. f a b) m) n
unfolding sum
sum_swap f zero n = sym (sum_zero _ n (λ i h. refl))
sum_swap f (suc m) n = omega (arith, sum_swap f m n, sum_plus (λ b. sum (λ a. f a b) m) (f m) n)

pub part_ok : (f : ℕ → ℕ) (n k : ℕ) → k < sum f n → Placed f n k (part_at f n k)
unfolding sum part_at choose
part_ok f zero k h = absurd (not-suc-le-zero h)
part_ok f (suc n) k h = go (λ l. part_ok f n k l) (dec_lt k (sum f n))
  where
    go : (k < sum f n → Placed f n k (part_at f n k)) → (d : Dec (k < sum f n))
        → Placed f (suc n) k (choose d (part_at f n k) (n, k - sum f n))
    go ih (yes l) = let p = ih l in (omega arith, p.1, p.2)
    go ih (no l) = omega arith

-- a number falls into one part only
pub part_same : (f : ℕ → ℕ) (i j a b : ℕ) → a < f i → b < f j → sum f i + a ≡ sum f j + b → i ≡ j
part_same f i j a b ha hb e = go (dec_lt i j) (dec_lt j i)
  where
    go : Dec (i < j) → Dec (j < i) → i ≡ j
    go (yes l) d = absurd (omega (arith, sum_lt f i j a l ha))
    go (no l) (yes m) = absurd (omega (arith, sum_lt f j i b m hb))
    go (no l) (no m) = omega arith

pub part_at_lem : (f : ℕ → ℕ) (n i m : ℕ) → i < n → m < f i → part_at f n (sum f i + m) ≡ (i, m)
part_at_lem f n i m hi hm =
    let p = part_ok f n (sum f i + m) (sum_lt f i n m hi hm) in
    go (part_at f n (sum f i + m)) p (part_same f _ i _ m p.1 hm (sym p.2))
  where
    go : (p : ℕ × ℕ) → Placed f n (sum f i + m) p → p.0 ≡ i → p ≡ (i, m)
    go p h e =
        let e' : p.1 ≡ m = omega (arith, ap (sum f) e, h.2) in
        λ t. (e t, e' t)

-- parts of one size c: where a number falls into one, c is no zero
pub part_pos : (m n c : ℕ) → m < n * c → 0 < c
part_pos m n zero h = absurd (omega (arith, h))
part_pos m n (suc c) h = omega arith

-- ---- a function of each number of a list, added up

pub sum_over_end : (f : ℕ → ℕ) (l : List ℕ) (j : ℕ) → length l ≤ j → sum_over f (drop j l) ≡ 0
unfolding sum_over
sum_over_end f l j h = rw (drop_of_length-le l h)

pub sum_over_next : (f : ℕ → ℕ) (l : List ℕ) (j : ℕ) → j < length l
    → sum_over f (drop j l) ≡ f (get_or l j 0) + sum_over f (drop (j + 1) l)
unfolding sum_over
sum_over_next f l j h = rw (drop-cons l j 0 h, add-one)

pub sum_over_same : (f g : ℕ → ℕ) (l : List ℕ) → ((x : ℕ) → In x l → f x ≡ g x) → sum_over f l ≡ sum_over g l
unfolding sum_over In
sum_over_same f g [] e = refl
sum_over_same f g (x ∷ l) e = omega (arith, e x (inl refl), sum_over_same f g l (λ y m. e y (inr m)))

-- ---- from the last to the first

pub sum_reversed : (f : ℕ → ℕ) (n : ℕ) → sum (λ q. f (n - 1 - q)) n ≡ sum f n
unfolding sum
sum_reversed f zero = refl
sum_reversed f (suc n) =
    let z : suc n - 1 - 0 ≡ n = omega arith in
    let e = sum_first (λ q. f (suc n - 1 - q)) n in
    let k : (i : ℕ) → suc n - 1 - suc i ≡ n - 1 - i = λ i. omega arith in
    let s = sum_same (λ i. f (suc n - 1 - suc i)) (λ i. f (n - 1 - i)) n (λ i h. ap f (k i)) in
    omega (arith, e, s, ap f z, sum_reversed f n)
