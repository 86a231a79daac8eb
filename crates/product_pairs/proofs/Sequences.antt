-- Small laws of lists and sums: the numbers below n, how often numbers occur, and sums of sums.
-- Assumes nothing.
use mathlib.Core.Path.{◌≡◌, refl, sym, ap, ◌∙◌}
use mathlib.Core.Logic.{◌≢◌, ◌⊎◌, inl, inr}
use mathlib.Core.List.{List, [], ◌∷◌, ◌++◌, map}
use Prim.Native.Nat.{ℕ, zero, suc, ◌+◌, ◌*◌, ◌<◌}
use native.Mathlib.Decide.{dec_lt, ℕ_discrete}
use native.Mathlib.Omega.{arith}
use borrow.Author.Tests.{eq-eqb, ne_eqb}
use lib.ListN.{length, length-append}
use Rattle.order.specs.Lists.{In, Ascending, occurs}
use Rattle.order.specs.Sums.{sum}
use Rattle.order.proofs.Lists.{in_left, in_right, append_in, ascending_append, ascending_once}
use Rattle.order.proofs.Lists.{occurs_some, occurs_append}
use Rattle.order.proofs.Sums.{sum_zero, sum_same, sum_plus}
use Rattle.listing.proofs.Sequences.{occurs_same, occurs_other, sum_parts}
use Rattle.product_pairs.specs.Grown.{up_to}

-- ---- the numbers below n

pub up_to_in : (a n : ℕ) → In a (up_to n) → a < n
unfolding up_to In
up_to_in a zero h = absurd h
up_to_in a (suc n) h = go (λ m. up_to_in a n m) (append_in a (up_to n) (n ∷ []) h)
  where
    go : (In a (up_to n) → a < n) → In a (up_to n) ⊎ In a (n ∷ []) → a < suc n
    go ih (inl m) = omega (arith, ih m)
    go ih (inr (inl e)) = omega arith
    go ih (inr (inr m)) = absurd m

pub in_up_to : (a n : ℕ) → a < n → In a (up_to n)
unfolding up_to In
in_up_to a zero h = absurd (omega arith)
in_up_to a (suc n) h = go (λ l. in_up_to a n l) (dec_lt a n)
  where
    go : (a < n → In a (up_to n)) → Dec (a < n) → In a (up_to n ++ (n ∷ []))
    go ih (yes l) = in_left a (up_to n) (n ∷ []) (ih l)
    go ih (no l) = in_right a (up_to n) (n ∷ []) (inl (omega arith))

pub up_to_ascending : (n : ℕ) → Ascending (up_to n)
unfolding up_to Ascending In
up_to_ascending zero = tt
up_to_ascending (suc n) = ascending_append (up_to n) (n ∷ []) (up_to_ascending n) (λ y m. absurd m, tt) go
  where
    go : (x y : ℕ) → In x (up_to n) → In y (n ∷ []) → x < y
    go x y m (inl e) = omega (arith, up_to_in x n m)
    go x y m (inr k) = absurd k

pub up_to_length : (n : ℕ) → length (up_to n) ≡ n
unfolding up_to
up_to_length zero = refl
up_to_length (suc n) = omega (arith, length-append (up_to n) (n ∷ []), up_to_length n)

pub up_to_occurs : (a n : ℕ) → a < n → occurs a (up_to n) ≡ 1
up_to_occurs a n h =
    omega (arith, (occurs_some a (up_to n)).1 (in_up_to a n h), ascending_once a (up_to n) (up_to_ascending n))

-- ---- sums

pub sum_all : (c n : ℕ) → sum (λ i. c) n ≡ n * c
unfolding sum
sum_all c zero = omega arith
sum_all c (suc n) = omega (arith, sum_all c n)

-- over all pairs of indices
pub sum_cross : (f g : ℕ → ℕ) (m n : ℕ) → sum (λ a. sum (λ b. f a + g b) n) m ≡ sum f m * n + m * sum g n
unfolding sum
sum_cross f g zero n = omega arith
sum_cross f g (suc m) n =
    omega (arith, sum_cross f g m n, sum_plus (λ b. f m) g n, sum_all (f m) n)

-- only one is not 0
pub sum_one : (f : ℕ → ℕ) (n i : ℕ) → i < n → ((k : ℕ) → k < n → k ≢ i → f k ≡ 0) → sum f n ≡ f i
unfolding sum
sum_one f zero i h z = absurd (omega arith)
sum_one f (suc n) i h z = go (λ l. sum_one f n i l (λ k m. z k (omega arith))) (ℕ_discrete i n)
  where
    go : (i < n → sum f n ≡ f i) → Dec (i ≡ n) → sum f n + f n ≡ f i
    go ih (yes e) =
        let s = sum_zero f n (λ k l. z k (omega arith) (λ q. omega arith)) in
        rw e (omega arith)
    go ih (no d) =
        let l : i < n = omega arith in
        omega (arith, ih l, z n (omega arith) (λ q. d (sym q)))

-- m rows of n each
pub sum_rows : (f : ℕ → ℕ) (m n : ℕ) → sum f (m * n) ≡ sum (λ a. sum (λ b. f (a * n + b)) n) m
sum_rows f m n =
    ap (sum f) (sym (sum_all n m)) ∙ sum_parts f (λ r. n) m
    ∙ sum_same _ _ m (λ a h. sum_same _ _ n (λ b k. ap (λ t. f (t + b)) (sum_all n a)))

-- ---- how often numbers occur

-- the occurrences of all numbers together are the length
pub occurs_all : (l : List ℕ) (n : ℕ) → ((a : ℕ) → In a l → a < n) → sum (λ a. occurs a l) n ≡ length l
unfolding In occurs
occurs_all [] n h = sum_zero _ n (λ i k. refl)
occurs_all (x ∷ l) n h =
    sum_same _ _ n (λ a k. occurs_append a (x ∷ []) l) ∙ sum_plus (λ a. occurs a (x ∷ [])) (λ a. occurs a l) n
    ∙ omega (arith, one, occurs_all l n (λ a m. h a (inr m)))
  where
    one : sum (λ a. occurs a (x ∷ [])) n ≡ 1
    one = sum_one _ n x (h x (inl refl)) (λ k m d. occurs_other 1 x k d) ∙ occurs_same 1 x

-- where a map tells a from the members of a list
pub occurs_map : (f : ℕ → ℕ) (a : ℕ) (l : List ℕ) → ((x : ℕ) → In x l → f x ≡ f a → x ≡ a)
    → occurs (f a) (map f l) ≡ occurs a l
unfolding In occurs
occurs_map f a [] h = refl
occurs_map f a (x ∷ l) h = go (occurs_map f a l (λ y m. h y (inr m))) (ℕ_discrete x a)
  where
    go : occurs (f a) (map f l) ≡ occurs a l → Dec (x ≡ a) → occurs (f a) (map f (x ∷ l)) ≡ occurs a (x ∷ l)
    go ih (yes e) = rw (eq-eqb (f x) (f a) (ap f e), eq-eqb x a e) (ap suc ih)
    go ih (no d) = rw (ne_eqb (f x) (f a) (λ e. d (h x (inl refl) e)), ne_eqb x a d) ih
