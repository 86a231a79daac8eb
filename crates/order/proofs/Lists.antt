-- Membership, ascent and counting in lists of numbers: over ++ and map, and decided by looking.
-- Assumes nothing.
use mathlib.Core.Path.{◌≡◌, refl, sym, ap, ◌∙◌, subst}
use mathlib.Core.Logic.{◌≢◌, ◌↔◌, ◌⊎◌, inl, inr, ⊎_elim}
use mathlib.Core.Bool.{Bool, true, false, true≢false, cond}
use mathlib.Core.List.{List, [], ◌∷◌, ◌++◌, map}
use Prim.Native.Nat.{ℕ, zero, suc, ◌+◌, ◌≤◌, ◌<◌}
use native.Mathlib.Omega.{arith}
use borrow.Author.Tests.{eq-eqb, ne_eqb}
use lib.Dec.{T, eqb, eqb→eq, eqb_refl}
use lib.ListN.{length, get_or, replicate}
use Rattle.order.specs.Lists.{In, has, Ascending, occurs}

pub in_left : (a : ℕ) (s t : List ℕ) → In a s → In a (s ++ t)
unfolding In
in_left a [] t h = absurd h
in_left a (x ∷ s) t (inl e) = inl e
in_left a (x ∷ s) t (inr h) = inr (in_left a s t h)

pub in_right : (a : ℕ) (s t : List ℕ) → In a t → In a (s ++ t)
unfolding In
in_right a [] t h = h
in_right a (x ∷ s) t h = inr (in_right a s t h)

pub append_in : (a : ℕ) (s t : List ℕ) → In a (s ++ t) → In a s ⊎ In a t
unfolding In
append_in a [] t h = inr h
append_in a (x ∷ s) t (inl e) = inl (inl e)
append_in a (x ∷ s) t (inr h) = go (append_in a s t h)
  where
    go : In a s ⊎ In a t → In a (x ∷ s) ⊎ In a t
    go (inl m) = inl (inr m)
    go (inr m) = inr m

pub in_map : (f : ℕ → ℕ) (a : ℕ) (l : List ℕ) → In a l → In (f a) (map f l)
unfolding In
in_map f a [] h = absurd h
in_map f a (x ∷ l) (inl e) = inl (ap f e)
in_map f a (x ∷ l) (inr h) = inr (in_map f a l h)

pub map_in : (f : ℕ → ℕ) (y : ℕ) (l : List ℕ) → In y (map f l) → (a : ℕ) × In a l × (y ≡ f a)
unfolding In
map_in f y [] h = absurd h
map_in f y (x ∷ l) (inl e) = (x, inl refl, e)
map_in f y (x ∷ l) (inr h) = let r = map_in f y l h in (r.0, inr r.1, r.2)

-- a number at a place of a list stands in it
pub get_d_map : (f : ℕ → ℕ) (l : List ℕ) (j : ℕ) → j < length l → get_or (map f l) j 0 ≡ f (get_or l j 0)
get_d_map f [] j h = absurd (omega arith)
get_d_map f (x ∷ l) zero h = refl
get_d_map f (x ∷ l) (suc j) h = get_d_map f l j (omega arith)

pub ascending_append : (s t : List ℕ) → Ascending s → Ascending t → ((x y : ℕ) → In x s → In y t → x < y)
    → Ascending (s ++ t)
unfolding In Ascending
ascending_append [] t hs ht h = ht
ascending_append (x ∷ s) t hs ht h =
    (λ y m. go y (append_in y s t m), ascending_append s t hs.1 ht (λ a b ma mb. h a b (inr ma) mb))
  where
    go : (y : ℕ) → In y s ⊎ In y t → x < y
    go y (inl m) = hs.0 y m
    go y (inr m) = h x y (inl refl) m

pub ascending_map : (f : ℕ → ℕ) (l : List ℕ) → ((x y : ℕ) → In x l → In y l → x < y → f x < f y) → Ascending l
    → Ascending (map f l)
unfolding In Ascending
ascending_map f [] h a = tt
ascending_map f (x ∷ l) h a = (go, ascending_map f l (λ u v mu mv. h u v (inr mu) (inr mv)) a.1)
  where
    go : (y : ℕ) → In y (map f l) → f x < y
    go y m = let r = map_in f y l m in rw r.2 (h x r.0 (inl refl) (inr r.1) (a.0 r.0 r.1))

-- what a test of two numbers says
abbrev Tested : ℕ → ℕ → Type 0
Tested x a = ((eqb x a ≡ true) × (a ≡ x)) ⊎ ((eqb x a ≡ false) × (a ≢ x))

tested : (x a : ℕ) → Tested x a
tested x a = go (eqb x a) refl
  where
    go : (b : Bool) → eqb x a ≡ b → Tested x a
    go true e = inl (e, sym (eqb→eq x a (rw e tt)))
    go false e = inr (e, λ p. subst T e (subst (λ t. T (eqb t a)) p (eqb_refl a)))

-- what looking and counting find, in a list that has the number and in one that has not
abbrev Met : ℕ → List ℕ → Type 0
Met a l = In a l × (has l a ≡ true) × (0 < occurs a l)

abbrev Missed : ℕ → List ℕ → Type 0
Missed a l = (¬ In a l) × (has l a ≡ false) × (occurs a l ≡ 0)

looked : (a : ℕ) (l : List ℕ) → Met a l ⊎ Missed a l
unfolding In has occurs
looked a [] = inr (λ h. h, refl, refl)
looked a (x ∷ l) = go (tested x a) (looked a l)
  where
    go : Tested x a → Met a l ⊎ Missed a l → Met a (x ∷ l) ⊎ Missed a (x ∷ l)
    go (inl t) r = inl (inl t.1, rw t.0, rw t.0 (omega arith))
    go (inr t) (inl r) = inl (inr r.0, rw t.0 r.1, rw t.0 r.2)
    go (inr t) (inr r) = inr (none, rw t.0 r.1, rw t.0 r.2)
      where
        none : ¬ In a (x ∷ l)
        none (inl e) = t.1 e
        none (inr h) = r.0 h

pub in? : (a : ℕ) (l : List ℕ) → Dec (In a l)
in? a l = ⊎_elim (λ r. yes r.0) (λ r. no r.0) (looked a l)

pub has_yes : (a : ℕ) (l : List ℕ) → (has l a ≡ true) ↔ In a l
has_yes a l = ⊎_elim
    (λ r. (λ e. r.0, λ h. r.1))
    (λ r. (λ e. absurd (true≢false (sym e ∙ r.1)), λ h. absurd (r.0 h)))
    (looked a l)

pub has_no : (a : ℕ) (l : List ℕ) → (has l a ≡ false) ↔ (¬ In a l)
has_no a l = ⊎_elim
    (λ r. (λ e. absurd (true≢false (sym r.1 ∙ e)), λ h. absurd (h r.0)))
    (λ r. (λ e. r.0, λ h. r.1))
    (looked a l)

pub occurs_some : (a : ℕ) (l : List ℕ) → (0 < occurs a l) ↔ In a l
occurs_some a l = ⊎_elim
    (λ r. (λ e. r.0, λ h. r.2))
    (λ r. (λ e. absurd (omega (arith, r.2)), λ h. absurd (r.0 h)))
    (looked a l)

pub occurs_none : (a : ℕ) (l : List ℕ) → (occurs a l ≡ 0) ↔ (¬ In a l)
occurs_none a l = ⊎_elim
    (λ r. (λ e. absurd (omega (arith, r.2)), λ h. absurd (h r.0)))
    (λ r. (λ e. r.0, λ h. r.2))
    (looked a l)

pub occurs_nil : (a : ℕ) → occurs a [] ≡ 0
unfolding occurs
occurs_nil a = refl

pub occurs_le : (a : ℕ) (l : List ℕ) → occurs a l ≤ length l
unfolding occurs
occurs_le a [] = omega arith
occurs_le a (x ∷ l) = go (eqb x a) (occurs_le a l)
  where
    go : (b : Bool) → occurs a l ≤ length l → cond b (suc (occurs a l)) (occurs a l) ≤ suc (length l)
    go true h = omega arith
    go false h = omega arith

pub occurs_append : (a : ℕ) (s t : List ℕ) → occurs a (s ++ t) ≡ occurs a s + occurs a t
unfolding occurs
occurs_append a [] t = omega arith
occurs_append a (x ∷ s) t = go (tested x a) (occurs_append a s t)
  where
    go : Tested x a → occurs a (s ++ t) ≡ occurs a s + occurs a t
        → occurs a ((x ∷ s) ++ t) ≡ occurs a (x ∷ s) + occurs a t
    go (inl e) ih = rw e.0 (omega arith)
    go (inr e) ih = rw e.0 ih

pub occurs_cons : (a x : ℕ) (l : List ℕ) → occurs a (x ∷ l) ≡ occurs a (x ∷ []) + occurs a l
occurs_cons a x l = occurs_append a (x ∷ []) l

pub occurs_own : (a : ℕ) → occurs a (a ∷ []) ≡ 1
unfolding occurs
occurs_own a = rw (eq-eqb a a refl)

pub occurs_apart : (a x : ℕ) → (x ≡ a → ⊥) → occurs a (x ∷ []) ≡ 0
unfolding occurs
occurs_apart a x h = rw (ne_eqb x a h)

pub ascending_once : (a : ℕ) (l : List ℕ) → Ascending l → occurs a l ≤ 1
unfolding In Ascending occurs
ascending_once a [] h = omega arith
ascending_once a (x ∷ l) h = go (tested x a) (ascending_once a l h.1)
  where
    go : Tested x a → occurs a l ≤ 1 → occurs a (x ∷ l) ≤ 1
    go (inl e) ih = rw e.0 (omega (arith, (occurs_none a l).1 (λ m. absurd (omega (arith, h.0 a m, e.1)))))
    go (inr e) ih = rw e.0 ih

-- two ascending lists with the same members begin alike
heads : (x y : ℕ) (l m : List ℕ) → In x (y ∷ m) → In y (x ∷ l) → Ascending (x ∷ l) → Ascending (y ∷ m) → x ≡ y
unfolding In Ascending
heads x y l m (inl e) q hl hm = e
heads x y l m (inr p) (inl e) hl hm = sym e
heads x y l m (inr p) (inr q) hl hm = absurd (omega (arith, hl.0 y q, hm.0 x p))

-- the members behind the head stand behind the other's head
tails : (x y : ℕ) (l m : List ℕ) → x ≡ y → Ascending (x ∷ l) → ((a : ℕ) → In a (x ∷ l) → In a (y ∷ m))
    → (a : ℕ) → In a l → In a m
unfolding In Ascending
tails x y l m e hl to a h = go (to a (inr h))
  where
    go : (a ≡ y) ⊎ In a m → In a m
    go (inl p) = absurd (omega (arith, hl.0 a h))
    go (inr p) = p

pub ascending_same : (l m : List ℕ) → ((a : ℕ) → In a l → In a m) → ((a : ℕ) → In a m → In a l)
    → Ascending l → Ascending m → l ≡ m
unfolding In Ascending
ascending_same [] [] to back hl hm = refl
ascending_same [] (y ∷ m) to back hl hm = absurd (back y (inl refl))
ascending_same (x ∷ l) [] to back hl hm = absurd (to x (inl refl))
ascending_same (x ∷ l) (y ∷ m) to back hl hm =
    let e = heads x y l m (to x (inl refl)) (back y (inl refl)) hl hm in
    let r = ascending_same l m (tails x y l m e hl to) (tails y x m l (sym e) hm back) hl.1 hm.1 in
    λ i. e i ∷ r i

-- all numbers are 0
pub zeros : (n k : ℕ) → ◌≡◌ {A = ℕ} (get_or (replicate n 0) k 0) 0
zeros zero k = refl
zeros (suc n) zero = refl
zeros (suc n) (suc k) = zeros n k
