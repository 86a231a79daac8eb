-- Where a refusal comes from: of a row of tests, the first that refuses, and every test before it passed.
-- Assumes nothing.
use mathlib.Core.Path.{◌≡◌, refl, sym, ap, subst}
use mathlib.Core.Logic.{◌≢◌, ◌⊎◌, inl, inr, ⊎_elim}
use mathlib.Core.Bool.{Bool, true, false, cond}
use mathlib.Core.List.{List, [], ◌∷◌, ◌++◌}
use Prim.Native.Nat.{ℕ, zero, suc, ◌+◌, ◌-◌, ◌≤◌, ◌<◌}
use native.Mathlib.Nat.{eq-or-lt_of_le}
use native.Mathlib.Omega.{arith}
use borrow.Author.Tests.{leb-true, leb-false}
use lib.Dec.{leb}
use Rattle.order.specs.Lists.{Earlier, In, occurs}
use Rattle.listing.specs.declared.Answer.{Answer}
use Rattle.listing.specs.Answers.{fine, on, ◌or_else◌, first_in, first_for, first_of}
use Rattle.listing.specs.Listing.{Listing, count}
use Rattle.listing.proofs.Answers.{or_fine, or_stop, on_no, of_each}
use Rattle.valid_diamond.specs.Dyadic.{third_test}
use Rattle.order.proofs.Lists.{occurs_nil, occurs_cons}
use Rattle.valid_diamond.proofs.Counting.{still}
use Rattle.promises.specs.Named.{FirstIn, FirstThird}
use Rattle.listing.proofs.Broken.{zero_or}

module _ (Q : Answer → Type 0) where
  -- a refusal has a property
  abbrev pub Tells : Answer → Type 0
  Tells a = a.no ≢ 0 → Q a

  pub tells_fine : Tells fine
  tells_fine s = absurd (s refl)

  pub tells_or : (x y : Answer) → Tells x → (x.no ≡ 0 → Tells y) → Tells (x or_else y)
  tells_or x y p q = go (zero_or x.no)
    where
      go : (x.no ≡ 0) ⊎ (x.no ≡ 0 → ⊥) → Tells (x or_else y)
      go (inl z) = rw (or_fine x y z) (q z)
      go (inr s) = rw (or_stop x y s) p

  pub tells_cond : (t : Bool) (x y : Answer) → (t ≡ true → Tells x) → (t ≡ false → Tells y) → Tells (cond t x y)
  tells_cond true x y p q = p refl
  tells_cond false x y p q = q refl

  pub tells_on : (t : Bool) (x : Answer) → (t ≡ true → Q x) → Tells (on t x)
  tells_on t x p = tells_cond t x fine (λ e s. p e) (λ e. tells_fine)

  -- ---- along numbers, and along a list

  module _ (f : ℕ → Answer) where
    tells_for : (d i : ℕ) → ((k : ℕ) → i ≤ k → k < i + d → ((j : ℕ) → i ≤ j → j < k → (f j).no ≡ 0) → Tells (f k))
        → Tells (first_for f i d)
    unfolding first_for
    tells_for zero i g = tells_fine
    tells_for (suc d) i g =
        tells_or (f i) (first_for f (suc i) d) (g i (omega arith) (omega arith) (λ j l m. absurd (omega arith)))
        (λ z. tells_for d (suc i) (λ k l m e. g k (omega arith) (omega arith) (λ j p q.
        ⊎_elim (λ (c : i ≡ j). subst (λ (n : ℕ). (f n).no ≡ 0) c z) (λ c. e j c q) (eq-or-lt_of_le p))))

    pub tells_of : (i n : ℕ) → ((k : ℕ) → i ≤ k → k < n → ((j : ℕ) → i ≤ j → j < k → (f j).no ≡ 0) → Tells (f k))
        → Tells (first_of f i n)
    unfolding first_of
    tells_of i n g = tells_for (n - i) i (λ k l m e. g k l (omega arith) e)

    pub tells_in : (l : List ℕ) → ((x : ℕ) → FirstIn (λ y. (f y).no ≡ 0) x l → Tells (f x)) → Tells (first_in f l)
    unfolding first_in In
    tells_in [] g = tells_fine
    tells_in (y ∷ l) g =
        tells_or (f y) (first_in f l)
        (g y (record { done = []; rest = l; stands = refl; earlier = λ x m. absurd m }))
        (λ z. tells_in l (λ x p. g x (record {
          done = y ∷ p.done;
          rest = p.rest;
          stands = ap (λ (t : List ℕ). y ∷ t) p.stands;
          earlier = λ w m. ⊎_elim (λ e. subst (λ (n : ℕ). (f n).no ≡ 0) (sym e) z) (p.earlier w) m;
        })))

    -- along a walk that refuses what it meets a third time
    tells_met : ((x : ℕ) → (f x).no ≢ 0) → (s l : List ℕ) → ((y : ℕ) → occurs y s ≤ 2)
        → ((x : ℕ) (done rest : List ℕ) → l ≡ done ++ x ∷ rest → 2 ≤ occurs x s + occurs x done
        → ((y : ℕ) → occurs y s + occurs y done ≤ 2) → Q (f x))
        → Tells (third_test f s l)
    unfolding third_test
    tells_met bad s [] few g = tells_fine
    tells_met bad s (y ∷ l) few g =
        tells_or (on (leb 2 (occurs y s)) (f y)) (third_test f (y ∷ s) l)
        (tells_on (leb 2 (occurs y s)) (f y) (λ t. g y [] l refl
        (omega (arith, leb-true 2 (occurs y s) t, occurs_nil y)) (λ w. omega (arith, few w, occurs_nil w))))
        (λ z.
        let q = leb-false 2 (occurs y s) (on_no (leb 2 (occurs y s)) (f y) (bad y) z) in
        tells_met bad (y ∷ s) l (λ w. still w y s q (few w)) (λ x done rest e c a. g x (y ∷ done) rest
        (ap (λ (t : List ℕ). y ∷ t) e) (omega (arith, c, occurs_cons x y s, occurs_cons x y done))
        (λ w. omega (arith, a w, occurs_cons w y s, occurs_cons w y done))))

    pub tells_third : ((x : ℕ) → (f x).no ≢ 0) → (l : List ℕ) → ((x : ℕ) → FirstThird x l → Q (f x))
        → Tells (third_test f [] l)
    tells_third bad l g =
        tells_met bad [] l (λ y. omega (arith, occurs_nil y)) (λ x done rest e c a. g x (record {
          done = done;
          rest = rest;
          stands = e;
          twice = omega (arith, c, a x, occurs_nil x);
          earlier = λ y. omega (arith, a y, occurs_nil y);
        }))

  -- ---- along the elements of the ranks from a up to, not including, b

  pub tells_elements : (L : Listing) (f : ℕ → ℕ → Answer) (a b : ℕ)
      → ((r i : ℕ) → a ≤ r → r < b → i < count L r
      → ((q j : ℕ) → a ≤ q → j < count L q → Earlier q j r i → (f q j).no ≡ 0) → Tells (f r i))
      → Tells (first_of (λ r. first_of (f r) 0 (count L r)) a b)
  tells_elements L f a b g =
      tells_of (λ r. first_of (f r) 0 (count L r)) a b (λ r l h lower.
      tells_of (f r) 0 (count L r) (λ i _ k left. g r i l h k (λ q j m n s. ⊎_elim
      (λ c. of_each (f q) 0 (count L q) (lower q m c) j (omega arith) n)
      (λ p. subst (λ (t : ℕ). (f t j).no ≡ 0) (sym p.0) (left j (omega arith) p.1)) s)))
