-- Counting along a walk: test 3 of one element answers 0 exactly if each index that its walk meets is met twice.
-- Assumes nothing.
use mathlib.Core.Path.{◌≡◌, refl, ap, ◌∙◌}
use mathlib.Core.Logic.{◌↔◌, ◌⊎◌, inl, inr, ⊎_elim}
use mathlib.Core.Bool.{Bool, true, false}
use mathlib.Core.List.{List, [], ◌∷◌}
use Prim.Native.Nat.{ℕ, ◌+◌, ◌-◌, ◌≤◌, ◌<◌}
use native.Mathlib.Omega.{arith}
use borrow.Author.Tests.{eqb-true, eqb-false, ne_eqb, leb-false, lt-leb}
use lib.Dec.{leb, eqb}
use Rattle.order.specs.Lists.{In, occurs}
use Rattle.order.proofs.Lists.{in?, occurs_none, occurs_some, occurs_nil, occurs_cons, occurs_own, occurs_apart}
use Rattle.listing.specs.declared.Answer.{Answer}
use Rattle.listing.specs.Answers.{on}
use Rattle.listing.specs.Listing.{Listing, count}
use Rattle.listing.proofs.Answers.{or_no, no_or, on_no, on_off, of_each, of_all}
use Rattle.valid_diamond.specs.Dyadic.{walk, third_test, seen_after, lone_test, third, lone}
use Rattle.valid_diamond.specs.Dyadic.{sections_test, MetTwiceAt}

-- ---- occurrences

seen_occurs : (x : ℕ) (s l : List ℕ) → occurs x (seen_after s l) ≡ occurs x s + occurs x l
unfolding seen_after
seen_occurs x s [] = omega (arith, occurs_nil x)
seen_occurs x s (y ∷ l) = omega (arith, seen_occurs x (y ∷ s) l, occurs_cons x y s, occurs_cons x y l)

-- what has been seen at the end of a walk
pub all_seen : (x : ℕ) (w : List ℕ) → occurs x (seen_after [] w) ≡ occurs x w
all_seen x w = omega (arith, seen_occurs x [] w, occurs_nil x)

-- one number more, which had not been met twice
pub still : (x y : ℕ) (s : List ℕ) → occurs y s < 2 → occurs x s ≤ 2 → occurs x (y ∷ s) ≤ 2
still x y s h k = go (eqb y x) refl
  where
    go : (b : Bool) → eqb y x ≡ b → occurs x (y ∷ s) ≤ 2
    go true e =
        let q = ap (λ (z : ℕ). occurs z (y ∷ s)) (eqb-true y x e) in
        omega (arith, q, occurs_cons y y s, occurs_own y)
    go false e = omega (arith, occurs_cons x y s, occurs_apart x y (eqb-false y x e))

-- ---- the two tests of a walk, for refusals that are refusals

module _ (f : ℕ → Answer) (bad : (x : ℕ) → (f x).no ≡ 0 → ⊥) where
  pub third_each : (s l : List ℕ) → (third_test f s l).no ≡ 0 → (x : ℕ) → occurs x s ≤ 2 → occurs x s + occurs x l ≤ 2
  unfolding third_test
  third_each s [] e x h = omega (arith, occurs_nil x)
  third_each s (y ∷ l) e x h =
      let p = or_no (on (leb 2 (occurs y s)) (f y)) (third_test f (y ∷ s) l) e in
      let q = leb-false 2 (occurs y s) (on_no (leb 2 (occurs y s)) (f y) (bad y) p.0) in
      let i = third_each (y ∷ s) l p.1 x (still x y s q h) in
      omega (arith, occurs_cons x y s, occurs_cons x y l)

  third_all : (s l : List ℕ) → ((x : ℕ) → occurs x s + occurs x l ≤ 2) → (third_test f s l).no ≡ 0
  unfolding third_test
  third_all s [] a = refl
  third_all s (y ∷ l) a =
      let q : occurs y s < 2 = omega (arith, a y, occurs_cons y y l, occurs_own y) in
      no_or (on (leb 2 (occurs y s)) (f y)) (third_test f (y ∷ s) l)
      (on_off (leb 2 (occurs y s)) (f y) (lt-leb 2 (occurs y s) q))
      (third_all (y ∷ s) l (λ x. omega (arith, a x, occurs_cons x y s, occurs_cons x y l)))

  lone_each : (seen : List ℕ) (n : ℕ) → (lone_test f seen n).no ≡ 0 → (x : ℕ) → x < n → occurs x seen ≡ 1 → ⊥
  unfolding lone_test
  lone_each seen n e x h =
      let z = of_each (λ y. on (eqb (occurs y seen) 1) (f y)) 0 n e x (omega arith) h in
      eqb-false (occurs x seen) 1 (on_no (eqb (occurs x seen) 1) (f x) (bad x) z)

  lone_all : (seen : List ℕ) (n : ℕ) → ((x : ℕ) → occurs x seen ≡ 1 → ⊥) → (lone_test f seen n).no ≡ 0
  unfolding lone_test
  lone_all seen n a = of_all _ 0 n (λ x _ _. on_off (eqb (occurs x seen) 1) (f x) (ne_eqb _ 1 (a x)))

-- ---- one element

module _ (L : Listing) (r i : ℕ) where
  met_all : (sections_test L r i).no ≡ 0 → ((x : ℕ) → In x (walk L r i) → x < count L (r - 2)) → MetTwiceAt L r i
  unfolding sections_test
  met_all e there x m =
      let p = or_no _ _ e in
      let a = third_each (third r i) (λ y z. omega arith) [] (walk L r i) p.0 x (omega (arith, occurs_nil x)) in
      let b = lone_each (lone r i) (λ y z. omega arith) _ (count L (r - 2)) p.1 x (there x m) in
      let c : occurs x (walk L r i) ≡ 1 → ⊥ = λ q. b (all_seen x (walk L r i) ∙ q) in
      omega (arith, (occurs_some x (walk L r i)).1 m, occurs_nil x)

  none_or_two : MetTwiceAt L r i → (x : ℕ) → (occurs x (walk L r i) ≡ 0) ⊎ (occurs x (walk L r i) ≡ 2)
  none_or_two a x = go (in? x (walk L r i))
    where
      go : Dec (In x (walk L r i)) → (occurs x (walk L r i) ≡ 0) ⊎ (occurs x (walk L r i) ≡ 2)
      go (yes m) = inr (a x m)
      go (no m) = inl ((occurs_none x (walk L r i)).1 m)

  all_met : MetTwiceAt L r i → (sections_test L r i).no ≡ 0
  unfolding sections_test
  all_met a =
      no_or _ _ (third_all (third r i) (λ y z. omega arith) [] (walk L r i) few)
      (lone_all (lone r i) (λ y z. omega arith) _ (count L (r - 2)) no_one)
    where
      few : (x : ℕ) → occurs x [] + occurs x (walk L r i) ≤ 2
      few x = ⊎_elim (λ e. omega (arith, occurs_nil x)) (λ e. omega (arith, occurs_nil x)) (none_or_two a x)

      no_one : (x : ℕ) → occurs x (seen_after [] (walk L r i)) ≡ 1 → ⊥
      no_one x q =
          let s = all_seen x (walk L r i) in
          ⊎_elim (λ e. omega arith) (λ e. omega arith) (none_or_two a x)

  -- the premise: what the walk meets is there
  pub sections_exact : ((x : ℕ) → In x (walk L r i) → x < count L (r - 2))
      → (sections_test L r i).no ≡ 0 ↔ MetTwiceAt L r i
  sections_exact there = (λ e. met_all e there, all_met)
