-- Laws of the first refusal in an order. A loop keeps `W ≡ the first of what is left`: -next is a turn, -stop a refusal
-- on the way, -end the loop's end.
-- Assumes nothing.
use mathlib.Core.Path.{◌≡◌, refl, sym, ap, ◌∙◌}
use mathlib.Core.Bool.{Bool, true, false}
use mathlib.Core.List.{List, [], ◌∷◌}
use mathlib.Core.Logic.{◌⊎◌, inl, inr}
use Prim.Native.Nat.{ℕ, zero, suc, ◌+◌, ◌-◌, ◌≤◌, ◌<◌}
use native.Mathlib.Nat.{eq-or-lt_of_le}
use native.Mathlib.Numerals.{add-one}
use native.Mathlib.Omega.{arith}
use lib.ListN.{length, get_or, drop, drop_of_length-le}
use lib.Seq.{drop-cons}
use Rattle.order.specs.Lists.{In}
use Rattle.listing.specs.declared.Answer.{Answer}
use Rattle.listing.specs.Answers.{fine, if_zero, ◌or_else◌, on, first_in, first_for, first_of}

abbrev number : Answer → ℕ
number x = x.no

-- ---- one answer or else another

pub or_fine : (x y : Answer) → x.no ≡ 0 → x or_else y ≡ y
unfolding ◌or_else◌
or_fine x y e = rw e

pub if_not : {A : Type 0} (n : ℕ) (x y : A) → (n ≡ 0 → ⊥) → if_zero n x y ≡ y
if_not zero x y h = absurd (h refl)
if_not (suc n) x y h = refl

pub or_stop : (x y : Answer) → (x.no ≡ 0 → ⊥) → x or_else y ≡ x
unfolding ◌or_else◌
or_stop x y h = if_not x.no y x h

pub or_no : (x y : Answer) → (x or_else y).no ≡ 0 → (x.no ≡ 0) × (y.no ≡ 0)
or_no x y e = go x.no refl
  where
    go : (n : ℕ) → x.no ≡ n → (x.no ≡ 0) × (y.no ≡ 0)
    go zero z = (z, ap number (sym (or_fine x y z)) ∙ e)
    go (suc n) z =
        let s : x.no ≡ 0 → ⊥ = λ w. omega arith in
        absurd (s (ap number (sym (or_stop x y s)) ∙ e))

pub no_or : (x y : Answer) → x.no ≡ 0 → y.no ≡ 0 → (x or_else y).no ≡ 0
no_or x y e f = ap number (or_fine x y e) ∙ f

pub or_assoc : (x y z : Answer) → x or_else (y or_else z) ≡ (x or_else y) or_else z
unfolding ◌or_else◌
or_assoc x y z = go x.no refl
  where
    go : (n : ℕ) → x.no ≡ n → if_zero n (if_zero y.no z y) x ≡ if_zero (if_zero n y x).no z (if_zero n y x)
    go zero e = refl
    go (suc n) e = rw e

-- ---- a refusal where a test says so

pub on_no : (b : Bool) (x : Answer) → (x.no ≡ 0 → ⊥) → (on b x).no ≡ 0 → b ≡ false
on_no true x h e = absurd (h e)
on_no false x h e = refl

pub on_off : (b : Bool) (x : Answer) → b ≡ false → (on b x).no ≡ 0
on_off b x e = rw e

-- a test of the row passes, and so does the rest
pub on_or_no : (b : Bool) (x y : Answer) → (x.no ≡ 0 → ⊥) → (on b x or_else y).no ≡ 0 → (b ≡ false) × (y.no ≡ 0)
on_or_no b x y h e = let p = or_no (on b x) y e in (on_no b x h p.0, p.1)

-- ---- a caller that answers the first refusal: `if s.no != 0 { return s; }`, and then t

pub no_of : {s S : Answer} → s ≡ S → s.no ≡ 0 → S.no ≡ 0
no_of e z = ap number (sym e) ∙ z

pub stops : {s S : Answer} → s ≡ S → (s.no ≡ 0 → ⊥) → S.no ≡ 0 → ⊥
stops e h z = h (ap number e ∙ z)

pub then_stop : {s S : Answer} (B : Answer) → s ≡ S → (s.no ≡ 0 → ⊥) → s ≡ S or_else B
then_stop {s} {S} B e h = e ∙ sym (or_stop S B (stops e h))

pub then_go : {s S t B : Answer} → s ≡ S → s.no ≡ 0 → t ≡ B → t ≡ S or_else B
then_go {S = S} {B = B} e z k = k ∙ sym (or_fine S B (no_of e z))

-- ---- along a list

module _ (W : Answer) (f : ℕ → Answer) (l : List ℕ) (k : ℕ) (e : W ≡ first_in f (drop k l)) where
  in_step : k < length l → first_in f (drop k l) ≡ f (get_or l k 0) or_else first_in f (drop (k + 1) l)
  unfolding first_in
  in_step h = rw (add-one, drop-cons l k 0 h)

  pub in_next : k < length l → (f (get_or l k 0)).no ≡ 0 → W ≡ first_in f (drop (k + 1) l)
  in_next h z = e ∙ in_step h ∙ or_fine _ _ z

  pub in_stop : k < length l → ((f (get_or l k 0)).no ≡ 0 → ⊥) → W ≡ f (get_or l k 0)
  in_stop h z = e ∙ in_step h ∙ or_stop _ _ z

  pub in_end : length l ≤ k → W ≡ fine
  unfolding first_in
  in_end h = e ∙ ap (first_in f) (drop_of_length-le l h)

-- ---- along numbers

module _ (W : Answer) (f : ℕ → Answer) (i n : ℕ) (e : W ≡ first_of f i n) where
  of_step : i < n → first_of f i n ≡ f i or_else first_of f (i + 1) n
  unfolding first_of first_for
  of_step h =
      let d : n - i ≡ suc (n - (i + 1)) = omega arith in
      rw (d, add-one)

  pub of_next : i < n → (f i).no ≡ 0 → W ≡ first_of f (i + 1) n
  of_next h z = e ∙ of_step h ∙ or_fine _ _ z

  pub of_stop : i < n → ((f i).no ≡ 0 → ⊥) → W ≡ f i
  of_stop h z = e ∙ of_step h ∙ or_stop _ _ z

  pub of_end : n ≤ i → W ≡ fine
  unfolding first_of first_for
  of_end h =
      let z : n - i ≡ 0 = omega arith in
      e ∙ ap (first_for f i) z

-- the same for `search`: each conclusion is what a loop has to show, and the premises are what it knows there
module _ (a W : Answer) (f : ℕ → Answer) (i n : ℕ) where
  pub of_return : W ≡ first_of f i n → a ≡ f i → i < n → (a.no ≡ 0 → ⊥) → a ≡ W
  of_return e k h z = k ∙ sym (of_stop W f i n e h (stops k z))

  pub of_turn : W ≡ first_of f i n → a ≡ f i → i < n → a.no ≡ 0 → W ≡ first_of f (i + 1) n
  of_turn e k h z = of_next W f i n e h (no_of k z)

  pub of_done : W ≡ first_of f i n → a ≡ fine → n ≤ i → a ≡ W
  of_done e k h = k ∙ sym (of_end W f i n e h)

-- tests that answer alike on the way answer alike as a whole
module _ (f g : ℕ → Answer) where
  for_same : (d i : ℕ) → ((k : ℕ) → i ≤ k → k < i + d → f k ≡ g k) → first_for f i d ≡ first_for g i d
  unfolding first_for
  for_same zero i e = refl
  for_same (suc d) i e =
      let p = e i (omega arith) (omega arith) in
      let q = for_same d (suc i) (λ k l h. e k (omega arith) (omega arith)) in
      λ j. p j or_else q j

  pub of_same : (i n : ℕ) → ((k : ℕ) → i ≤ k → k < n → f k ≡ g k) → first_of f i n ≡ first_of g i n
  unfolding first_of
  of_same i n e = for_same (n - i) i (λ k l h. e k l (omega arith))

-- ---- no refusal along the way means none anywhere, and back

module _ (f : ℕ → Answer) where
  pub in_each : (l : List ℕ) → (first_in f l).no ≡ 0 → (x : ℕ) → In x l → (f x).no ≡ 0
  unfolding first_in In
  in_each [] e x m = absurd m
  in_each (y ∷ l) e x (inl q) = rw q (or_no (f y) (first_in f l) e).0
  in_each (y ∷ l) e x (inr m) = in_each l (or_no (f y) (first_in f l) e).1 x m

  pub in_all : (l : List ℕ) → ((x : ℕ) → In x l → (f x).no ≡ 0) → (first_in f l).no ≡ 0
  unfolding first_in In
  in_all [] a = refl
  in_all (y ∷ l) a = no_or (f y) (first_in f l) (a y (inl refl)) (in_all l (λ x m. a x (inr m)))

  for_each : (d i : ℕ) → (first_for f i d).no ≡ 0 → (k : ℕ) → i ≤ k → k < i + d → (f k).no ≡ 0
  unfolding first_for
  for_each zero i e k l h = absurd (omega arith)
  for_each (suc d) i e k l h = go (λ m. for_each d (suc i) p.1 k m (omega arith)) (eq-or-lt_of_le l)
    where
      p : ((f i).no ≡ 0) × ((first_for f (suc i) d).no ≡ 0)
      p = or_no (f i) (first_for f (suc i) d) e

      go : (i < k → (f k).no ≡ 0) → (i ≡ k) ⊎ (i < k) → (f k).no ≡ 0
      go later (inl q) = rw (← q) p.0
      go later (inr m) = later m

  for_all : (d i : ℕ) → ((k : ℕ) → i ≤ k → k < i + d → (f k).no ≡ 0) → (first_for f i d).no ≡ 0
  unfolding first_for
  for_all zero i a = refl
  for_all (suc d) i a =
      no_or (f i) (first_for f (suc i) d) (a i (omega arith) (omega arith))
      (for_all d (suc i) (λ k l h. a k (omega arith) (omega arith)))

  pub of_each : (i n : ℕ) → (first_of f i n).no ≡ 0 → (k : ℕ) → i ≤ k → k < n → (f k).no ≡ 0
  unfolding first_of
  of_each i n e k l h = for_each (n - i) i e k l (omega arith)

  pub of_all : (i n : ℕ) → ((k : ℕ) → i ≤ k → k < n → (f k).no ≡ 0) → (first_of f i n).no ≡ 0
  unfolding first_of
  of_all i n a = for_all (n - i) i (λ k l h. a k l (omega arith))

  for_fine : ((k : ℕ) → f k ≡ fine) → (d i : ℕ) → first_for f i d ≡ fine
  unfolding first_for
  for_fine e zero i = refl
  for_fine e (suc d) i = or_fine (f i) _ (ap number (e i)) ∙ for_fine e d (suc i)

  pub of_fine : ((k : ℕ) → f k ≡ fine) → (i n : ℕ) → first_of f i n ≡ fine
  unfolding first_of
  of_fine e i n = for_fine e (n - i) i
