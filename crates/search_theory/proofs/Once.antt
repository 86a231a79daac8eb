-- Lists in which nothing stands twice: their places, one more at the end, and how many fit into another list.
-- Assumes nothing.
use mathlib.Core.Path.{◌≡◌, refl, sym, ◌∙◌}
use mathlib.Core.Logic.{◌≢◌, ⊎_elim}
use mathlib.Core.List.Memᴰ
use mathlib.Core.List.{List, [], ◌∷◌, ◌++◌, map, Memᴰ}
use Prim.Native.Nat.{ℕ, zero, suc, ◌≤◌, ◌<◌}
use native.Mathlib.Nat.{le_of_suc-le-suc, not-suc-le-zero}
use native.Mathlib.Omega.{arith}
use lib.ListN.{length, get_or, take, length-append}
use Rattle.search_theory.specs.Search.{Once}

module _ {A : Type 0} where
  pub length_snoc : (l : List A) (y : A) → length (l ++ (y ∷ [])) ≡ suc (length l)
  length_snoc l y = length-append l (y ∷ []) ∙ omega arith

  pub mem_at : (l : List A) (d : A) (k : ℕ) → k < length l → Memᴰ (get_or l k d) l
  mem_at [] d k h = absurd (not-suc-le-zero h)
  mem_at (x ∷ l) d zero h = Memᴰ.head refl
  mem_at (x ∷ l) d (suc k) h = Memᴰ.tail (mem_at l d k (le_of_suc-le-suc h))

  pub at_in : (l : List A) (d y : A) → Memᴰ y l → (k : ℕ) × (k < length l) × (get_or l k d ≡ y)
  at_in l d y h = go l h
    where
      go : (l : List A) → Memᴰ y l → (k : ℕ) × (k < length l) × (get_or l k d ≡ y)
      go l (Memᴰ.head e) = (0, omega arith, sym e)
      go l (Memᴰ.tail {xs = m} h) = let p = go m h in (suc p.0, omega arith, p.2)

  pub take_mem : {x : A} (n : ℕ) (l : List A) → Memᴰ x (take n l) → Memᴰ x l
  take_mem zero l h = absurd (Memᴰ.not-nil h)
  take_mem (suc n) [] h = h
  take_mem (suc n) (y ∷ l) h =
      ⊎_elim Memᴰ.head (λ k. Memᴰ.tail (take_mem n l k)) (Memᴰ.cases_cons h)

  pub once_snoc : (l : List A) (y : A) → Once l → ¬ Memᴰ y l → Once (l ++ (y ∷ []))
  unfolding Once
  once_snoc [] y o n = (Memᴰ.not-nil, tt)
  once_snoc (x ∷ l) y o n =
      (λ m. ⊎_elim o.0 last (Memᴰ.append_cases l m), once_snoc l y o.1 (λ m. n (Memᴰ.tail m)))
    where
      last : Memᴰ x (y ∷ []) → ⊥
      last m = n (Memᴰ.head (sym (Memᴰ.eq_of_singleton m)))

  -- two lists that share nothing, one after another
  pub once_append : (l m : List A) → Once l → Once m → ((x : A) → Memᴰ x l → ¬ Memᴰ x m) → Once (l ++ m)
  unfolding Once
  once_append [] m o p d = p
  once_append (x ∷ l) m o p d = (
    λ h. ⊎_elim o.0 (d x (Memᴰ.head refl)) (Memᴰ.append_cases l h),
    once_append l m o.1 p (λ y k. d y (Memᴰ.tail k)),
  )

  -- the images of different things, where these are different too
  pub once_map : {B : Type 0} (f : A → B) → ((x y : A) → f x ≡ f y → x ≡ y) → (l : List A) → Once l → Once (map f l)
  unfolding Once
  once_map f inj [] o = tt
  once_map f inj (x ∷ l) o = (
    λ h. let t = Memᴰ.of_map f l h in o.0 (Memᴰ.cast (inj x t.0 (sym t.2)) t.1),
    once_map f inj l o.1,
  )

  -- the first n
  pub once_take : (n : ℕ) (l : List A) → Once l → Once (take n l)
  unfolding Once
  once_take zero l o = tt
  once_take (suc n) [] o = tt
  once_take (suc n) (x ∷ l) o = (λ h. o.0 (take_mem n l h), once_take n l o.1)

  -- a list without one of its members
  record Without (l : List A) (x : A) : Type 0 where
    rest : List A
    fewer : length l ≡ suc (length rest)
    others : (z : A) → z ≢ x → Memᴰ z l → Memᴰ z rest

  without : (l : List A) (x : A) → Memᴰ x l → Without l x
  without l x h = go l h
    where
      go : (l : List A) → Memᴰ x l → Without l x
      go l (Memᴰ.head {xs = m} e) = record {
        rest = m;
        fewer = refl;
        others = λ z d h. ⊎_elim (λ q. absurd (d (q ∙ sym e))) (λ n. n) (Memᴰ.cases_cons h);
      }
      go l (Memᴰ.tail {x = y} {xs = m} h) =
          let s = go m h in
          record {
            rest = y ∷ s.rest;
            fewer = omega arith;
            others = λ z d k. ⊎_elim Memᴰ.head (λ n. Memᴰ.tail (s.others z d n)) (Memᴰ.cases_cons k);
          }

  -- a list in which nothing stands twice is no longer than one that has all its members
  pub once_fits : (l m : List A) → Once l → ((x : A) → Memᴰ x l → Memᴰ x m) → length l ≤ length m
  unfolding Once
  once_fits [] m o h = omega arith
  once_fits (x ∷ l) m o h =
      let s = without m x (h x (Memᴰ.head refl)) in
      let differs : (z : A) → Memᴰ z l → z ≢ x = λ z k e. o.0 (Memᴰ.cast (sym e) k) in
      omega (arith, once_fits l s.rest o.1 (λ z k. s.others z (differs z k) (h z (Memᴰ.tail k))))
