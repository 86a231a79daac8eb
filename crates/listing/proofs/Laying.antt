-- Numbers written at a place: nothing yet, one more, one part after another, and a list of them; a list with a number
-- in front, and one at the very beginning.
-- Assumes nothing.
use mathlib.Core.Path.{◌≡◌, refl, sym, ap, ◌∙◌}
use mathlib.Core.List.{List, [], ◌∷◌, ◌++◌}
use Prim.Native.Nat.{ℕ, zero, suc, ◌+◌, ◌-◌, ◌≤◌, ◌<◌}
use native.Mathlib.Decide.{dec_lt}
use native.Mathlib.Omega.{arith}
use lib.ListN.{length, get_or, take, set, length-append, length-set, get_or-append}
use lib.Seq.{ext_get_or, get_or-set_same, get_or-set_other, get_or-append-add}
use Rattle.order.specs.Lists.{over}
use Rattle.order.proofs.Over.{over_first, over_numbers}
use Rattle.listing.specs.Laid.{Laid, LaidList}

module _ (at : ℕ) (f : ℕ → ℕ) where
  pub laid_none : (d : List ℕ) → Laid at f 0 d d
  laid_none d = record {
    same_length = refl;
    inside = λ j h. absurd (omega arith);
    earlier = λ p h. refl;
    later = λ p h. refl;
  }

  -- one number more, stored behind the others
  module _ (n v : ℕ) (d d' : List ℕ) (l : Laid at f n d d') (h : at + n < length d) (e : v ≡ f n) where
    next_inside : (j : ℕ) → j < n + 1 → get_or (set d' (at + n) v) (at + j) 0 ≡ f j
    next_inside j k = go (dec_lt j n)
      where
        go : Dec (j < n) → get_or (set d' (at + n) v) (at + j) 0 ≡ f j
        go (yes b) = get_or-set_other d' (at + n) (at + j) v 0 (omega arith) ∙ l.inside j b
        go (no b) =
            let s : j ≡ n = omega arith in
            rw s (get_or-set_same d' (at + n) v 0 (omega (arith, l.same_length)) ∙ e)

    pub laid_next : Laid at f (n + 1) d (set d' (at + n) v)
    laid_next = record {
      same_length = length-set d' (at + n) v ∙ l.same_length;
      inside = next_inside;
      earlier = λ p k. get_or-set_other d' (at + n) p v 0 (omega arith) ∙ l.earlier p k;
      later = λ p k. get_or-set_other d' (at + n) p v 0 (omega arith) ∙ l.later p (omega arith);
    }

-- a number written from the very beginning on
pub laid_at : (f : ℕ → ℕ) (n : ℕ) (d d' : List ℕ) → Laid 0 f n d d' → (j : ℕ) → j < n → get_or d' j 0 ≡ f j
laid_at f n d d' l j h =
    let e : 0 + j ≡ j = omega arith in
    rw e at (l.inside j h)

-- one number alone
pub laid_one : (at x : ℕ) (d : List ℕ) → at < length d → Laid at (λ j. x) 1 d (set d at x)
laid_one at x d h =
    let e : at + 0 ≡ at = omega arith in
    rw e at (laid_next at (λ j. x) 0 x d d (laid_none at (λ j. x) d) (omega arith) refl)

-- where nothing was written all is as it was
pub laid_same : (at : ℕ) (f : ℕ → ℕ) (d d' : List ℕ) → Laid at f 0 d d' → d' ≡ d
laid_same at f d d' l = ext_get_or 0 d' d l.same_length (λ i h. go i (dec_lt i at))
  where
    go : (i : ℕ) → Dec (i < at) → get_or d' i 0 ≡ get_or d i 0
    go i (yes b) = l.earlier i b
    go i (no b) = l.later i (omega arith)

-- a part, and another behind it
module _ (at n m : ℕ) (f g h : ℕ → ℕ) (d d' d'' : List ℕ) (l : Laid at f n d d') (k : Laid (at + n) g m d' d'')
    (front : (j : ℕ) → j < n → h j ≡ f j) (back : (j : ℕ) → j < m → h (n + j) ≡ g j) where
  then_inside : (j : ℕ) → j < n + m → get_or d'' (at + j) 0 ≡ h j
  then_inside j b = go (dec_lt j n)
    where
      go : Dec (j < n) → get_or d'' (at + j) 0 ≡ h j
      go (yes q) = k.earlier (at + j) (omega arith) ∙ l.inside j q ∙ sym (front j q)
      go (no q) =
          let e : at + j ≡ at + n + (j - n) = omega arith in
          let s : j ≡ n + (j - n) = omega arith in
          ap (λ (p : ℕ). get_or d'' p 0) e ∙ k.inside (j - n) (omega arith) ∙ sym (back (j - n) (omega arith))
          ∙ ap h (sym s)

  pub laid_then : Laid at h (n + m) d d''
  laid_then = record {
    same_length = k.same_length ∙ l.same_length;
    inside = then_inside;
    earlier = λ p b. k.earlier p (omega arith) ∙ l.earlier p b;
    later = λ p b. k.later p (omega arith) ∙ l.later p (omega arith);
  }

-- ---- lists

module _ (at : ℕ) (d d' : List ℕ) where
  pub laid_list : (s : List ℕ) (f : ℕ → ℕ) (n : ℕ) → length s ≡ n → ((j : ℕ) → j < n → f j ≡ get_or s j 0)
      → Laid at f n d d' → LaidList at s d d'
  laid_list s f n e same l =
      rw e
      (record {
        same_length = l.same_length;
        inside = λ j h. l.inside j h ∙ same j h;
        earlier = l.earlier;
        later = l.later;
      })

  pub list_then : (s t d'' : List ℕ) → LaidList at s d d' → LaidList (at + length s) t d' d'' → LaidList at (s ++ t) d d''
  list_then s t d'' l k =
      rw (length-append s t)
      (laid_then at (length s) (length t) _ _ _ d d' d'' l k (λ j h. get_or-append s t 0 j h)
      (λ j h. get_or-append-add s t j 0))

  -- a number in front of a list that stands there
  module _ (s : List ℕ) (y : ℕ) (h : at < length d) (l : LaidList (at + 1) s d d') where
    front_inside : (j : ℕ) → j < suc (length s) → get_or (set d' at y) (at + j) 0 ≡ get_or (y ∷ s) j 0
    front_inside zero k =
        let e : at + 0 ≡ at = omega arith in
        rw e (get_or-set_same d' at y 0 (omega (arith, l.same_length)))
    front_inside (suc j) k =
        let e : at + suc j ≡ at + 1 + j = omega arith in
        rw e (get_or-set_other d' at (at + 1 + j) y 0 (omega arith) ∙ l.inside j (omega arith))

    pub list_before : LaidList at (y ∷ s) d (set d' at y)
    list_before = record {
      same_length = length-set d' at y ∙ l.same_length;
      inside = front_inside;
      earlier = λ p k. get_or-set_other d' at p y 0 (omega arith) ∙ l.earlier p (omega arith);
      later = λ p k. get_or-set_other d' at p y 0 (omega arith) ∙ l.later p (omega arith);
    }

-- a list of one number
pub list_one : (at x : ℕ) (d : List ℕ) → at < length d → LaidList at (x ∷ []) d (set d at x)
list_one at x d h = laid_list at d (set d at x) (x ∷ []) (λ j. x) 1 refl one (laid_one at x d h)
  where
    one : (j : ℕ) → j < 1 → x ≡ get_or (x ∷ []) j 0
    one zero k = refl
    one (suc j) k = absurd (omega arith)

-- a list at the very beginning
pub list_over : (new old d : List ℕ) → length new ≤ length old → LaidList 0 new old d → d ≡ over new old
list_over new old d h l =
    over_numbers new old d l.same_length h (laid_at _ (length new) old d l) (λ p a. l.later p (omega arith))

pub take_over : (new old d : List ℕ) → length new ≤ length old → LaidList 0 new old d → take (length new) d ≡ new
take_over new old d h l = rw (list_over new old d h l) (over_first new old _ refl)
