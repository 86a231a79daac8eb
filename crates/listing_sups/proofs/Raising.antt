-- Counts raised by the entries of lists: one entry, a list, and the lists of a rank.
-- Assumes nothing.
use mathlib.Core.Path.{◌≡◌, refl, sym, ap, ◌∙◌}
use mathlib.Core.List.{List, [], ◌∷◌}
use Prim.Native.Nat.{ℕ, suc, ◌+◌, ◌-◌, ◌*◌, ◌≤◌, ◌<◌}
use native.Mathlib.Decide.{dec_lt, ℕ_discrete}
use native.Mathlib.Numerals.{add-one}
use native.Mathlib.Omega.{arith}
use lib.ListN.{length, get_or, set, take, length-set, length-take}
use lib.Seq.{take-suc, get_or-set_same, get_or-set_other}
use Rattle.order.specs.Lists.{occurs}
use Rattle.order.specs.Sums.{sum}
use Rattle.order.proofs.Lists.{occurs_append, occurs_le, occurs_own, occurs_apart}
use Rattle.order.proofs.Sums.{sum_next}
use Rattle.listing.specs.Listing.{width, start, entries, Ends, subs_at}
use Rattle.listing.proofs.Entries.{entries_length}
use Rattle.listing_sups.specs.Sups.{Raised}

-- ---- occurrences

-- one entry more, x, has been passed
pub occurs_take : (y : ℕ) (l : List ℕ) (t x : ℕ) → t < length l → x ≡ get_or l t 0
    → occurs y (take (t + 1) l) ≡ occurs y (take t l) + occurs y (x ∷ [])
occurs_take y l t x h e = rw (add-one t, take-suc l t 0 h, e) (occurs_append y (take t l) (get_or l t 0 ∷ []))

-- ---- counts raised

module _ (from n : ℕ) where
  pub raised_none : (g : ℕ → ℕ) (up : List ℕ) → ((x : ℕ) → x < n → g x ≡ 0) → Raised from n g up up
  raised_none g up z = record {
    same_length = refl;
    at = λ x h. omega (arith, z x h);
    earlier = λ p h. refl;
    later = λ p h. refl;
  }

  -- a raise after another
  pub raised_then : (f g h : ℕ → ℕ) (up up' up'' : List ℕ) → Raised from n f up up' → Raised from n g up' up''
      → ((x : ℕ) → h x ≡ f x + g x) → Raised from n h up up''
  raised_then f g h up up' up'' r s e = record {
    same_length = s.same_length ∙ r.same_length;
    at = λ x l. omega (arith, r.at x l, s.at x l, e x);
    earlier = λ p l. s.earlier p l ∙ r.earlier p l;
    later = λ p l. s.later p l ∙ r.later p l;
  }

-- one more at one place, among numbers from a place on
set_more : (from x y : ℕ) (up : List ℕ) → from + x < length up
    → get_or (set up (from + x) (get_or up (from + x) 0 + 1)) (from + y) 0 ≡ get_or up (from + y) 0 + occurs y (x ∷ [])
set_more from x y up h = go (ℕ_discrete x y)
  where
    v : ℕ
    v = get_or up (from + x) 0 + 1

    go : Dec (x ≡ y) → get_or (set up (from + x) v) (from + y) 0 ≡ get_or up (from + y) 0 + occurs y (x ∷ [])
    go (yes e) = rw (← e) (get_or-set_same up (from + x) v 0 h ∙ omega (arith, occurs_own x))
    go (no d) =
        get_or-set_other up (from + x) (from + y) v 0 (λ e. d (omega arith)) ∙ omega (arith, occurs_apart y x d)

-- one entry, that names an element or none
module _ (from n x : ℕ) (up : List ℕ) where
  pub raised_one : x < n → from + n ≤ length up
      → Raised from n (λ y. occurs y (x ∷ [])) up (set up (from + x) (get_or up (from + x) 0 + 1))
  raised_one h k =
      let v = get_or up (from + x) 0 + 1 in
      record {
        same_length = length-set up (from + x) v;
        at = λ y l. set_more from x y up (omega arith);
        earlier = λ p l. get_or-set_other up (from + x) p v 0 (omega arith);
        later = λ p l. get_or-set_other up (from + x) p v 0 (omega arith);
      }

  pub raised_past : n ≤ x → Raised from n (λ y. occurs y (x ∷ [])) up up
  raised_past h = raised_none from n _ up (λ y l. occurs_apart y x (omega arith))

-- no count has grown by more than b
pub raised_most : (from n b : ℕ) (g : ℕ → ℕ) (up up' : List ℕ) → Raised from n g up up' → ((x : ℕ) → g x ≤ b)
    → (k : ℕ) → get_or up' k 0 ≤ get_or up k 0 + b
raised_most from n b g up up' r h k = go (dec_lt k from) (dec_lt k (from + n))
  where
    go : Dec (k < from) → Dec (k < from + n) → get_or up' k 0 ≤ get_or up k 0 + b
    go (yes l) d = omega (arith, r.earlier k l)
    go (no l) (yes m) =
        let e : from + (k - from) ≡ k = omega arith in
        let a : get_or up' (from + (k - from)) 0 ≡ get_or up (from + (k - from)) 0 + g (k - from) =
        r.at (k - from) (omega arith) in
        omega (arith, rw e at a, h (k - from))
    go (no l) (no m) = omega (arith, r.later k (omega arith))

-- while a list is counted there is room for one more
pub list_few : (from n t : ℕ) (list up up' : List ℕ) → ((k : ℕ) → get_or up k 0 + length list < width)
    → Raised from n (λ y. occurs y (take t list)) up up' → t < length list
    → (x : ℕ) → x < n → get_or up' (from + x) 0 + 1 < width
list_few from n t list up up' few r h x l =
    omega (arith, r.at x l, occurs_le x (take t list), length-take t list, few (from + x))

-- ---- the lists of a rank, one after another

module _ (ends inc : List ℕ) where
  -- one list more has been counted
  pub rank_next : (here a from n : ℕ) (up up' up'' list : List ℕ)
      → Raised from n (λ y. sum (λ b. occurs y (subs_at ends inc here b)) a) up up'
      → Raised from n (λ y. occurs y list) up' up'' → list ≡ entries ends inc (2 * (here + a))
      → Raised from n (λ y. sum (λ b. occurs y (subs_at ends inc here b)) (a + 1)) up up''
  rank_next here a from n up up' up'' list r s e =
      let z : 2 * (here + a) + 0 ≡ 2 * (here + a) = omega arith in
      let l : subs_at ends inc here a ≡ list = ap (entries ends inc) z ∙ sym e in
      raised_then from n _ _ _ up up' up'' r s
      (λ y. sum_next (λ b. occurs y (subs_at ends inc here b)) a
      ∙ ap (λ (v : List ℕ). sum (λ b. occurs y (subs_at ends inc here b)) a + occurs y v) l)

-- the subs of an element end before those of the next begin
next_start : (ends inc : List ℕ) → Ends ends inc → (e : ℕ) → 2 * e + 1 < length ends
    → get_or ends (2 * e) 0 ≤ start ends (2 * (e + 1))
next_start ends inc good e h =
    let u : suc (2 * e) ≡ 2 * e + 1 = omega arith in
    let v : 2 * (e + 1) ≡ suc (2 * e + 1) = omega arith in
    rw v (rw (← u) (good.rising (suc (2 * e)) (omega arith)))

-- the subs of element e, where no count is above where they begin
module _ (ends inc : List ℕ) (good : Ends ends inc) (e : ℕ) (h : 2 * e + 1 < length ends) (up : List ℕ)
    (few : (k : ℕ) → get_or up k 0 ≤ start ends (2 * e)) (list : List ℕ) (l : list ≡ entries ends inc (2 * e)) where
  size : start ends (2 * e) + length list ≡ get_or ends (2 * e) 0
  size = rw l (entries_length ends inc good (2 * e) (omega arith))

  pub rank_few : get_or ends (2 * e) 0 < width → (k : ℕ) → get_or up k 0 + length list < width
  rank_few b k = omega (arith, size, few k)

  pub rank_most : (from n : ℕ) (up' : List ℕ) → Raised from n (λ y. occurs y list) up up'
      → (k : ℕ) → get_or up' k 0 ≤ start ends (2 * (e + 1))
  rank_most from n up' r k =
      let m = raised_most from n (length list) _ up up' r (λ x. occurs_le x list) k in
      omega (arith, size, few k, next_start ends inc good e h)
