-- Laws of a tally that is set back: along a list, along the subs of a list's elements, from the last to the first; and
-- that where all that was met is set back, it is the tally of nothing.
-- Assumes nothing.
use mathlib.Core.Path.{◌≡◌, refl, sym, ap, ◌∙◌}
use mathlib.Core.Logic.{◌⊎◌, inl, inr}
use mathlib.Core.Bool.{Bool, true, false}
use mathlib.Core.List.{List, [], ◌∷◌, ◌++◌, map, reverse}
use Prim.Native.Nat.{ℕ, zero, suc, ◌-◌, ◌<◌}
use native.Mathlib.Omega.{arith}
use borrow.Author.Tests.{eqb-true, eqb-false}
use denote.Ref.{Bor}
use lib.Dec.{eqb}
use lib.ListN.{length, get_or, set, length-set}
use lib.Seq.{get_or-set_other, set-get_or}
use Rattle.std.specs.Prelude.{Option, Some, None}
use Rattle.std.specs.Iterator.{Yields}
use Rattle.std.specs.declared.iter.Rev.{Rev}
use Rattle.std.specs.declared.slice.Iter.{Iter}
use Rattle.std.specs.Iterator.Adapters.{rev_source, rev_steps}
use Rattle.std.specs.Slice.Iter.{iter_rest, iter_steps_back}
use Rattle.std.proofs.lemmas.Grind.{get_or_default_zero}
use Rattle.std.proofs.lemmas.Iterator.Adapters.{YieldsList-from_rev_slice}
use Rattle.std.proofs.lemmas.Iterator.Consumers.{YieldsList-turn, YieldsList-end}
use Rattle.std.proofs.lemmas.List.{map-append, reverse-append, reverse-reverse, length-reverse, get_or-reverse}
use Rattle.order.specs.Lists.{In}
use Rattle.order.proofs.Lists.{in?, occurs_none, occurs_nil}
use Rattle.order.proofs.Positions.{in_at}
use Rattle.valid_diamond.specs.Dyadic.{subs_of_all, seen_after}
use Rattle.valid_diamond.specs.Tally.{Tally, undone}
use Rattle.valid_diamond.proofs.Counting.{all_seen}
use Rattle.valid_diamond.proofs.Walks.{subs_of}

-- ---- one count

pub zero_already : (t : List ℕ) (x : ℕ) → get_or t x 0 ≡ 0 → t ≡ set t x 0
zero_already t x z = sym (set-get_or t x 0) ∙ ap (set t x) z

zero_own : (t : List ℕ) (x : ℕ) → get_or (set t x 0) x 0 ≡ 0
zero_own [] x = refl
zero_own (c ∷ t) zero = refl
zero_own (c ∷ t) (suc x) = zero_own t x

zero_stays : (t : List ℕ) (x y : ℕ) → get_or t x 0 ≡ 0 → get_or (set t y 0) x 0 ≡ 0
zero_stays t x y e = go (eqb x y) refl
  where
    go : (b : Bool) → eqb x y ≡ b → get_or (set t y 0) x 0 ≡ 0
    go true q = rw (eqb-true x y q) (zero_own t y)
    go false q = get_or-set_other t y x 0 0 (eqb-false x y q) ∙ e

-- ---- one list after another

undone_append : (a b t : List ℕ) → undone (a ++ b) t ≡ undone a (undone b t)
unfolding undone
undone_append [] b t = refl
undone_append (x ∷ a) b t = ap (λ (u : List ℕ). set u x 0) (undone_append a b t)

-- ---- a list that is taken from its end

-- what has been taken, in the order of the list
abbrev pub taken : List (Bor ℕ) → List ℕ
taken ys = reverse (map (λ y. y.now) ys)

taken_more : (ys : List (Bor ℕ)) (y : Bor ℕ) → taken (ys ++ y ∷ []) ≡ y.now ∷ taken ys
taken_more ys y = simp (map-append, reverse-append)

module _ (l : List ℕ) (s t u : Rev (Iter ℕ)) (e : iter_rest (rev_source s) ≡ l) (ys : List (Bor ℕ))
    (k : Yields (rev_steps iter_steps_back) s ys t) (r : Option (Bor ℕ)) where
  -- the next that is taken stands in the list
  pub taken_in : (y : Bor ℕ) → r ≡ Some y → rev_steps iter_steps_back t r u → In y.now l
  taken_in y q h =
      let p = YieldsList-turn (YieldsList-from_rev_slice l e) ys t k r u y q h in
      let n : length ys < length l = omega (arith, p.0, length-reverse l) in
      let g = p.1 ∙ get_or-reverse l (length ys) y.now n in
      let z = get_or_default_zero l (length l - 1 - length ys) y.now (omega arith) in
      rw (g ∙ z) (in_at l (length l - 1 - length ys) (omega arith))

  -- and where there is no next, all were taken
  pub taken_all : r ≡ None → rev_steps iter_steps_back t r u → taken ys ≡ l
  taken_all q h =
      ap reverse (YieldsList-end (YieldsList-from_rev_slice l e) ys t k r u q h).0 ∙ reverse-reverse l

-- one more is set back: an index, and the subs of an element
module _ (ys : List (Bor ℕ)) (y : Bor ℕ) (t u v : List ℕ) where
  pub index_more : u ≡ undone (taken ys) t → (x : ℕ) → x ≡ y.now → v ≡ set u x 0 → v ≡ undone (taken (ys ++ y ∷ [])) t
  unfolding undone
  index_more e x q s = s ∙ rw (q, taken_more) (ap (λ (w : List ℕ). set w y.now 0) e)

  module _ (ends inc : List ℕ) (b : ℕ) where
    abbrev walk_of : List ℕ → List ℕ
    walk_of l = subs_of_all ends inc b l

    pub subs_more : u ≡ undone (walk_of (taken ys)) t → (list : List ℕ) → list ≡ subs_of ends inc b y.now
        → v ≡ undone list u → v ≡ undone (walk_of (taken (ys ++ y ∷ []))) t
    unfolding subs_of_all
    subs_more e list q s =
        let own = subs_of ends inc b y.now in
        s ∙ rw (q, taken_more) (ap (undone own) e ∙ sym (undone_append own (walk_of (taken ys)) t))

-- ---- what is left

undone_length : (l t : List ℕ) → length (undone l t) ≡ length t
unfolding undone
undone_length [] t = refl
undone_length (x ∷ l) t = length-set (undone l t) x 0 ∙ undone_length l t

undone_zero : (l t : List ℕ) (x : ℕ) → In x l ⊎ (get_or t x 0 ≡ 0) → get_or (undone l t) x 0 ≡ 0
unfolding undone In
undone_zero [] t x (inl m) = absurd m
undone_zero [] t x (inr e) = e
undone_zero (y ∷ l) t x (inl (inl q)) = rw q (zero_own (undone l t) y)
undone_zero (y ∷ l) t x (inl (inr m)) = zero_stays (undone l t) x y (undone_zero l t x (inl m))
undone_zero (y ∷ l) t x (inr e) = zero_stays (undone l t) x y (undone_zero l t x (inr e))

-- a walk that was counted is undone: the tally is that of nothing
pub walk_undone : {n : ℕ} (w t : List ℕ) → Tally n t (seen_after [] w) → Tally n (undone w t) []
walk_undone {n} w t T = record {
  whole = undone_length w t ∙ T.whole;
  counts = λ x h. undone_zero w t x (met x h (in? x w)) ∙ sym (occurs_nil x);
}
  where
    met : (x : ℕ) → x < n → Dec (In x w) → In x w ⊎ (get_or t x 0 ≡ 0)
    met x h (yes m) = inl m
    met x h (no m) = inr (T.counts x h ∙ all_seen x w ∙ (occurs_none x w).1 m)
