-- A loop over counts from the last to the first: how many are left, and what a turn reads.
-- Assumes nothing.
use mathlib.Core.Path.{◌≡◌, sym, ap, ◌∙◌}
use mathlib.Core.List.{List, [], ◌∷◌, ◌++◌}
use Prim.Native.Nat.{ℕ, ◌+◌, ◌≤◌, ◌<◌}
use native.Mathlib.Omega.{arith}
use lib.ListN.{length, get_or, take}
use lib.Seq.{get_or-take, take_all}
use denote.Ref.{Bor}
use Rattle.std.proofs.Common.{Option, Some, None, Iter}
use Rattle.std.proofs.lemmas.List.{length_push, get_or_push, take_at, take-take}
use Rattle.std.specs.Slice.Iter.{iter_rest, iter_steps_back}

-- how many are left
abbrev pub left_of : Iter ℕ → ℕ
left_of s = length (iter_rest s)

-- those that are left are the first ones
pub record FirstLeft (counts : List ℕ) (s : Iter ℕ) : Type 0 where
  pub within : left_of s ≤ length counts
  pub front : iter_rest s ≡ take (left_of s) counts

pub first_all : (counts : List ℕ) (s : Iter ℕ) → iter_rest s ≡ counts
    → FirstLeft counts s × (left_of s ≡ length counts)
first_all counts s e = (
  record {
    within = rw e (omega arith);
    front = rw e (sym (take_all (length counts) counts (omega arith)));
  },
  ap length e,
)

-- the count n that a turn reads is the last of those that are left
pub record LastRead (counts : List ℕ) (s t : Iter ℕ) (n : ℕ) : Type 0 where
  pub next : FirstLeft counts t
  pub one : left_of s ≡ left_of t + 1
  pub here : left_of t < length counts
  pub n_is : n ≡ get_or counts (left_of t) 0

-- none is left
pub none_left : (s t : Iter ℕ) (r : Option (Bor ℕ)) → r ≡ None → iter_steps_back s r t → left_of s ≡ 0
none_left s t r e step =
    let h = rw e at step in
    h.0

pub last_read : (counts : List ℕ) (s t : Iter ℕ) (r : Option (Bor ℕ)) (w : Bor ℕ) → FirstLeft counts s → r ≡ Some w
    → iter_steps_back s r t → LastRead counts s t w.now
last_read counts s t r w v e step =
    let h : iter_rest s ≡ iter_rest t ++ w.now ∷ [] = rw e at step in
    let k = left_of t in
    let one : left_of s ≡ k + 1 = ap length h ∙ length_push (iter_rest t) w.now in
    let f : iter_rest t ++ w.now ∷ [] ≡ take (k + 1) counts = sym h ∙ rw one at v.front in
    let front : iter_rest t ≡ take k counts =
    sym (take_at (iter_rest t) (w.now ∷ []) k (λ u. k)) ∙ ap (take k) f ∙ take-take k (k + 1) counts (omega arith) in
    let n : w.now ≡ get_or counts k 0 =
    sym (get_or_push (iter_rest t) w.now 0 k (λ u. k)) ∙ ap (λ (l : List ℕ). get_or l k 0) f
    ∙ get_or-take (k + 1) counts k 0 (omega arith) in
    record {
      next = record {
        within = omega (arith, v.within);
        front = front;
      };
      one = one;
      here = omega (arith, v.within);
      n_is = n;
    }
