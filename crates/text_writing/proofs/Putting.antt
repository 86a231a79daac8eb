-- Bytes put at a place: none, one, and some behind others.
-- Assumes nothing.
use mathlib.Core.Path.{◌≡◌, refl}
use mathlib.Core.List.{List, [], ◌∷◌, ◌++◌}
use Prim.Native.Nat.{ℕ, ◌+◌, ◌<◌}
use native.Mathlib.Omega.{arith}
use lib.ListN.{length, get_or, set, length-append}
use Rattle.listing.proofs.Laying.{laid_none, list_one, list_then}
use Rattle.text_writing.specs.Writing.{PutAt}

pub put_none : (at : ℕ) (d : List ℕ) → PutAt [] at d d at
put_none at d = record { laid = laid_none at (λ j. get_or [] j 0) d; next = omega arith }

pub put_byte : (x at : ℕ) (d : List ℕ) → at < length d → PutAt (x ∷ []) at d (set d at x) (at + 1)
put_byte x at d h = record { laid = list_one at x d h; next = refl }

module _ (s t : List ℕ) (at : ℕ) (d d' d'' : List ℕ) (p q : ℕ) where
  pub put_then : PutAt s at d d' p → PutAt t p d' d'' q → PutAt (s ++ t) at d d'' q
  put_then a b = record {
    laid = list_then at d d' s t d'' a.laid (rw a.next at b.laid);
    next = omega (arith, length-append s t, a.next, b.next);
  }

-- the same bytes, said otherwise
pub put_as : {s t : List ℕ} {at : ℕ} {d d' : List ℕ} {p : ℕ} → s ≡ t → PutAt s at d d' p → PutAt t at d d' p
put_as e a = rw (← e) a
