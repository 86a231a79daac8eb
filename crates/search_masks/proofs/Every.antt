-- The mask that asks for every change: its bits are those from 1 to rank - 1. Each rank that there can be is looked at.
-- Assumes nothing.
use mathlib.Core.Path.{◌≡◌, refl, sym, ◌∙◌}
use mathlib.Core.Bool.{Bool, true, false, cond, ◌&&◌}
use mathlib.Core.Logic.{◌↔◌}
use Prim.Native.Nat.{ℕ, ◌^◌, ◌<◌}
use native.Mathlib.Omega.{arith}
use borrow.Author.Tests.{eqb-true, ltb-true, lt-ltb}
use lib.Dec.{eqb, ltb}
use Rattle.order.specs.Tests.{every}
use Rattle.order.proofs.Tests.{and_true, every_each}
use Rattle.listing.specs.Listing.{width, limits}
use Rattle.search_masks.specs.Masks.{bit_at, InMask, every_rank}

-- a power of two that a mask can hold
pub power_fits : (r : ℕ) → r < limits.ranks → 2 ^ r < width
unfolding every
power_fits r h = ltb-true _ _ (every_each (λ k. ltb (2 ^ k) width) limits.ranks refl r h)

-- bit r of the mask, by looking
bit_every : (n r : ℕ) → n < limits.ranks → r < limits.ranks
    → bit_at (every_rank n) r ≡ cond (ltb 0 r && ltb r n) 1 0
unfolding every
bit_every n r h k =
    let row : ℕ → ℕ → Bool = λ m q. eqb (bit_at (every_rank m) q) (cond (ltb 0 q && ltb q m) 1 0) in
    eqb-true _ _
    (every_each (row n) limits.ranks
    (every_each (λ m. every (row m) limits.ranks) limits.ranks refl n h) r k)

-- The mask asks for the change at a rank exactly if there is one.
pub every_exact : (n r : ℕ) → n < limits.ranks → InMask (every_rank n) r ↔ ((0 < r) × (r < n))
every_exact n r h = (
  λ i. inside (ltb 0 r && ltb r n) refl (sym (bit_every n r h i.0) ∙ i.1),
  λ i.
      let k : r < limits.ranks = omega arith in
      (k, bit_every n r h k ∙ rw (lt-ltb 0 r i.0, lt-ltb r n i.1)),
)
  where
    inside : (t : Bool) → ltb 0 r && ltb r n ≡ t → ◌≡◌ {A = ℕ} (cond t 1 0) 1 → (0 < r) × (r < n)
    inside true e q = let p = and_true (ltb 0 r) (ltb r n) e in (ltb-true 0 r p.0, ltb-true r n p.1)
    inside false e q = absurd (omega arith)
