-- Numbers that stop at one more than the most flags: they are added up as the numbers themselves are.
-- Assumes nothing.
use mathlib.Core.Path.{◌≡◌, refl}
use mathlib.Core.List.{List, [], ◌∷◌}
use Prim.Native.Nat.{ℕ, ◌+◌, ◌≤◌, ◌<◌}
use native.Mathlib.Omega.{arith}
use lib.ListN.{length, get_or, drop}
use Rattle.order.specs.Lists.{In}
use Rattle.order.specs.Sums.{sum_over}
use Rattle.order.proofs.Sums.{sum_over_end, sum_over_next}
use Rattle.order.proofs.Positions.{in_at}
use Rattle.listing.specs.Listing.{limits}
use Rattle.body_count.specs.Capped.{most, capped}

pub capped_sum : (f : ℕ → ℕ) (l : List ℕ) → capped (sum_over (λ x. capped (f x)) l) ≡ capped (sum_over f l)
unfolding sum_over
capped_sum f [] = refl
capped_sum f (x ∷ l) = omega (arith, capped_sum f l)

-- a number of a list whose numbers all lie inside
pub list_inside : (list : List ℕ) (b j : ℕ) {x : ℕ} → ((x : ℕ) → In x list → b + x < limits.elements) → j < length list
    → x ≡ get_or list j 0 → b + x < limits.elements
list_inside list b j h i e = rw e (h (get_or list j 0) (in_at list j i))

-- numbers are added up along a list
module _ (f : ℕ → ℕ) (l : List ℕ) (j v : ℕ)
    (e : (v ≤ most) × (capped (v + sum_over f (drop j l)) ≡ capped (sum_over f l))) where
  pub add_next : j < length l → (w : ℕ) → w ≡ capped (v + f (get_or l j 0))
      → (w ≤ most) × (capped (w + sum_over f (drop (j + 1) l)) ≡ capped (sum_over f l))
  add_next h w d = (omega arith, omega (arith, e, sum_over_next f l j h))

  pub add_end : length l ≤ j → v ≡ capped (sum_over f l)
  add_end h = omega (arith, e, sum_over_end f l j h)

pub ruleset adding = (add_next, add_end)
