-- A test of all elements, by rank and then index: it passes exactly if it does at each.
-- Assumes nothing.
use mathlib.Core.Path.{◌≡◌}
use mathlib.Core.Logic.{◌↔◌}
use Prim.Native.Nat.{ℕ, ◌≤◌, ◌<◌}
use native.Mathlib.Omega.{arith}
use lib.ListN.{length}
use Rattle.listing.specs.declared.Answer.{Answer}
use Rattle.listing.specs.Answers.{first_of}
use Rattle.listing.specs.Listing.{Listing, count}
use Rattle.listing.proofs.Answers.{of_each, of_all}
use Rattle.listing.proofs.Listing.{rank_there}

-- the premise: at each element it passes exactly if P holds there
module _ (L : Listing) (f : ℕ → ℕ → Answer) (P : ℕ → ℕ → Type 0)
    (at : (r i : ℕ) → i < count L r → (f r i).no ≡ 0 ↔ P r i) where
  -- of the ranks from a up to, not including, b
  pub ranks_exact : (a b : ℕ) → (first_of (λ r. first_of (f r) 0 (count L r)) a b).no ≡ 0
      ↔ ((r i : ℕ) → a ≤ r → r < b → i < count L r → P r i)
  ranks_exact a b = (
    λ e r i l h k.
        let t = of_each (λ q. first_of (f q) 0 (count L q)) a b e r l h in
        (at r i k).0 (of_each (f r) 0 (count L r) t i (omega arith) k),
    λ g. of_all _ a b (λ r l h. of_all (f r) 0 (count L r) (λ i _ k. (at r i k).1 (g r i l h k))),
  )

  -- of all ranks
  pub elements_exact : (first_of (λ r. first_of (f r) 0 (count L r)) 0 (length L.counts)).no ≡ 0
      ↔ ((r i : ℕ) → i < count L r → P r i)
  elements_exact =
      let e = ranks_exact 0 (length L.counts) in
      (λ z r i h. e.0 z r i (omega arith) (rank_there L r i h) h, λ g. e.1 (λ r i _ _ h. g r i h))
