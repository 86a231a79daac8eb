-- The bytes of a search without an overflow: with no place they are a colouring of what is reachable, and there is a
-- place exactly if there is no colouring.
-- Assumes nothing.
use mathlib.Core.Path.{◌≡◌, refl, ap, ◌∙◌}
use mathlib.Core.Logic.{◌↔◌}
use mathlib.Core.Bool.{Bool, false, not}
use mathlib.Core.List.{List}
use Prim.Native.Nat.{ℕ, zero, suc, ◌-◌, ◌≤◌, ◌<◌}
use native.Mathlib.Omega.{arith}
use lib.Dec.{eqb}
use lib.ListN.{length, get_or}
use Rattle.order.specs.Steps.{Reach}
use Rattle.search_theory.specs.Search.{State, index_in, search, Neighbour, Decides, Proper, Colouring}
use Rattle.search_theory.proofs.Once.{at_in}
use Rattle.search_theory.proofs.Lookup.{index_only}
use Rattle.search_theory.proofs.Proper.{search_proper}
use Rattle.search_theory.proofs.Stored.{search_stored}
use Rattle.search_theory.proofs.Found.{found_exact}
use Rattle.search_theory.proofs.Coloured.{coloured_still}

odd_flip : (b : ℕ) → b ≤ 1 → eqb (1 - b) 1 ≡ not (eqb b 1)
odd_flip zero h = refl
odd_flip (suc zero) h = refl
odd_flip (suc (suc b)) h = absurd (omega arith)

module _ {A : Type 0} (same : A → A → Bool) (decides : Decides same) (room : ℕ) (nbrs : A → List A) (a : A) where
  abbrev S : State A
  S = search same room nbrs a

  facts : Proper room (Neighbour nbrs) a S
  facts = search_proper same decides room nbrs a

  -- the byte of a thing that was found
  abbrev byte_of : A → ℕ
  byte_of y = get_or S.bytes (index_in same S.found y) 0

  -- it is the byte at any index at which the thing stands
  byte_at : (k : ℕ) (y : A) → k < length S.found → get_or S.found k a ≡ y → byte_of y ≡ get_or S.bytes k 0
  byte_at k y h e =
      ap (λ i. get_or S.bytes i 0)
      (index_only same decides S.found a y k facts.once h ((decides (get_or S.found k a) y).1 e))

  module _ (o : S.overflow ≡ false) (z : S.place ≡ 0) where
    -- each neighbour of the kth has the byte that the kth does not have
    pub bytes_flip : (k : ℕ) → k < length S.found → (y : A) → Neighbour nbrs (get_or S.found k a) y
        → get_or S.bytes (index_in same S.found y) 0 ≡ 1 - get_or S.bytes k 0
    bytes_flip k h y n =
        let r = search_stored same decides room nbrs a o k h y n in
        byte_at r.index y r.known r.stands ∙ r.byte z

    step_flip : (x y : A) → Reach (Neighbour nbrs) a x → Neighbour nbrs x y → eqb (byte_of y) 1 ≡ not (eqb (byte_of x) 1)
    step_flip x y h n =
        let p = at_in S.found a x ((found_exact same decides room nbrs a o x).1 h) in
        rw (bytes_flip p.0 p.1 y (rw p.2 n), byte_at p.0 x p.1 p.2)
        (odd_flip (get_or S.bytes p.0 0) (facts.binary p.0))

    bytes_colour : Colouring (Neighbour nbrs) a
    bytes_colour = record { colour = λ y. eqb (byte_of y) 1; flips = step_flip }

  pub place_exact : S.overflow ≡ false → (S.place ≡ 0) ↔ Colouring (Neighbour nbrs) a
  place_exact o = (bytes_colour o, coloured_still same decides room nbrs a)
