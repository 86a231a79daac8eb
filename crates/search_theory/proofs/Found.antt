-- A search without an overflow found exactly what is reachable, each thing once. There is one exactly if more is
-- reachable than there is room for, and then as many are found as there is room for.
-- Assumes nothing.
use mathlib.Core.Path.{◌≡◌, refl, sym, ap, ◌∙◌}
use mathlib.Core.Logic.{◌↔◌, ◌⊎◌, inl, inr, ⊎_elim}
use mathlib.Core.Bool.{Bool, true, false, true≢false}
use mathlib.Core.List.Memᴰ
use mathlib.Core.List.{List, ◌∷◌, Memᴰ}
use Prim.Native.Nat.{ℕ, suc, ◌≤◌, ◌<◌}
use native.Mathlib.Nat.{eq-zero-or-pos}
use native.Mathlib.Omega.{arith}
use lib.ListN.{length}
use Rattle.order.specs.Steps.{Reach, start, next}
use Rattle.search_theory.specs.Search.{State, search, Neighbour, Decides, Once, AtLeast, Beyond, Proper}
use Rattle.search_theory.proofs.Once.{mem_at, at_in, once_fits}
use Rattle.search_theory.proofs.Run.{search_full}
use Rattle.search_theory.proofs.Grown.{start_first}
use Rattle.search_theory.proofs.Proper.{search_proper}
use Rattle.search_theory.proofs.Stored.{search_stored}

module _ {A : Type 0} (same : A → A → Bool) (decides : Decides same) (room : ℕ) (nbrs : A → List A) (a : A) where
  abbrev S : State A
  S = search same room nbrs a

  facts : Proper room (Neighbour nbrs) a S
  facts = search_proper same decides room nbrs a

  -- ---- no overflow: what was found

  module _ (o : S.overflow ≡ false) where
    start_in : Memᴰ a S.found
    start_in = go (eq-zero-or-pos room)
      where
        go : (room ≡ 0) ⊎ (0 < room) → Memᴰ a S.found
        go (inl z) = absurd (true≢false (ap (λ s. s.overflow) (sym (search_full same room nbrs a z)) ∙ o))
        go (inr h) = rw (start_first same room nbrs a h).1 (Memᴰ.head refl)

    closed : (x y : A) → Memᴰ x S.found → Neighbour nbrs x y → Memᴰ y S.found
    closed x y m n =
        let p = at_in S.found a x m in
        let r = search_stored same decides room nbrs a o p.0 p.1 y (rw p.2 n) in
        Memᴰ.cast (sym r.stands) (mem_at S.found a r.index r.known)

    all_found : (y : A) → Reach (Neighbour nbrs) a y → Memᴰ y S.found
    all_found y start = start_in
    all_found y (next {x = x} h n) = closed x y (all_found x h) n

    pub found_exact : (y : A) → Memᴰ y S.found ↔ Reach (Neighbour nbrs) a y
    found_exact y = (facts.reached y, all_found y)

    -- so many different things are reachable, and no more
    pub found_count : AtLeast (length S.found) (Neighbour nbrs) a
        × ((n : ℕ) → AtLeast n (Neighbour nbrs) a → n ≤ length S.found)
    found_count = (record { things = S.found; many = refl; once = facts.once; reached = facts.reached }, most)
      where
        most : (n : ℕ) → AtLeast n (Neighbour nbrs) a → n ≤ length S.found
        most n m =
            omega (arith, m.many, once_fits m.things S.found m.once (λ x i. all_found x (m.reached x i)))

  -- ---- an overflow

  pub overflow_full : S.overflow ≡ true → length S.found ≡ room
  overflow_full o = (facts.beyond o).many

  one_more : Beyond room (Neighbour nbrs) a S.found → AtLeast (suc room) (Neighbour nbrs) a
  unfolding Once
  one_more z =
      record { things = z.thing ∷ S.found; many = ap suc z.many; once = (z.missing, facts.once); reached = all }
    where
      all : (x : A) → Memᴰ x (z.thing ∷ S.found) → Reach (Neighbour nbrs) a x
      all x m = ⊎_elim (λ e. rw e z.reached) (facts.reached x) (Memᴰ.cases_cons m)

  too_many : AtLeast (suc room) (Neighbour nbrs) a → (b : Bool) → S.overflow ≡ b → S.overflow ≡ true
  too_many m true o = o
  too_many m false o = absurd (omega (arith, (found_count o).1 (suc room) m, facts.fits))

-- There is an overflow exactly if more different things are reachable than there is room for.
pub overflow_exact : {A : Type 0} (same : A → A → Bool) (decides : Decides same) (room : ℕ) (nbrs : A → List A) (a : A)
    → ((search same room nbrs a).overflow ≡ true) ↔ AtLeast (suc room) (Neighbour nbrs) a
overflow_exact same decides room nbrs a = (
  λ o. one_more same decides room nbrs a ((search_proper same decides room nbrs a).beyond o),
  λ m. too_many same decides room nbrs a m (search same room nbrs a).overflow refl,
)
