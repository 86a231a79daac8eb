-- What holds of each state of a search: nothing was found twice, all that was found fits and is reachable, there is a
-- byte for each, and after an overflow one more is reachable.
-- Assumes nothing.
use mathlib.Core.Path.{◌≡◌, refl, sym, ◌∙◌}
use mathlib.Core.Logic.{⊎_elim}
use mathlib.Core.Bool.{Bool, false, true≢false}
use mathlib.Core.List.Memᴰ
use mathlib.Core.List.{List, [], ◌∷◌, ◌++◌, Memᴰ}
use Prim.Native.Nat.{ℕ, zero, suc, ◌≤◌, ◌<◌}
use native.Mathlib.Decide.{ℕ_discrete}
use native.Mathlib.Omega.{arith}
use lib.ListN.{length, get_or}
use Rattle.order.specs.Steps.{Reach, start, next}
use Rattle.search_theory.specs.Search.{State, unbegun, add, overfull, place_after, again, index_in, meet, meet_all}
use Rattle.search_theory.specs.Search.{work}
use Rattle.search_theory.specs.Search.{search, Neighbour, Decides, Once, Proper}
use Rattle.search_theory.proofs.Once.{length_snoc, once_snoc, mem_at}
use Rattle.search_theory.proofs.Lookup.{index_in_lem}
use Rattle.search_theory.proofs.Step.{place_kept, place_same, place_first, meet_cases}
use Rattle.search_theory.proofs.Run.{run_ends}

-- a byte more
binary_snoc : (l : List ℕ) (b : ℕ) → ((k : ℕ) → get_or l k 0 ≤ 1) → b ≤ 1 → (k : ℕ) → get_or (l ++ (b ∷ [])) k 0 ≤ 1
binary_snoc [] b h p zero = p
binary_snoc [] b h p (suc k) = omega arith
binary_snoc (x ∷ l) b h p zero = h 0
binary_snoc (x ∷ l) b h p (suc k) = binary_snoc l b (λ j. h (suc j)) p k

pub place_le : {A : Type 0} (b : ℕ) (s : State A) (i : ℕ) → s.place ≤ length s.found
    → place_after b s i ≤ length s.found
place_le b s i h = go (ℕ_discrete s.place 0) (ℕ_discrete (get_or s.bytes i 0) b)
  where
    go : Dec (s.place ≡ 0) → Dec (get_or s.bytes i 0 ≡ b) → place_after b s i ≤ length s.found
    go (no z) e = omega (arith, place_kept b s i z)
    go (yes z) (yes e) = omega (arith, place_same b s i e)
    go (yes z) (no e) = omega (arith, place_first b s i z e)

module _ {A : Type 0} (room : ℕ) (R : A → A → Type 0) (a : A) where
  unbegun_proper : Proper room R a unbegun
  unfolding Once
  unbegun_proper = record {
    once = tt;
    fits = omega arith;
    reached = λ x m. absurd (Memᴰ.not-nil m);
    paired = omega arith;
    binary = λ k. omega arith;
    placed = omega arith;
    beyond = λ o. absurd (true≢false (sym o));
  }

  again_proper : (b : ℕ) (s : State A) (i : ℕ) → Proper room R a s → Proper room R a (again b s i)
  again_proper b s i h = record {
    once = h.once;
    fits = h.fits;
    reached = h.reached;
    paired = h.paired;
    binary = h.binary;
    placed = place_le b s i h.placed;
    beyond = h.beyond;
  }

  add_proper : (b : ℕ) (s : State A) (y : A) → Proper room R a s → b ≤ 1 → Reach R a y → s.overflow ≡ false
      → ¬ Memᴰ y s.found → length s.found < room → Proper room R a (add b s y)
  add_proper b s y h p q o n r =
      let f = length_snoc s.found y in
      record {
        once = once_snoc s.found y h.once n;
        fits = omega arith;
        reached = λ x m. ⊎_elim (h.reached x) (last x) (Memᴰ.append_cases s.found m);
        paired = omega (arith, length_snoc s.bytes b, h.paired);
        binary = binary_snoc s.bytes b h.binary p;
        placed = omega (arith, h.placed);
        beyond = λ e. absurd (true≢false (sym e ∙ o));
      }
    where
      last : (x : A) → Memᴰ x (y ∷ []) → Reach R a x
      last x m = rw (Memᴰ.eq_of_singleton m) q

  overfull_proper : (s : State A) (y : A) → Proper room R a s → Reach R a y → ¬ Memᴰ y s.found
      → room ≤ length s.found → Proper room R a (overfull s)
  overfull_proper s y h q n r = record {
    once = h.once;
    fits = h.fits;
    reached = h.reached;
    paired = h.paired;
    binary = h.binary;
    placed = h.placed;
    beyond = λ e. record { thing = y; reached = q; missing = n; many = omega (arith, h.fits) };
  }

-- the neighbours of the kth are reachable
neighbours_reached : {A : Type 0} (room : ℕ) (nbrs : A → List A) (a : A) (k : ℕ) (s : State A)
    → k < length s.found → Proper room (Neighbour nbrs) a s → (y : A) → Neighbour nbrs (get_or s.found k a) y
    → Reach (Neighbour nbrs) a y
neighbours_reached room nbrs a k s i h y n = next (h.reached (get_or s.found k a) (mem_at s.found a k i)) n

module _ {A : Type 0} (same : A → A → Bool) (decides : Decides same) (room : ℕ) where
  -- a thing whose index is the length is not there
  not_in : (l : List A) (y : A) → length l ≤ index_in same l y → ¬ Memᴰ y l
  not_in l y h m = omega (arith, index_in_lem same decides l y m)

  module _ (R : A → A → Type 0) (a : A) (b : ℕ) (p : b ≤ 1) where
    meet_proper : (s : State A) (y : A) → Reach R a y → Proper room R a s → Proper room R a (meet same room b s y)
    meet_proper s y q h =
        meet_cases same room b s y (Proper room R a) (λ o. h)
        (λ o i. again_proper room R a b s (index_in same s.found y) h)
        (λ o i r. add_proper room R a b s y h p q o (not_in s.found y i) r)
        (λ o i r. overfull_proper room R a s y h q (not_in s.found y i) r)

    meets_proper : (s : State A) (l : List A) → ((y : A) → Memᴰ y l → Reach R a y) → Proper room R a s
        → Proper room R a (meet_all same room b s l)
    unfolding meet_all
    meets_proper s [] q h = h
    meets_proper s (y ∷ l) q h =
        meets_proper (meet same room b s y) l (λ z m. q z (Memᴰ.tail m))
        (meet_proper s y (q y (Memᴰ.head refl)) h)

  module _ (nbrs : A → List A) (a : A) where
    pub work_proper : (k : ℕ) (s : State A) → k < length s.found → Proper room (Neighbour nbrs) a s
        → Proper room (Neighbour nbrs) a (work same room nbrs a k s)
    unfolding work
    work_proper k s i h =
        meets_proper (Neighbour nbrs) a _ (omega arith) s _ (neighbours_reached room nbrs a k s i h) h

    pub start_proper : Proper room (Neighbour nbrs) a (meet same room 0 unbegun a)
    start_proper = meet_proper (Neighbour nbrs) a 0 (omega arith) unbegun a start
        (unbegun_proper room (Neighbour nbrs) a)

    pub search_proper : Proper room (Neighbour nbrs) a (search same room nbrs a)
    unfolding search
    search_proper =
        (run_ends same room nbrs a (λ k. Proper room (Neighbour nbrs) a) (λ k s o i h. work_proper k s i h) 0
        (meet same room 0 unbegun a) start_proper.fits start_proper).1
