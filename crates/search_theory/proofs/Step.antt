-- A thing is met, and all of a list.
-- Assumes nothing.
use mathlib.Core.Path.{◌≡◌, refl, ◌∙◌}
use mathlib.Core.Bool.{Bool, true, false, cond, and-false}
use mathlib.Core.Logic.{◌≢◌}
use mathlib.Core.List.{List, [], ◌∷◌}
use Prim.Native.Nat.{ℕ, ◌≤◌, ◌<◌}
use native.Mathlib.Omega.{arith}
use borrow.Author.Tests.{lt-ltb, le-ltb, ltb-true, ltb-false, eq-eqb, ne_eqb}
use lib.Dec.{ltb, eqb}
use lib.ListN.{length, get_or}
use Rattle.search_theory.specs.Search.{State, add, overfull, place_after, again, index_in, meet, meet_all}
use Rattle.search_theory.proofs.Once.{length_snoc}

-- the branch that a test takes
cond_true : {A : Type 0} (t : Bool) (x y : A) → t ≡ true → cond t x y ≡ x
cond_true t x y e = rw e

cond_false : {A : Type 0} (t : Bool) (x y : A) → t ≡ false → cond t x y ≡ y
cond_false t x y e = rw e

-- ---- the place after the ith is met again

module _ {A : Type 0} (b : ℕ) (s : State A) (i : ℕ) where
  pub place_kept : s.place ≢ 0 → place_after b s i ≡ s.place
  unfolding place_after
  place_kept h = rw (ne_eqb s.place 0 h)

  pub place_same : get_or s.bytes i 0 ≡ b → place_after b s i ≡ s.place
  unfolding place_after
  place_same e = rw (eq-eqb (get_or s.bytes i 0) b e, and-false (eqb s.place 0))

  pub place_first : s.place ≡ 0 → get_or s.bytes i 0 ≢ b → place_after b s i ≡ length s.found
  unfolding place_after
  place_first z h = rw (eq-eqb s.place 0 z, ne_eqb (get_or s.bytes i 0) b h)

module _ {A : Type 0} (same : A → A → Bool) (room : ℕ) where
  module _ (b : ℕ) (s : State A) (y : A) where
    -- ---- a thing is met: its four cases

    pub meet_stop : s.overflow ≡ true → meet same room b s y ≡ s
    unfolding meet
    meet_stop o = cond_true _ _ _ o

    module _ (o : s.overflow ≡ false) where
      pub meet_again : index_in same s.found y < length s.found
          → meet same room b s y ≡ again b s (index_in same s.found y)
      unfolding meet
      meet_again i = cond_false _ _ _ o ∙ cond_true _ _ _ (lt-ltb _ _ i)

      pub meet_full : length s.found ≤ index_in same s.found y → room ≤ length s.found
          → meet same room b s y ≡ overfull s
      unfolding meet
      meet_full i r = cond_false _ _ _ o ∙ cond_false _ _ _ (le-ltb _ _ i) ∙ cond_false _ _ _ (le-ltb _ _ r)

      pub meet_new : length s.found ≤ index_in same s.found y → length s.found < room
          → meet same room b s y ≡ add b s y
      unfolding meet
      meet_new i r = cond_false _ _ _ o ∙ cond_false _ _ _ (le-ltb _ _ i) ∙ cond_true _ _ _ (lt-ltb _ _ r)

    -- what holds in each case holds of the state after
    pub meet_cases : (P : State A → Type 0) → (s.overflow ≡ true → P s)
        → (s.overflow ≡ false → index_in same s.found y < length s.found
        → P (again b s (index_in same s.found y)))
        → (s.overflow ≡ false → length s.found ≤ index_in same s.found y → length s.found < room
        → P (add b s y))
        → (s.overflow ≡ false → length s.found ≤ index_in same s.found y → room ≤ length s.found
        → P (overfull s))
        → P (meet same room b s y)
    meet_cases P stop known new none =
        go s.overflow refl (ltb (index_in same s.found y) (length s.found)) refl (ltb (length s.found) room)
        refl
      where
        go : (t : Bool) → s.overflow ≡ t → (u : Bool) → ltb (index_in same s.found y) (length s.found) ≡ u
            → (v : Bool) → ltb (length s.found) room ≡ v → P (meet same room b s y)
        go true o u i v r = rw (meet_stop o) (stop o)
        go false o true i v r = let l = ltb-true _ _ i in rw (meet_again o l) (known o l)
        go false o false i true r =
            let l = ltb-false _ _ i in let m = ltb-true _ _ r in rw (meet_new o l m) (new o l m)
        go false o false i false r =
            let l = ltb-false _ _ i in let m = ltb-false _ _ r in rw (meet_full o l m) (none o l m)

  -- ---- things are met, in order

  pub meets_overflow : (b : ℕ) (s : State A) (l : List A) → s.overflow ≡ true → meet_all same room b s l ≡ s
  unfolding meet_all
  meets_overflow b s [] o = refl
  meets_overflow b s (y ∷ l) o = rw (meet_stop b s y o) (meets_overflow b s l o)

  -- ---- there is a byte for each, and no more is found than there is room for

  pub meet_paired : (b : ℕ) (s : State A) (y : A) → length s.bytes ≡ length s.found
      → length (meet same room b s y).bytes ≡ length (meet same room b s y).found
  meet_paired b s y h =
      meet_cases b s y (λ t. length t.bytes ≡ length t.found) (λ o. h) (λ o i. h)
      (λ o i r. omega (arith, length_snoc s.found y, length_snoc s.bytes b)) (λ o i r. h)

  pub meet_fits : (b : ℕ) (s : State A) (y : A) → length s.found ≤ room → length (meet same room b s y).found ≤ room
  meet_fits b s y h =
      meet_cases b s y (λ t. length t.found ≤ room) (λ o. h) (λ o i. h)
      (λ o i r. omega (arith, length_snoc s.found y)) (λ o i r. h)

  pub meets_fits : (b : ℕ) (s : State A) (l : List A) → length s.found ≤ room
      → length (meet_all same room b s l).found ≤ room
  unfolding meet_all
  meets_fits b s [] h = h
  meets_fits b s (y ∷ l) h = meets_fits b (meet same room b s y) l (meet_fits b s y h)
