-- The numbers that two lists share, and the first of them that is not a given one: found along one of them.
-- Assumes nothing.
use mathlib.Core.Path.{◌≡◌, refl, ap, ◌∙◌}
use mathlib.Core.Bool.{Bool, true, false, not, ◌&&◌}
use mathlib.Core.List.{List, [], ◌∷◌}
use mathlib.Core.Logic.{◌↔◌, ◌⊎◌, inl, inr}
use Prim.Native.Nat.{ℕ}
use borrow.Author.Tests.{eq-eqb, ne_eqb}
use lib.Dec.{eqb}
use Rattle.std.specs.List.{find}
use Rattle.std.proofs.Common.{Option, None, Some}
use Rattle.std.specs.Option.{option_map, unwrap_or}
use Rattle.order.specs.Lists.{In, has, Ascending}
use Rattle.order.proofs.Lists.{has_yes, has_no, ascending_same}
use Rattle.flag_change.specs.Change.{common, other}

-- ---- what is shared

module _ (x : ℕ) (l m : List ℕ) where
  common_take : has m x ≡ true → common (x ∷ l) m ≡ x ∷ common l m
  unfolding common
  common_take e = rw e

  common_pass : has m x ≡ false → common (x ∷ l) m ≡ common l m
  unfolding common
  common_pass e = rw e

pub common_in : (a : ℕ) (l m : List ℕ) → In a (common l m) ↔ (In a l × In a m)
unfolding In common
common_in a [] m = (λ h. absurd h, λ h. absurd h.0)
common_in a (x ∷ l) m = go (common_in a l m) (has m x) refl
  where
    -- x is shared
    held : In x m → In a (common l m) ↔ (In a l × In a m) → (a ≡ x) ⊎ In a (common l m) → In a (x ∷ l) × In a m
    held k ih (inl q) = (inl q, rw q k)
    held k ih (inr h) = let r = ih.0 h in (inr r.0, r.1)

    holds : In a (common l m) ↔ (In a l × In a m) → In a m → (a ≡ x) ⊎ In a l → (a ≡ x) ⊎ In a (common l m)
    holds ih h (inl q) = inl q
    holds ih h (inr k) = inr (ih.1 (k, h))

    -- x is not shared
    lacks : ¬ In x m → In a (common l m) ↔ (In a l × In a m) → In a m → (a ≡ x) ⊎ In a l → In a (common l m)
    lacks n ih h (inl q) = absurd (n (rw q at h))
    lacks n ih h (inr k) = ih.1 (k, h)

    go : In a (common l m) ↔ (In a l × In a m) → (b : Bool) → has m x ≡ b
        → In a (common (x ∷ l) m) ↔ (In a (x ∷ l) × In a m)
    go ih true e = rw (common_take x l m e) (held ((has_yes x m).0 e) ih, λ h. holds ih h.1 h.0)
    go ih false e =
        rw (common_pass x l m e)
        (λ h. let r = ih.0 h in (inr r.0, r.1), λ h. lacks ((has_no x m).0 e) ih h.1 h.0)

-- what is shared ascends with the first list
common_ascending : (l m : List ℕ) → Ascending l → Ascending (common l m)
unfolding Ascending common
common_ascending [] m h = tt
common_ascending (x ∷ l) m h = go (common_ascending l m h.1) (has m x) refl
  where
    go : Ascending (common l m) → (b : Bool) → has m x ≡ b → Ascending (common (x ∷ l) m)
    go ih true e = rw (common_take x l m e) (λ y k. h.0 y ((common_in y l m).0 k).0, ih)
    go ih false e = rw (common_pass x l m e) ih

-- of ascending lists it does not matter which comes first
pub common_swap : (l m : List ℕ) → Ascending l → Ascending m → common l m ≡ common m l
common_swap l m hl hm =
    ascending_same (common l m) (common m l) (turn l m) (turn m l) (common_ascending l m hl) (common_ascending m l hm)
  where
    turn : (l m : List ℕ) (a : ℕ) → In a (common l m) → In a (common m l)
    turn l m a h = let r = (common_in a l m).0 h in (common_in a m l).1 (r.1, r.0)

-- ---- the first that is not e

module _ (e x : ℕ) (l : List ℕ) where
  pub other_same : x ≡ e → other e (x ∷ l) ≡ other e l
  unfolding other
  other_same h = rw (eq-eqb x e h)

  pub other_found : (x ≡ e → ⊥) → other e (x ∷ l) ≡ x
  unfolding other
  other_found h = rw (ne_eqb x e h)

-- ---- along a list

-- the first that another list holds too and that is not e, looked for in the list itself
found_along : (e : ℕ) (l m : List ℕ) → unwrap_or (find (λ x. not (eqb x e) && has m x) l) 0 ≡ other e (common l m)
unfolding other common
found_along e [] m = refl
found_along e (x ∷ l) m = go (found_along e l m) (has m x) refl (eqb x e) refl
  where
    go : unwrap_or (find (λ x. not (eqb x e) && has m x) l) 0 ≡ other e (common l m)
        → (b : Bool) → has m x ≡ b → (d : Bool) → eqb x e ≡ d
        → unwrap_or (find (λ x. not (eqb x e) && has m x) (x ∷ l)) 0 ≡ other e (common (x ∷ l) m)
    go ih true k true h = rw (k, h) ih
    go ih true k false h = rw (k, h)
    go ih false k true h = rw (k, h) ih
    go ih false k false h = rw (k, h) ih

pub found_is : (e : ℕ) (l m : List ℕ) (r : Option ℕ)
    → option_map (λ x. x) r ≡ find (λ x. not (eqb x e) && has m x) l → unwrap_or r 0 ≡ other e (common l m)
found_is e l m None h = ap (λ o. unwrap_or o 0) h ∙ found_along e l m
found_is e l m (Some x) h = ap (λ o. unwrap_or o 0) h ∙ found_along e l m
