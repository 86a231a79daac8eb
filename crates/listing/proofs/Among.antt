-- Which numbers a row of tests can answer.
-- Assumes nothing.
use mathlib.Core.Path.{◌≡◌, refl}
use mathlib.Core.Logic.{◌⊎◌, inl, inr}
use mathlib.Core.Bool.{Bool, true, false, cond}
use mathlib.Core.List.{List, [], ◌∷◌}
use Prim.Native.Nat.{ℕ, zero, suc, ◌-◌, ◌≤◌}
use Rattle.listing.specs.declared.Answer.{Answer}
use Rattle.listing.specs.Answers.{refusal, fine, on, ◌or_else◌, first_in, first_for, first_of}
use Rattle.listing.proofs.Answers.{or_fine, or_stop}
use Rattle.listing.proofs.Broken.{zero_or}

-- a refusal has one of the numbers from low to high
pub record Among (low high : ℕ) (a : Answer) : Type 0 where
  pub numbers : (a.no ≡ 0 → ⊥) → (low ≤ a.no) × (a.no ≤ high)

module _ {low high : ℕ} where
  pub among_fine : Among low high fine
  among_fine = record { numbers = λ s. absurd (s refl) }

  pub among_or : {x y : Answer} → Among low high x → Among low high y → Among low high (x or_else y)
  among_or {x} {y} p q = go (zero_or x.no)
    where
      go : (x.no ≡ 0) ⊎ (x.no ≡ 0 → ⊥) → Among low high (x or_else y)
      go (inl z) = rw (or_fine x y z) q
      go (inr s) = rw (or_stop x y s) p

  pub among_cond : (t : Bool) (x y : Answer) → Among low high x → Among low high y → Among low high (cond t x y)
  among_cond true x y p q = p
  among_cond false x y p q = q

  module _ (n : ℕ) (l : low ≤ n) (h : n ≤ high) where
    pub among_is : (a b c d : ℕ) → Among low high (refusal n a b c d)
    among_is a b c d = record { numbers = λ s. (l, h) }

    pub among_on : (t : Bool) (a b c d : ℕ) → Among low high (on t (refusal n a b c d))
    among_on t a b c d = among_cond t (refusal n a b c d) fine (among_is a b c d) among_fine

  module _ (f : ℕ → Answer) (each : (k : ℕ) → Among low high (f k)) where
    pub among_in : (l : List ℕ) → Among low high (first_in f l)
    unfolding first_in
    among_in [] = among_fine
    among_in (x ∷ l) = among_or (each x) (among_in l)

    among_for : (i k : ℕ) → Among low high (first_for f i k)
    unfolding first_for
    among_for i zero = among_fine
    among_for i (suc k) = among_or (each i) (among_for (suc i) k)

    pub among_of : (i n : ℕ) → Among low high (first_of f i n)
    unfolding first_of
    among_of i n = among_for i (n - i)
