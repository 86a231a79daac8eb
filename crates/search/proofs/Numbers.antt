-- The numbers of the refusals before a search are at most 20.
-- Assumes nothing.
use mathlib.Core.Path.{refl}
use mathlib.Core.Logic.{inl, inr}
use mathlib.Core.List.{List, [], ◌∷◌, ◌++◌}
use Prim.Native.Nat.{ℕ, ◌≤◌}
use native.Mathlib.Omega.{arith}
use Rattle.listing.specs.Refusals.{not_a_flag}
use Rattle.listing.specs.Answers.{fine}
use Rattle.listing.specs.Listing.{Listing, Limits}
use Rattle.listing.specs.Rules.{Rule, FirstBroken}
use Rattle.listing.proofs.ShapeBroken.{or_nothing}
use Rattle.valid.specs.Rules.{closed_rules}
use Rattle.flag_change.specs.Flags.{start_test}
use Rattle.flag_change.specs.Rules.{flag_rule}
use Rattle.flag_change.proofs.StartBroken.{start_then}

-- the numbers of a row of rules are at most n
unfoldable pub Most : ℕ → List Rule → Type 0
Most n [] = 0 ≤ n
Most n (w ∷ l) = (w.high ≤ n) × Most n l

pub broken_most : (n k : ℕ) (l : List Rule) → Most n l → FirstBroken l k → k ≤ n
unfolding Most FirstBroken
broken_most n k [] h e = omega arith
broken_most n k (w ∷ l) h (inl b) = omega (arith, b.2, h.0)
broken_most n k (w ∷ l) h (inr b) = broken_most n k l h.1 b.1

rules_most : (m : Limits) (L : Listing) (f : List ℕ) → Most not_a_flag (closed_rules m L ++ flag_rule L f ∷ [])
unfolding Most
rules_most m L f = omega arith

-- The number of a refusal before a search is at most 20.
pub start_most : (m : Limits) (L : Listing) (f : List ℕ) → (start_test m L f).no ≤ not_a_flag
unfolding FirstBroken
start_most m L f =
    broken_most not_a_flag (start_test m L f).no (closed_rules m L ++ flag_rule L f ∷ []) (rules_most m L f)
    (rw (← or_nothing (start_test m L f)) (start_then m L f [] fine (λ C F. refl)))
