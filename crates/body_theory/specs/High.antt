-- The ranks of two factors at which products keep one body. The two Booleans tell the products apart, as min and max do
-- in product_closure.
--
-- HighForOne   all for the duopyramid, from 1 for duoprism and duotegum, from 3 for the duocomb
use Rattle.std.specs.Prelude.{Bool, true, false, ℕ, ◌≤◌}

unfoldable pub HighForOne : Bool → Bool → ℕ → ℕ → Type 0
HighForOne false false p q = Unit {0}
HighForOne true false p q = (1 ≤ p) × (1 ≤ q)
HighForOne false true p q = (1 ≤ p) × (1 ≤ q)
HighForOne true true p q = (3 ≤ p) × (3 ≤ q)
