-- A list looked through from its start, entry by entry, and by the library's test.
-- Assumes nothing.
use mathlib.Core.Path.{◌≡◌, refl, ap, ◌∙◌}
use mathlib.Core.Bool.{Bool, true, false, cond, ◌||◌}
use mathlib.Core.List.{List, [], ◌∷◌}
use Prim.Native.Nat.{ℕ}
use lib.Dec.{eqb}
use Rattle.std.specs.List.{list_any}
use Rattle.order.specs.Lists.{has}

or_is : (a b : Bool) → (a || b) ≡ cond a true b
or_is true b = refl
or_is false b = refl

pub any_has : (l : List ℕ) (x : ℕ) → list_any (λ y. eqb y x) l ≡ has l x
unfolding has
any_has [] x = refl
any_has (y ∷ l) x = ap (λ (b : Bool). eqb y x || b) (any_has l x) ∙ or_is (eqb y x) (has l x)
