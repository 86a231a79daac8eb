-- Whether a text begins with a key. A key that it begins with lies inside it.
-- Assumes nothing.
use mathlib.Core.Path.{◌≡◌, refl, sym, ap}
use mathlib.Core.Bool.{Bool, true, ◌&&◌, true≢false}
use mathlib.Core.List.{List, [], ◌∷◌}
use Prim.Native.Nat.{ℕ, ◌+◌, ◌≤◌}
use native.Mathlib.Omega.{arith}
use lib.Dec.{eqb}
use lib.ListN.{length, take, drop, length-drop}
use lib.Pointwise.{pointwise}
use Rattle.order.proofs.Tests.{and_true}
use Rattle.text_theory.specs.Said.{begins}

-- byte for byte it is the key
pub begins_is : (p t : List ℕ) → begins p t ≡ pointwise eqb p (take (length p) t)
unfolding begins
begins_is [] t = refl
begins_is (x ∷ p) [] = refl
begins_is (x ∷ p) (y ∷ t) = ap (λ (b : Bool). eqb x y && b) (begins_is p t)

-- a text is as long as what it begins with, at least
pub begins_length : (p t : List ℕ) → begins p t ≡ true → length p ≤ length t
unfolding begins
begins_length [] t e = omega arith
begins_length (x ∷ p) [] e = absurd (true≢false (sym e))
begins_length (x ∷ p) (y ∷ t) e =
    let h = begins_length p t (and_true (eqb x y) (begins p t) e).1 in
    omega arith

-- so the key lies inside the text
pub key_fits : (p t : List ℕ) (at : ℕ) → at ≤ length t → begins p (drop at t) ≡ true → at + length p ≤ length t
key_fits p t at h e = omega (arith, begins_length p (drop at t) e, length-drop at t)
