-- The test of a coordinate is exact, and so is that of all; the whole number that a coordinate is.
-- Assumes nothing.
use Rattle.std.proofs.Common.{◌≡◌, ◌*◌, ◌/◌, ◌%◌, ◌≤◌, true, ◌↔◌, List, length, get_or, ℤ, nat_abs, refl, ap, mul-le-mul_right, div-add-mod', arith, eqb-true, le-leb, leb-true}
use mathlib.Core.Bool.{false≢true}
use native.Mathlib.Nat.{mul-mod_left, div-le_of_le-mul}
use lib.Ieee.{Float, nan, inf, fin, up, down}
use Rattle.order.proofs.Tests.{and_true, every_each, every_all}
use Rattle.volume_metres.specs.Whole.{IsWhole, farthest, IsCoordinate, coordinate, metres_of}
use Rattle.volume_metres.specs.Whole.{AllCoordinates, all_coordinates}
use Rattle.volume_metres.proofs.Signs.{abs_signed}

coordinate_metres : (x : Float) → coordinate x ≡ true → IsWhole x (metres_of x) × (nat_abs (metres_of x) ≤ farthest)
unfolding coordinate metres_of
coordinate_metres nan h = absurd (false≢true h)
coordinate_metres (inf s) h = absurd (false≢true h)
coordinate_metres (fin s m e) h =
    let p = and_true _ _ h in
    let l = leb-true (m * up e) (farthest * down e) p.0 in
    let z = eqb-true (m * up e % down e) 0 p.1 in (
      (m * up e / down e, omega (arith, div-add-mod' (m * up e) (down e)), refl),
      rw abs_signed (div-le_of_le-mul (down e) {m = m * up e} {n = farthest} (omega arith)),
    )

-- a whole number that is near passes
near_passes : (x : Float) (z : ℤ) → IsWhole x z → nat_abs z ≤ farthest → coordinate x ≡ true
unfolding coordinate
near_passes nan z w h = elim w [ ]
near_passes (inf s) z w h = elim w [ ]
near_passes (fin s m e) z (n, p, u) h =
    let l : n ≤ farthest = omega (arith, abs_signed s n, ap nat_abs u) in
    rw (p, le-leb (n * down e) (farthest * down e) (mul-le-mul_right (down e) l), mul-mod_left n (down e))

coordinate_exact : (x : Float) → (coordinate x ≡ true) ↔ IsCoordinate x
coordinate_exact x = (
  λ h. let p = coordinate_metres x h in record { metres = metres_of x; whole = p.0; near = p.1 },
  λ c. near_passes x c.metres c.whole c.near,
)

-- so a coordinate is the whole number that it is said to be, which is near
pub metres_of_lem : {x : Float} → IsCoordinate x → IsWhole x (metres_of x) × (nat_abs (metres_of x) ≤ farthest)
metres_of_lem {x} c = coordinate_metres x ((coordinate_exact x).1 c)

pub all_exact : (xs : List Float) → (all_coordinates xs ≡ true) ↔ AllCoordinates xs
unfolding all_coordinates
all_exact xs = (
  λ h k l. (coordinate_exact (get_or xs k nan)).0 (every_each (λ k. coordinate (get_or xs k nan)) (length xs) h k l),
  λ c.
      every_all (λ k. coordinate (get_or xs k nan)) (length xs)
      (λ k l. (coordinate_exact (get_or xs k nan)).1 (c k l)),
)
