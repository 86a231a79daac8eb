-- The byte of the other parity.
-- Assumes nothing.
use mathlib.Core.Path.{◌≡◌, refl}
use Prim.Native.Nat.{ℕ, zero, suc, ◌-◌}
use native.Mathlib.Omega.{arith}
use borrow.Author.Tests.{ne_eqb}
use Rattle.flag.specs.Orientations.{byte_of, of_byte, flip_of}

pub flip_byte : (b : ℕ) → byte_of (flip_of (of_byte b)) ≡ 1 - b
unfolding byte_of flip_of of_byte
flip_byte zero = refl
flip_byte (suc b) = rw (ne_eqb (suc b) 0 (λ e. omega arith)) (omega arith)
