-- The coordinate of a code, case by case, and the integer that it is; coordinates written one after another.
-- Assumes nothing.
use Rattle.std.proofs.Common.{◌≡◌, ℕ, suc, ◌+◌, ◌-◌, ◌^◌, ◌<◌, ◌≤◌, Bool, true, false, cond, ltb, min}
use Rattle.std.proofs.Common.{List, [], ◌∷◌, map, length, get_or, drop, set, pos, negsuc, ◌-ℤ◌, refl, add-one, arith}
use Rattle.std.proofs.Common.{drop_of_length-le, length-take, drop-cons, w64, SFits, to_z, of_z, ne_eqb, le-leb}
use borrow.Author.Tests.{lt-leb, leb-true, leb-false}
use lib.Dec.{leb}
use mir.ValLaws.{to_z_pos, to_z-of_z}
use lib.Signed.{mag}
use lib.Seq.{sets, set_out}
use lib.Ieee.{Float, fin, binary64, of_int}
use Rattle.replay_volumes.specs.Codes.{metres_for, Lendable}

-- ---- metres, and none

pub metres_in : (n : ℕ) → n ≤ 4000 → metres_for n ≡ of_int binary64 (pos n -ℤ pos 2000)
unfolding metres_for
metres_in n h = rw (le-leb n 4000 h)

pub metres_past : (n : ℕ) → 4004 < n → metres_for n ≡ fin true 0 (pos 0)
unfolding metres_for
metres_past n h =
    rw (
      lt-leb n 4000 (omega arith),
      ne_eqb n 4001 (λ e. omega arith),
      ne_eqb n 4002 (λ e. omega arith),
      ne_eqb n 4003 (λ e. omega arith),
      ne_eqb n 4004 (λ e. omega arith),
    )

-- ---- the code less 2000 is a small integer, and is not cut

less_fits : (n : ℕ) → n ≤ 4000 → SFits w64 (pos n -ℤ pos 2000)
less_fits n h = record { sfits = go (ltb n 2000) }
  where
    go : (b : Bool) → mag (cond b (negsuc (2000 - suc n)) (pos (n - 2000))) < 2 ^ 63
    go true = omega arith
    go false = omega arith

as_integer : (n : ℕ) → n ≤ 4000 → to_z w64 n ≡ pos n
as_integer n h = to_z_pos w64 n (omega arith)

pub less_small : (n : ℕ) → n ≤ 4000 → SFits w64 (to_z w64 n -ℤ pos 2000)
less_small n h = rw (as_integer n h) (less_fits n h)

pub less_is : (n : ℕ) → n ≤ 4000 → to_z w64 (of_z w64 (to_z w64 n -ℤ pos 2000)) ≡ pos n -ℤ pos 2000
less_is n h = rw (as_integer n h) (to_z-of_z w64 (pos n -ℤ pos 2000) (less_fits n h))

-- ---- coordinates one after another

sets_past : (l : List Float) (i : ℕ) (vs : List Float) → length l ≤ i → sets l i vs ≡ l
sets_past l i [] h = refl
sets_past l i (v ∷ vs) h = rw (set_out l i v h) (sets_past l (suc i) vs (omega arith))

module _ (codes : List ℕ) (l : List Float) (n : ℕ) where
  pub write_next : n < length codes → sets l n (map metres_for (drop n codes))
      ≡ sets (set l n (metres_for (get_or codes n 0))) (n + 1) (map metres_for (drop (n + 1) codes))
  write_next h = rw (add-one, drop-cons codes n 0 h)

  -- no code is left, or no room
  pub write_end : min (length codes) (length l) ≤ n → sets l n (map metres_for (drop n codes)) ≡ l
  write_end h = go (leb (length codes) (length l)) refl
    where
      go : (q : Bool) → leb (length codes) (length l) ≡ q → sets l n (map metres_for (drop n codes)) ≡ l
      go true e =
          let few : length codes ≤ length l = leb-true (length codes) (length l) e in
          let none : length codes ≤ n = omega arith in
          rw (drop_of_length-le codes none)
      go false e =
          let short : length l < length codes = leb-false (length codes) (length l) e in
          sets_past l n (map metres_for (drop n codes)) (omega arith)

pub begins : (n : ℕ) (l : List Float) → n ≤ length l → Lendable n l
begins n l h = (h, simp length-take (omega arith))
