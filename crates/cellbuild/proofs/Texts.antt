-- Two texts from a place on: the byte that stands there, and what is left.
-- Assumes nothing.
use mathlib.Core.Path.{◌≡◌}
use mathlib.Core.Bool.{true, false}
use mathlib.Core.List.{List}
use Prim.Native.Nat.{ℕ, ◌+◌, ◌≤◌, ◌<◌}
use native.Mathlib.Numerals.{add-one}
use native.Mathlib.Omega.{arith}
use borrow.Author.Tests.{eq-eqb, ne_eqb}
use lib.ListN.{length, get_or, drop, drop_of_length-le}
use lib.Seq.{drop-cons}
use Rattle.text_theory.specs.Text.{newline, rank_key}
use Rattle.text_theory.specs.Said.{begins}
use Rattle.cellbuild.specs.Two.{ends_text, first_of_two}

module _ (t : List ℕ) (i : ℕ) (h : i < length t) where
  pub ends_newline : get_or t i 0 ≡ newline → begins rank_key (drop (i + 1) t) ≡ ends_text (drop i t)
  unfolding ends_text
  ends_newline e = rw (drop-cons t i 0 h, eq-eqb _ newline e, add-one)

  pub ends_other : (get_or t i 0 ≡ newline → ⊥) → false ≡ ends_text (drop i t)
  unfolding ends_text
  ends_other e = rw (drop-cons t i 0 h, ne_eqb _ newline e)

  pub first_stops : ends_text (drop i t) ≡ true → first_of_two (drop i t) ≡ 1
  unfolding first_of_two
  first_stops e = rw (drop-cons t i 0 h) (rw (rw (drop-cons t i 0 h) at e))

  pub first_goes : ends_text (drop i t) ≡ false → first_of_two (drop i t) ≡ 1 + first_of_two (drop (i + 1) t)
  unfolding first_of_two
  first_goes e = rw (drop-cons t i 0 h, add-one) (rw (rw (drop-cons t i 0 h) at e) (omega arith))

pub first_none : (t : List ℕ) (i : ℕ) → length t ≤ i → first_of_two (drop i t) ≡ 0
unfolding first_of_two
first_none t i h = rw (drop_of_length-le t h)

-- the laws of `ends_text` and of `first_of_two`
pub ruleset ends = (ends_newline, ends_other)

pub ruleset firsts = (first_stops, first_goes, first_none)
