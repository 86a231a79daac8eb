-- The sum over the even ones of the first k rows of a table, one row after another.
-- Assumes nothing.
use mathlib.Core.Path.{◌≡◌, refl, sym, ap, ◌∙◌}
use mathlib.Core.Logic.{◌≢◌}
use mathlib.Core.Bool.{cond}
use mathlib.Core.List.{List, [], ◌∷◌, ◌++◌, map, append-nil, map-append}
use Prim.Native.Nat.{ℕ, ◌+◌, ◌-◌, ◌*◌, ◌<◌}
use native.Mathlib.Numerals.{add-one}
use native.Mathlib.Omega.{arith}
use borrow.Author.Tests.{eq-eqb, ne_eqb}
use lib.Dec.{eqb}
use lib.ListN.{length, get_or, take, drop}
use lib.Ieee.{Float, binary64, of_bits, add}
use Rattle.listing.specs.Listing.{Listing}
use Rattle.search_theory.specs.Search.{evens}
use Rattle.search_theory.proofs.Evens.{evens_snoc}
use Rattle.search_index.specs.Rows.{row_of, rows}
use Rattle.search_index.proofs.Rows.{rows_length}
use Rattle.volume_metres.specs.Formulas.{nothing, in_floats, running_sum}
use Rattle.volume_metres.proofs.Rounding.{running_snoc}
use Rattle.volume_metres.proofs.Running.{zero_literal}
use Rattle.volume_theory.specs.Six.{part_formula, six_formula}

-- row k, cut from a table
pub row_cut : (w : ℕ) (table : List ℕ) (k : ℕ) → take (k * w + w - k * w) (drop (k * w) table) ≡ row_of w table k
unfolding row_of
row_cut w table k =
    let e : k * w + w - k * w ≡ w = omega arith in
    ap (λ n. take n (drop (k * w) table)) e

-- nothing is added: 0.0
pub six_none : (L : Listing) (xs : List Float) (w : ℕ) (table bytes : List ℕ)
    → of_bits binary64 0 ≡ in_floats xs (six_formula L (evens (rows w table 0) bytes))
unfolding rows evens six_formula running_sum in_floats
six_none L xs w table bytes = zero_literal

-- one flag more
six_snoc : (L : Listing) (xs : List Float) (l : List (List ℕ)) (f : List ℕ)
    → in_floats xs (six_formula L (l ++ (f ∷ [])))
    ≡ add binary64 (in_floats xs (six_formula L l)) (in_floats xs (part_formula L f))
unfolding six_formula in_floats
six_snoc L xs l f =
    ap (λ m. in_floats xs (running_sum nothing m)) (map-append (part_formula L) l (f ∷ []))
    ∙ ap (in_floats xs) (running_snoc nothing (map (part_formula L) l) (part_formula L f))

module _ (L : Listing) (xs : List Float) (w : ℕ) (table bytes : List ℕ) (k : ℕ) (h : k < length bytes) where
  abbrev before : List (List ℕ)
  before = evens (rows w table k) bytes

  -- one row more: it is added if it is even
  evens_next : evens (rows w table (k + 1)) bytes ≡ before ++ cond (eqb (get_or bytes k 0) 0) (row_of w table k ∷ []) []
  unfolding rows
  evens_next =
      let n = rows_length w table k in
      ap (λ i. evens (rows w table i) bytes) (add-one k)
      ∙ evens_snoc (rows w table k) bytes (row_of w table k) (omega arith)
      ∙ ap (λ i. before ++ cond (eqb (get_or bytes i 0) 0) (row_of w table k ∷ []) []) n

  pub six_even : get_or bytes k 0 ≡ 0
      → add binary64 (in_floats xs (six_formula L before)) (in_floats xs (part_formula L (row_of w table k)))
      ≡ in_floats xs (six_formula L (evens (rows w table (k + 1)) bytes))
  six_even e = rw (evens_next, eq-eqb (get_or bytes k 0) 0 e) (sym (six_snoc L xs before (row_of w table k)))

  pub six_odd : get_or bytes k 0 ≢ 0
      → in_floats xs (six_formula L before) ≡ in_floats xs (six_formula L (evens (rows w table (k + 1)) bytes))
  six_odd e = rw (evens_next, ne_eqb (get_or bytes k 0) 0 e, append-nil) refl

pub ruleset six = (row_cut, six_none, six_even, six_odd)
