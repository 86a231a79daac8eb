-- How long the lists of a listing are, and that they follow one another: together they are all that is listed.
-- Assumes nothing.
use mathlib.Core.Path.{◌≡◌, refl, sym, ap, ◌∙◌}
use mathlib.Core.List.{List, ◌++◌}
use Prim.Native.Nat.{ℕ, zero, suc, ◌+◌, ◌-◌, ◌≤◌, ◌<◌}
use native.Mathlib.Omega.{arith}
use lib.ListN.{length, get_or, take, drop, length-take, length-drop}
use lib.Seq.{take-add}
use Rattle.order.specs.Sums.{sum}
use Rattle.listing.specs.Listing.{start, entries, Ends}
use Rattle.listing.specs.Written.{joined, lengths}

module _ (ends inc : List ℕ) where
  pub entries_few : (k : ℕ) → length (entries ends inc k) ≤ length inc
  unfolding entries
  entries_few k =
      omega (
        arith,
        length-take (get_or ends k 0 - start ends k) (drop (start ends k) inc),
        length-drop (start ends k) inc,
      )

  module _ (good : Ends ends inc) where
    pub entries_length : (k : ℕ) → k < length ends → start ends k + length (entries ends inc k) ≡ get_or ends k 0
    unfolding entries
    entries_length k h =
        omega (
          arith,
          length-take (get_or ends k 0 - start ends k) (drop (start ends k) inc),
          length-drop (start ends k) inc,
          good.inside k h,
          good.rising k h,
        )

    -- a list begins where all before it end
    pub entries_start : (k : ℕ) → k ≤ length ends → sum (lengths (entries ends inc)) k ≡ start ends k
    unfolding sum
    entries_start zero h = refl
    entries_start (suc k) h = omega (arith, entries_start k (omega arith), entries_length k (omega arith))

    pub entries_joined : (k : ℕ) → k ≤ length ends → joined (entries ends inc) k ≡ take (start ends k) inc
    unfolding joined entries
    entries_joined zero h = refl
    entries_joined (suc k) h =
        let e : start ends k + (get_or ends k 0 - start ends k) ≡ get_or ends k 0 = omega (arith, good.rising k h) in
        ap (λ (s : List ℕ). s ++ entries ends inc k) (entries_joined k (omega arith))
        ∙ sym (take-add (start ends k) _ inc) ∙ ap (λ (n : ℕ). take n inc) e
