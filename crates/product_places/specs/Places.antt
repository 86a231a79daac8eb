-- Where the pairs of two factors stand, by the counts of their ranks in use.
--
-- pairs_in      how many pairs of rank R have a first member of a rank below i
-- offset_in     how many pairs of the same rank come before those of the ranks i and j
-- pairs_to      how many pairs there are of the ranks below R
-- first_at      the number of the first pair of rank R whose first member is of rank i or higher, among all elements
-- pair_number   the number of a pair among all elements of the product
-- subs_of       the subs of an element, by those of its two members, as a shift says
use Rattle.std.specs.Prelude.{Bool, cond, List, [], ◌∷◌, ◌++◌, map, ℕ, suc, ◌+◌, ◌-◌, ◌*◌, get_or}
use Rattle.order.specs.Sums.{sum}
use Rattle.product_pairs.specs.Trimmed.{bit}
use Rattle.product_places.specs.declared.put.Shift.{Shift}

abbrev pub pairs_in : List ℕ → List ℕ → ℕ → ℕ → ℕ
pairs_in p q R i = sum (λ k. get_or p k 0 * get_or q (R - k) 0) i

unfoldable pub offset_in : List ℕ → List ℕ → ℕ → ℕ → ℕ
offset_in p q i j = pairs_in p q (i + j) i

unfoldable pub pairs_to : List ℕ → List ℕ → ℕ → ℕ
pairs_to p q R = sum (λ r. pairs_in p q r (suc r)) R

abbrev pub first_at : Bool → List ℕ → List ℕ → ℕ → ℕ → ℕ
first_at min p q R i = bit min + pairs_to p q R + pairs_in p q R i

unfoldable pub pair_number : Bool → List ℕ → List ℕ → ℕ → ℕ → ℕ → ℕ → ℕ
pair_number min p q i a j b = bit min + pairs_to p q (i + j) + offset_in p q i j + a * get_or q j 0 + b

unfoldable pub subs_of : Shift → List ℕ → List ℕ → List ℕ
subs_of s left right =
    cond s.low (0 ∷ []) [] ++ (map (λ x. s.left + x * s.scale) left ++ map (λ y. s.right + y * 1) right)
