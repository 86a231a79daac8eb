-- The numbers of pairs: how those of an element, a block and a rank follow one another, and that all are below the
-- size.
-- Assumes nothing.
use mathlib.Core.Path.{◌≡◌, refl, ap}
use mathlib.Core.Bool.{Bool, true, false}
use mathlib.Core.List.{List}
use Prim.Native.Nat.{ℕ, suc, ◌+◌, ◌-◌, ◌*◌, ◌≤◌, ◌<◌}
use native.Mathlib.Nat.{mul-le-mul, mul-le-mul_right}
use native.Mathlib.Omega.{arith}
use lib.ListN.{length, get_or}
use mir.Val.{bool_byte}
use Rattle.order.proofs.Sums.{sum_none, sum_next, sum_le, sum_lt}
use Rattle.listing.specs.Listing.{width}
use Rattle.listing.proofs.Listing.{some_rank}
use Rattle.product_pairs.specs.Trimmed.{bit}
use Rattle.product_places.specs.Places.{pairs_in, offset_in, pairs_to, first_at, pair_number}

pub bit_le : (b : Bool) → bit b ≤ 1
bit_le true = omega arith
bit_le false = omega arith

-- a flag as a number, as the code makes it
pub bit_is : (b : Bool) → bool_byte b ≡ bit b
bit_is true = refl
bit_is false = refl

pub product_le : (x y : ℕ) → x < width → y < width → x * y ≤ width * width
product_le x y h k =
    let a : x ≤ width = omega arith in
    let b : y ≤ width = omega arith in
    mul-le-mul a b

-- ---- the numbers of pairs

-- an element of one rank, and of another: the place of the pair
product_lt : (a b m n : ℕ) → a < m → b < n → a * n + b < m * n
product_lt a b m n h k = omega (arith, mul-le-mul_right n h)

pub pairs_none : (p q : List ℕ) → pairs_to p q 0 ≡ 0
unfolding pairs_to
pairs_none p q = sum_none (λ r. pairs_in p q r (suc r))

pub pairs_next : (p q : List ℕ) (R : ℕ) → pairs_to p q (R + 1) ≡ pairs_to p q R + pairs_in p q R (R + 1)
unfolding pairs_to
pairs_next p q R =
    let e : R + 1 ≡ suc R = omega arith in
    let t : pairs_in p q R (R + 1) ≡ pairs_in p q R (suc R) = ap (pairs_in p q R) e in
    omega (arith, sum_next (λ r. pairs_in p q r (suc r)) R)

pub pairs_le : (p q : List ℕ) (R n : ℕ) → R ≤ n → pairs_to p q R ≤ pairs_to p q n
unfolding pairs_to
pairs_le p q R n h = sum_le (λ r. pairs_in p q r (suc r)) R n h

-- with the pairs of a rank below n there are still no more than of all ranks below n
pub pairs_room : (p q : List ℕ) (R n : ℕ) → R < n → pairs_to p q R + pairs_in p q R (R + 1) ≤ pairs_to p q n
pairs_room p q R n h = omega (arith, pairs_next p q R, pairs_le p q (R + 1) n (omega arith))

-- the same of the numbers that the code has in hand
pub pairs_fit : (p q : List ℕ) (R n x : ℕ) → x ≡ pairs_in p q R (R + 1) → R < n → pairs_to p q n < width → x < width
pairs_fit p q R n x e h k = omega (arith, pairs_room p q R n h)

pub sum_fits : (p q : List ℕ) (R n s x : ℕ) → s ≡ pairs_to p q R → x ≡ pairs_in p q R (R + 1) → R < n
    → pairs_to p q n ≤ width → s + x ≤ width
sum_fits p q R n s x d e h k = omega (arith, pairs_room p q R n h)

-- where a loop over the ranks begins, and a turn of it
pub ruleset pairs_steps = (pairs_none, pairs_next, sum_fits)

-- the same, of a loop that begins with the added minimal element
pub ruleset ranks = (bit_is, pairs_none, pairs_next)

module _ (min : Bool) (p q : List ℕ) where
  pub number_at : (i a j b : ℕ) → pair_number min p q i a j b ≡ first_at min p q (i + j) i + a * get_or q j 0 + b
  unfolding pair_number offset_in
  number_at i a j b = refl

  pub number_more : (i a j b : ℕ) → pair_number min p q i a j (b + 1) ≡ pair_number min p q i a j b + 1
  unfolding pair_number
  number_more i a j b = omega arith

  -- behind all pairs of an element stand those of the next
  pub number_next : (i a j : ℕ) → pair_number min p q i a j (get_or q j 0) ≡ pair_number min p q i (a + 1) j 0
  unfolding pair_number
  number_next i a j = omega arith

  -- a block begins with the pairs of its first element, and behind those of its last stands the next block
  pub number_first : (i j : ℕ) → pair_number min p q i 0 j 0 ≡ first_at min p q (i + j) i
  number_first i j = omega (arith, number_at i 0 j 0)

  pub number_last : (i j : ℕ) → pair_number min p q i (get_or p i 0) j 0 ≡ first_at min p q (i + j) (i + 1)
  number_last i j =
      let e : i + j - i ≡ j = omega arith in
      let s = sum_next (λ k. get_or p k 0 * get_or q (i + j - k) 0) i in
      let m : get_or p i 0 * get_or q (i + j - i) 0 ≡ get_or p i 0 * get_or q j 0 = rw e in
      omega (arith, number_at i (get_or p i 0) j 0)

  -- behind the last block of a rank begins the next rank
  pub first_next : (R : ℕ) → first_at min p q R (R + 1) ≡ first_at min p q (R + 1) 0
  first_next R = omega (arith, pairs_next p q R, sum_none (λ k. get_or p k 0 * get_or q (R + 1 - k) 0))

  -- a block of a rank without elements has no pairs
  pub first_same : (i j : ℕ) → get_or q j 0 ≡ 0 → first_at min p q (i + j) i ≡ first_at min p q (i + j) (i + 1)
  first_same i j h =
      let m : get_or p i 0 * get_or q j 0 ≡ get_or p i 0 * 0 = ap (λ (n : ℕ). get_or p i 0 * n) h in
      omega (arith, number_last i j, number_at i (get_or p i 0) j 0)

  pub first_le : (R n i : ℕ) → i ≤ R + 1 → R < n → first_at min p q R i ≤ bit min + pairs_to p q n
  first_le R n i h k =
      let f = sum_le (λ r. get_or p r 0 * get_or q (R - r) 0) i (R + 1) h in
      omega (arith, pairs_next p q R, pairs_le p q (R + 1) n (omega arith))

  pub number_lt : (i a j b : ℕ) → a < get_or p i 0 → b < get_or q j 0
      → pair_number min p q i a j b < bit min + pairs_to p q (length p + length q - 1)
  unfolding pairs_to
  number_lt i a j b ha hb =
      let e : i + j - i ≡ j = omega arith in
      let m : a * get_or q j 0 + b < get_or p i 0 * get_or q (i + j - i) 0 = rw e (product_lt a b _ _ ha hb) in
      let s = sum_lt (λ k. get_or p k 0 * get_or q (i + j - k) 0) i (suc (i + j)) _ (omega arith) m in
      let hp = some_rank p i a ha in
      let hq = some_rank q j b hb in
      let t = sum_lt (λ r. pairs_in p q r (suc r)) (i + j) (length p + length q - 1) _ (omega arith) s in
      omega (arith, number_at i a j b)
