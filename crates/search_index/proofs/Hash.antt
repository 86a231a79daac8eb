-- Hashes of flags: the weights, the sum number by number, and the hash after one number is changed.
-- Assumes nothing.
use mathlib.Core.Path.{◌≡◌, refl, sym, ap, ◌∙◌}
use mathlib.Core.Bool.{Bool, true, false}
use mathlib.Core.List.{List, [], ◌∷◌}
use Prim.Native.Nat.{ℕ, zero, suc, ◌+◌, ◌-◌, ◌*◌, ◌%◌, ◌≤◌, ◌<◌}
use native.Mathlib.Nat.{mod-lt, mul-le-mul}
use native.Mathlib.Numerals.{add-one}
use native.Mathlib.Omega.{arith}
use borrow.Author.Tests.{eqb-true, eqb-false}
use lib.Dec.{eqb}
use lib.ListN.{length, get_or, drop, set, drop_of_length-le}
use lib.Seq.{drop-cons, get_or-set_same, get_or-set_other}
use Rattle.listing.specs.Listing.{width, limits}
use Rattle.search_index.specs.Hash.{hashes, weight, sum_from, hash_of, Weights}

-- ---- weights

pub weight_small : (r : ℕ) → weight r < hashes
unfolding weight
weight_small zero = omega arith
weight_small (suc r) = mod-lt (weight r * 5741) {m = hashes} (omega arith)

pub weights_first : (l : List ℕ) (k : ℕ) → k < 1 → get_or (1 ∷ l) k 0 ≡ weight k
unfolding weight
weights_first l zero h = refl
weights_first l (suc k) h = absurd (omega arith)

weight_next : (r : ℕ) → 1 ≤ r → weight (r - 1) * 5741 % hashes ≡ weight r
unfolding weight
weight_next zero h = absurd (omega arith)
weight_next (suc r) h = let z : suc r - 1 ≡ r = omega arith in rw z

-- one weight more
pub weights_next : (l : List ℕ) (r : ℕ) → 1 ≤ r → r < length l → ((k : ℕ) → k < r → get_or l k 0 ≡ weight k)
    → (k : ℕ) → k < r + 1 → get_or (set l r (get_or l (r - 1) 0 * 5741 % hashes)) k 0 ≡ weight k
weights_next l r p h e k i = go (eqb k r) refl
  where
    v : ℕ
    v = get_or l (r - 1) 0 * 5741 % hashes

    go : (q : Bool) → eqb k r ≡ q → get_or (set l r v) k 0 ≡ weight k
    go true q =
        let z : k ≡ r = eqb-true k r q in
        rw z (get_or-set_same l r v 0 h ∙ rw (e (r - 1) (omega arith)) (weight_next r p))
    go false q =
        let d = eqb-false k r q in
        get_or-set_other l r k v 0 d ∙ e k (omega arith)

-- a number times its weight
pub times_small : (x v : ℕ) → x < width → v < hashes → x * v ≤ width * hashes
times_small x v h i =
    let p : x ≤ width = omega arith in
    let q : v ≤ hashes = omega arith in
    mul-le-mul p q

pub weights_small : (l : List ℕ) → Weights l → (r : ℕ) → r < limits.ranks → get_or l r 0 < hashes
weights_small l e r h = omega (arith, e.each r h, weight_small r)

-- ---- the sum

-- the sum of the whole is what was added up and the sum of what is left
module _ (W s : ℕ) (flag : List ℕ) (r : ℕ) (e : W ≡ s + sum_from r (drop r flag)) where
  pub sum_next : r < length flag → (x v : ℕ) → x ≡ get_or flag r 0 → v ≡ weight r
      → W ≡ s + x * v + sum_from (r + 1) (drop (r + 1) flag)
  unfolding sum_from
  sum_next h x v p q =
      let z : drop r flag ≡ x ∷ drop (r + 1) flag =
      rw (drop-cons flag r 0 h, add-one) (ap (λ y. y ∷ drop (suc r) flag) (sym p)) in
      e ∙ rw (z, q) (omega arith)

  pub sum_end : length flag ≤ r → W ≡ s
  unfolding sum_from
  sum_end h = e ∙ rw (drop_of_length-le flag {i = r} h) (omega arith)

-- one number is changed
sum_set : (r : ℕ) (f : List ℕ) (i y : ℕ) → i < length f
    → sum_from r (set f i y) + get_or f i 0 * weight (r + i) ≡ sum_from r f + y * weight (r + i)
unfolding sum_from
sum_set r [] i y h = absurd (omega arith)
sum_set r (x ∷ f) zero y h = let z : r + 0 ≡ r = omega arith in rw z (omega arith)
sum_set r (x ∷ f) (suc i) y h =
    let z : r + suc i ≡ r + 1 + i = omega arith in
    rw z (omega (arith, sum_set (r + 1) f i y (omega arith)))

pub hash_small : (f : List ℕ) → hash_of f < hashes
unfolding hash_of
hash_small f = mod-lt (sum_from 0 f) {m = hashes} (omega arith)

module _ (f : List ℕ) (i y : ℕ) (h : i < length f) where
  sum_changed : sum_from 0 (set f i y) + get_or f i 0 * weight i ≡ sum_from 0 f + y * weight i
  sum_changed = let z : 0 + i ≡ i = omega arith in rw z at (sum_set 0 f i y h)

  pub old_inside : get_or f i 0 * weight i ≤ sum_from 0 f + y * weight i
  old_inside = omega (arith, sum_changed)

  pub hash_changed : (sum_from 0 f + y * weight i - get_or f i 0 * weight i) % hashes ≡ hash_of (set f i y)
  unfolding hash_of
  hash_changed =
      let z : sum_from 0 f + y * weight i - get_or f i 0 * weight i ≡ sum_from 0 (set f i y) =
      omega (arith, sum_changed) in
      rw z
