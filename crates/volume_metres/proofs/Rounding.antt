-- Formulas of coordinates that are not too large: no step of working them out is rounded. Such formulas are the
-- determinant of where three vertices stand, and running sums.
--
-- size_of        over coordinates the value of a formula is not larger than this
-- PlacesBelow   the numbers of a formula stand at places below n
--
-- Assumes nothing.
use Rattle.std.proofs.Common.{◌≡◌, ℕ, ◌+◌, ◌*◌, ◌<◌, ◌≤◌, false, List, [], ◌∷◌, ◌++◌, length, ℤ, ◌+ℤ◌, nat_abs, sym, refl, ◌∙◌, le_trans, lt_of_le_of_lt, add-zero, mul_comm, le-mul_of_pos_right, arith, lit≤}
use mathlib.Core.List.{Memᴰ}
use lib.IntN.{+ℤ_assoc, +ℤ_idr}
use lib.Ieee.{Float, of_int}
use Rattle.order.specs.Sums.{add_up}
use Rattle.volume_metres.specs.Whole.{IsWhole, farthest, AllCoordinates}
use Rattle.volume_metres.specs.Points.{det, site_of, point_of}
use Rattle.volume_metres.specs.Formulas.{Operation, plus, minus, times, float_by, whole_by}
use Rattle.volume_metres.specs.Formulas.{Formula, nothing, number, of, in_floats, in_whole, most_exact, Exact}
use Rattle.volume_metres.specs.Formulas.{NoRounding, det_formula, det_in, running_sum}
use Rattle.volume_metres.proofs.Small.{small_plus, small_minus, small_times}
use Rattle.volume_metres.proofs.WholeExact.{round_keeps, whole_add, whole_sub, whole_mul}
use Rattle.volume_metres.proofs.Coordinates.{metres_of_lem}

-- the size of a result, by the sizes of what it is made of
abbrev size_by : Operation → ℕ → ℕ → ℕ
size_by plus j k = j + k
size_by minus j k = j + k
size_by times j k = j * k

unfoldable pub size_of : Formula → ℕ
size_of nothing = 1
size_of (number k) = farthest
size_of (of o p q) = size_by o (size_of p) (size_of q)

unfoldable pub PlacesBelow : ℕ → Formula → Type 0
PlacesBelow n nothing = Unit
PlacesBelow n (number k) = k < n
PlacesBelow n (of o p q) = PlacesBelow n p × PlacesBelow n q

-- ---- sizes

by_left : (o : Operation) (j k : ℕ) → 1 ≤ j → 1 ≤ k → j ≤ size_by o j k
by_left plus j k g h = omega arith
by_left minus j k g h = omega arith
by_left times j k g h = le-mul_of_pos_right j h

by_right : (o : Operation) (j k : ℕ) → 1 ≤ j → 1 ≤ k → k ≤ size_by o j k
by_right plus j k g h = omega arith
by_right minus j k g h = omega arith
by_right times j k g h = rw (mul_comm j k) (le-mul_of_pos_right k g)

some_size : (p : Formula) → 1 ≤ size_of p
unfolding size_of
some_size nothing = omega arith
some_size (number k) = lit≤ tt
some_size (of o p q) =
    le_trans (some_size p) (by_left o (size_of p) (size_of q) (some_size p) (some_size q))

both_small : (o : Operation) (p q : Formula) → size_of (of o p q) < most_exact
    → (size_of p < most_exact) × (size_of q < most_exact)
unfolding size_of
both_small o p q h =
    let g = by_left o (size_of p) (size_of q) (some_size p) (some_size q) in
    let k = by_right o (size_of p) (size_of q) (some_size p) (some_size q) in
    (lt_of_le_of_lt g h, lt_of_le_of_lt k h)

-- ---- one step

-- a float that is a whole number of a size of at most k
record Sized (k : ℕ) (x : Float) (z : ℤ) : Type 0 where
  is : IsWhole x z
  small : nat_abs z ≤ k

step : (o : Operation) {j k : ℕ} {x y : Float} {a b : ℤ} → Sized j x a → Sized k y b → size_by o j k < most_exact
    → Sized (size_by o j k) (float_by o x y) (whole_by o a b)
step plus {x = x} {y = y} {a = a} {b = b} u v h =
    let s = small_plus a b u.small v.small in
    record { is = whole_add x y a b u.is v.is (omega (arith, s)); small = s }
step minus {x = x} {y = y} {a = a} {b = b} u v h =
    let s = small_minus a b u.small v.small in
    record { is = whole_sub x y a b u.is v.is (omega (arith, s)); small = s }
step times {x = x} {y = y} {a = a} {b = b} u v h =
    let s = small_times a b u.small v.small in
    record { is = whole_mul x y a b u.is v.is (omega (arith, s)); small = s }

-- ---- formulas of coordinates

module _ (xs : List Float) (all : AllCoordinates xs) where
  sized : (p : Formula) → PlacesBelow (length xs) p → size_of p < most_exact
      → Sized (size_of p) (in_floats xs p) (in_whole xs p)
  unfolding size_of PlacesBelow in_floats in_whole of_int
  sized nothing t h = record { is = round_keeps false 0 (omega arith); small = omega arith }
  sized (number k) l h = let c = metres_of_lem (all k l) in record { is = c.0; small = c.1 }
  sized (of o p q) (k, l) h =
      let g = both_small o p q h in step o (sized p k g.0) (sized q l g.1) h

  each_exact : (p : Formula) → PlacesBelow (length xs) p → size_of p < most_exact → Exact (in_floats xs p) (in_whole xs p)
  each_exact p l h = let s = sized p l h in record { is = s.is; small = lt_of_le_of_lt s.small h }

  pub no_rounding : (p : Formula) → PlacesBelow (length xs) p → size_of p < most_exact → NoRounding xs p
  unfolding size_of PlacesBelow NoRounding
  no_rounding nothing l h = each_exact nothing l h
  no_rounding (number k) l h = each_exact (number k) l h
  no_rounding (of o p q) (k, l) h =
      let g = both_small o p q h in
      (each_exact (of o p q) (k, l) h, no_rounding p k g.0, no_rounding q l g.1)

pub exact_of : (xs : List Float) (p : Formula) → NoRounding xs p → Exact (in_floats xs p) (in_whole xs p)
unfolding NoRounding
exact_of xs nothing h = h
exact_of xs (number k) h = h
exact_of xs (of o p q) h = h.0

-- ---- the determinant of where three vertices stand

module _ (xs : List Float) where
  pub det_in_lem : (a b c : ℕ) → det_in (point_of xs a) (point_of xs b) (point_of xs c) ≡ in_floats xs (det_formula a b c)
  unfolding det_in in_floats det_formula
  det_in_lem a b c = simp add-zero

  pub det_whole : (a b c : ℕ) → in_whole xs (det_formula a b c) ≡ det (site_of xs a) (site_of xs b) (site_of xs c)
  unfolding in_whole det_formula det
  det_whole a b c = simp add-zero

pub det_size : (a b c : ℕ) → size_of (det_formula a b c) ≡ 6 * (farthest * farthest * farthest)
unfolding size_of det_formula
det_size a b c = refl

pub det_places : (n a b c : ℕ) → 3 * a + 2 < n → 3 * b + 2 < n → 3 * c + 2 < n → PlacesBelow n (det_formula a b c)
unfolding PlacesBelow det_formula
det_places n a b c f g h = omega arith

-- ---- running sums

pub running_snoc : (p : Formula) (l : List Formula) (q : Formula)
    → running_sum p (l ++ (q ∷ [])) ≡ of plus (running_sum p l) q
unfolding running_sum
running_snoc p [] q = refl
running_snoc p (r ∷ l) q = running_snoc (of plus p r) l q

module _ (xs : List Float) where
  pub running_whole : (p : Formula) (l : List Formula)
      → in_whole xs (running_sum p l) ≡ in_whole xs p +ℤ add_up (in_whole xs) l
  unfolding in_whole running_sum add_up
  running_whole p [] = sym (+ℤ_idr (in_whole xs p))
  running_whole p (q ∷ l) =
      running_whole (of plus p q) l ∙ +ℤ_assoc (in_whole xs p) (in_whole xs q) (add_up (in_whole xs) l)

running_size : (k : ℕ) (p : Formula) (l : List Formula) → ((q : Formula) → Memᴰ q l → size_of q ≤ k)
    → size_of (running_sum p l) ≤ size_of p + length l * k
unfolding size_of running_sum
running_size k p [] h = omega arith
running_size k p (q ∷ l) h =
    omega (
      arith,
      h q (Memᴰ.head refl),
      running_size k (of plus p q) l (λ r m. h r (Memᴰ.tail m)),
    )

running_places : (n : ℕ) (p : Formula) (l : List Formula) → PlacesBelow n p
    → ((q : Formula) → Memᴰ q l → PlacesBelow n q) → PlacesBelow n (running_sum p l)
unfolding PlacesBelow running_sum
running_places n p [] g h = g
running_places n p (q ∷ l) g h =
    running_places n (of plus p q) l (g, h q (Memᴰ.head refl)) (λ r m. h r (Memᴰ.tail m))

pub running_no_rounding : (xs : List Float) → AllCoordinates xs → (l : List Formula) (k : ℕ)
    → ((q : Formula) → Memᴰ q l → PlacesBelow (length xs) q × (size_of q ≤ k)) → length l * k + 1 < most_exact
    → NoRounding xs (running_sum nothing l)
unfolding size_of PlacesBelow
running_no_rounding xs all l k f h =
    no_rounding xs all (running_sum nothing l) (running_places (length xs) nothing l tt (λ q m. (f q m).0))
    (omega (arith, running_size k nothing l (λ q m. (f q m).1)))
