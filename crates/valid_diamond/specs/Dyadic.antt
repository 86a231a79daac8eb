-- Test 3: the diamond.
--
-- subs_of_all     the subs of each number of a list in turn, whose elements' lists begin at place b
-- walk            the subs of an element's subs, in walking order
-- third_test      the refusal f x at the first number x that is met a third time, after those of `seen`
-- seen_after      what has been seen after a walk
-- lone_test       the refusal f x at the smallest number x below n that was met once
-- third           the refusal of a section under element i of rank r: its index x is met a third time
-- lone            the refusal of a section under element i of rank r: its index x is met once
-- sections_test   one element: 17 at the first third occurrence on the walk, then 18 at the smallest index met once
-- dyadic_test     all elements of the ranks 2 to h, by rank and then index
-- LiesBetween     s lies between x, two ranks lower, and element i of rank r
-- DiamondAt       the book's rule at rank r: whenever some element lies between, exactly one other does, which makes two
-- DiamondUpTo     the book's rule at the ranks 2 to h
-- Distinct        no list of the listing holds an index twice
-- MetTwiceAt      what test 3 asks of an element, also where lists repeat: each index that its walk meets is met twice
-- MetTwice        the same of each element of the ranks 2 to h
use Rattle.std.specs.Prelude.{◌≡◌, List, [], ◌∷◌, ◌++◌, ℕ, ◌+◌, ◌-◌, ◌*◌, ◌≤◌, ◌<◌, leb, eqb}
use Rattle.order.specs.Lists.{In, occurs}
use Rattle.order.specs.Diamond.{OneOther}
use Rattle.listing.specs.declared.Answer.{Answer}
use Rattle.listing.specs.Refusals.{third_between, lone_between}
use Rattle.listing.specs.Answers.{refusal, fine, on, ◌or_else◌, first_of}
use Rattle.listing.specs.Listing.{Listing, count, before, entries, side, subs}

unfoldable pub subs_of_all : List ℕ → List ℕ → ℕ → List ℕ → List ℕ
subs_of_all ends inc b [] = []
subs_of_all ends inc b (s ∷ l) = entries ends inc (2 * (b + s) + 0) ++ subs_of_all ends inc b l

abbrev pub walk : Listing → ℕ → ℕ → List ℕ
walk L r i = subs_of_all L.ends L.inc (before L.counts (r - 1)) (subs L r i)

unfoldable pub third_test : (ℕ → Answer) → List ℕ → List ℕ → Answer
third_test f seen [] = fine
third_test f seen (x ∷ l) = on (leb 2 (occurs x seen)) (f x) or_else third_test f (x ∷ seen) l

unfoldable pub seen_after : List ℕ → List ℕ → List ℕ
seen_after seen [] = seen
seen_after seen (x ∷ l) = seen_after (x ∷ seen) l

unfoldable pub lone_test : (ℕ → Answer) → List ℕ → ℕ → Answer
lone_test f seen n = first_of (λ x. on (eqb (occurs x seen) 1) (f x)) 0 n

abbrev pub third : ℕ → ℕ → ℕ → Answer
third r i x = refusal third_between (r - 2) x r i

abbrev pub lone : ℕ → ℕ → ℕ → Answer
lone r i x = refusal lone_between (r - 2) x r i

unfoldable pub sections_test : Listing → ℕ → ℕ → Answer
sections_test L r i =
    third_test (third r i) [] (walk L r i) or_else
    lone_test (lone r i) (seen_after [] (walk L r i)) (count L (r - 2))

unfoldable pub dyadic_test : Listing → ℕ → Answer
dyadic_test L h = first_of (λ r. first_of (sections_test L r) 0 (count L r)) 2 (h + 1)

abbrev pub LiesBetween : Listing → ℕ → ℕ → ℕ → ℕ → Type 0
LiesBetween L r i x s = In s (subs L r i) × In x (subs L (r - 1) s)

unfoldable pub DiamondAt : Listing → ℕ → Type 0
DiamondAt L r = (i x s : ℕ) → i < count L r → LiesBetween L r i x s → OneOther (LiesBetween L r i x) s

unfoldable pub DiamondUpTo : Listing → ℕ → Type 0
DiamondUpTo L h = (r : ℕ) → 2 ≤ r → r ≤ h → DiamondAt L r

unfoldable pub Distinct : Listing → Type 0
Distinct L = (s r i x : ℕ) → s < 2 → i < count L r → occurs x (side L s r i) ≤ 1

abbrev pub MetTwiceAt : Listing → ℕ → ℕ → Type 0
MetTwiceAt L r i = (x : ℕ) → In x (walk L r i) → occurs x (walk L r i) ≡ 2

unfoldable pub MetTwice : Listing → ℕ → Type 0
MetTwice L h = (r i : ℕ) → 2 ≤ r → r ≤ h → i < count L r → MetTwiceAt L r i
