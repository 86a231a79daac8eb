-- What the code of test 3 keeps: how often each index has been met.
--
-- at_least   how many counts of a tally are at least k
-- MetIn      a tally has n counts, `met` of them at least 1: so many indices were met and not set back
-- TotalsIn   the same, and `twice` of them are at least 2
-- Tally      a tally of n counts, by index, of what has been seen
-- Tallied    after a list: the answer at the first third occurrence, and else the tally of what has been seen
-- lone_in    the refusal f x at the smallest index x below n whose count is 1
-- undone     a tally, with the counts of a list's indices set back to 0, the last first
-- Walkable   the numbers of a list are elements whose lists begin at place b, and the subs of these are below n
-- SubsUnder  a list is the subs of element i of rank r: it can be walked, and that meets what the walk under i does
use Rattle.std.specs.Prelude.{◌≡◌, cond, List, [], ◌∷◌, ℕ, ◌+◌, ◌-◌, ◌*◌, ◌≤◌, ◌<◌, leb, eqb, length, get_or, set}
use Rattle.order.specs.Lists.{In, occurs}
use Rattle.listing.specs.declared.Answer.{Answer}
use Rattle.listing.specs.Answers.{on, first_of}
use Rattle.listing.specs.Listing.{Listing, count, entries}
use Rattle.valid_diamond.specs.Dyadic.{subs_of_all, walk, third_test, seen_after}

unfoldable pub at_least : ℕ → List ℕ → ℕ
at_least k [] = 0
at_least k (c ∷ t) = cond (leb k c) 1 0 + at_least k t

pub record MetIn (n : ℕ) (t : List ℕ) (met : ℕ) : Type 0 where
  pub whole : length t ≡ n
  pub met_is : met ≡ at_least 1 t

pub record TotalsIn (n : ℕ) (t : List ℕ) (met twice : ℕ) : Type 0 where
  pub met_in : MetIn n t met
  pub twice_is : twice ≡ at_least 2 t

pub record Tally (n : ℕ) (t seen : List ℕ) : Type 0 where
  pub whole : length t ≡ n
  pub counts : (x : ℕ) → x < n → get_or t x 0 ≡ occurs x seen

pub record Tallied (n : ℕ) (t : List ℕ) (f : ℕ → Answer) (seen l : List ℕ) (a : Answer) : Type 0 where
  pub answer : a ≡ third_test f seen l
  pub tally : a.no ≡ 0 → Tally n t (seen_after seen l)

unfoldable pub lone_in : (ℕ → Answer) → List ℕ → ℕ → Answer
lone_in f t n = first_of (λ x. on (eqb (get_or t x 0) 1) (f x)) 0 n

unfoldable pub undone : List ℕ → List ℕ → List ℕ
undone [] t = t
undone (x ∷ l) t = set (undone l t) x 0

pub record Walkable (ends inc : List ℕ) (b n : ℕ) (list : List ℕ) : Type 0 where
  pub there : (s : ℕ) → In s list → 2 * (b + s) + 0 < length ends
  pub inside : (s x : ℕ) → In s list → In x (entries ends inc (2 * (b + s) + 0)) → x < n

pub record SubsUnder (L : Listing) (r i b n : ℕ) (list : List ℕ) : Type 0 where
  pub walks : Walkable L.ends L.inc b n list
  pub met : subs_of_all L.ends L.inc b list ≡ walk L r i
  pub few : count L (r - 2) ≤ n
