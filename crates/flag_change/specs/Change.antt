-- The change of a flag at one rank.
--
-- common        the numbers of one list that another has too, in their order
-- other         the first number of a list that is not e; 0 where there is none
-- between       the elements between those of a flag at the ranks r - 1 and r + 1
-- replaced_at   what the change at rank r replaces: the flag's own number there is taken out, the other of those between
--               is put in
-- change_at     the flag with that put in
-- Flanked       the numbers at the ranks r - 1 and r + 1 are elements that exist
-- Changes       the flag's element at rank r is one of those between, and there is exactly one other; the change is a
--               flag again, differs from it at rank r exactly, leads back when it is made again, and is the only flag
--               that differs so
-- Replaces      x is the number of the flag f at rank r, y that of the flag g; they are the two elements between those
--               of f at the ranks r - 1 and r + 1
-- HasUnder      element i of rank r exists, and has x directly under it
-- padded        a flag in room for the most ranks, 0 above the top
use Rattle.std.specs.Prelude.{◌≡◌, cond, List, [], ◌∷◌, ◌++◌, ℕ, ◌+◌, ◌-◌, ◌<◌, eqb, length, get_or, set, replicate}
use Rattle.order.specs.Lists.{In, has}
use Rattle.order.specs.Steps.{ChangedAt}
use Rattle.order.specs.Diamond.{OneOther, TheTwo}
use Rattle.listing.specs.Listing.{Listing, limits, count, subs, sups}
use Rattle.valid_diamond.specs.Dyadic.{LiesBetween}
use Rattle.flag_change.specs.declared.chain.Replaced.{Replaced}
use Rattle.flag_change.specs.Flags.{IsFlag}

unfoldable pub common : List ℕ → List ℕ → List ℕ
common [] m = []
common (x ∷ l) m = cond (has m x) (x ∷ common l m) (common l m)

unfoldable pub other : ℕ → List ℕ → ℕ
other e [] = 0
other e (x ∷ l) = cond (eqb x e) (other e l) x

unfoldable pub between : Listing → ℕ → List ℕ → List ℕ
between L r f = common (sups L (r - 1) (get_or f (r - 1) 0)) (subs L (r + 1) (get_or f (r + 1) 0))

unfoldable pub replaced_at : Listing → ℕ → List ℕ → Replaced
replaced_at L r f = record { taken = get_or f r 0; put = other (get_or f r 0) (between L r f) }

unfoldable pub change_at : Listing → ℕ → List ℕ → List ℕ
change_at L r f = set f r (replaced_at L r f).put

pub record Flanked (L : Listing) (f : List ℕ) (r : ℕ) : Type 0 where
  pub over_lowest : 0 < r
  pub under_highest : r + 1 < length f
  pub lower : get_or f (r - 1) 0 < count L (r - 1)
  pub upper : get_or f (r + 1) 0 < count L (r + 1)

pub record Changes (L : Listing) (f : List ℕ) (r : ℕ) : Type 0 where
  pub stands : In (get_or f r 0) (between L r f)
  pub one_other : OneOther (λ x. In x (between L r f)) (get_or f r 0)
  pub is_flag : IsFlag L (change_at L r f)
  pub changed : ChangedAt r f (change_at L r f)
  pub back : change_at L r (change_at L r f) ≡ f
  pub only : (g : List ℕ) → IsFlag L g → ChangedAt r f g → g ≡ change_at L r f

pub record Replaces (L : Listing) (f : List ℕ) (r : ℕ) (g : List ℕ) (x y : ℕ) : Type 0 where
  pub taken : x ≡ get_or f r 0
  pub put : y ≡ get_or g r 0
  pub two : TheTwo (LiesBetween L (r + 1) (get_or f (r + 1) 0) (get_or f (r - 1) 0)) x y

abbrev pub HasUnder : Listing → ℕ → ℕ → ℕ → Type 0
HasUnder L r x i = (i < count L r) × In x (subs L r i)

unfoldable pub padded : List ℕ → List ℕ
padded f = f ++ replicate (limits.ranks - length f) 0
