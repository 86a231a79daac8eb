-- Structures trimmed and grown, turned over: upside down, what was taken off or added at one end is taken off or added
-- at the other.
-- Assumes nothing.
use mathlib.Core.Path.{◌≡◌, refl}
use mathlib.Core.Logic.{◌↔◌}
use mathlib.Core.Bool.{Bool, true, false}
use Prim.Native.Nat.{ℕ, suc, pred, ◌-◌, ◌≤◌, ◌<◌}
use native.Mathlib.Omega.{arith}
use Rattle.order.specs.Structure.{Order, Ranked, turned, Renumbering}
use Rattle.order.specs.Ends.{Added, end, old, with_min, with_max, without_min, without_max, trim, grow}
use Rattle.order.specs.Ends.{as_trimmed, as_grown, added_min, added_max}
use Rattle.order.proofs.Renumbering.{Renumbering-same, Renumbering-back, Renumbering-then}
use Rattle.order.proofs.Renumbering.{Renumbering-turned, turned-ranked, turned-turned}
use Rattle.order.proofs.Added.{with_min-ranked, with_min-renumbered}
use Rattle.order.proofs.Struck.{without_min-ranked, without_min-renumbered}

-- ---- both ends added

-- The two added ends, one for the other.
abbrev pub crossing : {E : Type 0} → Added (Added E) → Added (Added E)
crossing end = old end
crossing (old end) = end
crossing (old (old x)) = old (old x)

pub crossing_twice : {E : Type 0} (x : Added (Added E)) → crossing (crossing x) ≡ x
crossing_twice end = refl
crossing_twice (old end) = refl
crossing_twice (old (old x)) = refl

-- a rank r of 0 to t is the lowest, or the highest, counted from below and from above, as plain numbers
lowest : (t r : ℕ) → r ≤ t → (suc t - suc (t - r) ≡ 0) ↔ (r ≡ 0)
lowest t r h = (λ e. omega arith, λ e. omega arith)

highest : (t r : ℕ) → (suc t - suc r ≡ 0) ↔ (t - r ≡ 0)
highest t r = (λ e. omega arith, λ e. omega arith)

-- A minimal element added first and a maximal one after it, or the other way round: only the two ends change places.
-- The laws of the renumbering, one by one, and then the renumbering.
module _ {W : Order} (r_w : Ranked W) where
  pub crossing_exists : (x : Added (Added W.Elem)) → (with_max (with_min W)).Exists x
      → (with_min (with_max W)).Exists (crossing x)
  crossing_exists end e = tt
  crossing_exists (old end) e = tt
  crossing_exists (old (old x)) e = e

  pub crossing_exists_back : (x : Added (Added W.Elem)) → (with_min (with_max W)).Exists x
      → (with_max (with_min W)).Exists (crossing x)
  crossing_exists_back end e = tt
  crossing_exists_back (old end) e = tt
  crossing_exists_back (old (old x)) e = e

  pub crossing_under : (x y : Added (Added W.Elem)) → (with_max (with_min W)).Under x y
      → (with_min (with_max W)).Under (crossing x) (crossing y)
  crossing_under end end r = absurd r
  crossing_under end (old y) r = absurd r
  crossing_under (old end) end r = absurd (omega (arith, r.1))
  crossing_under (old end) (old end) r = absurd r
  crossing_under (old end) (old (old y)) r = (r.0, (lowest _ _ (r_w.cap y r.0)).1 r.1)
  crossing_under (old (old x)) end r = (r.0, (highest _ _).0 r.1)
  crossing_under (old (old x)) (old end) r = absurd r
  crossing_under (old (old x)) (old (old y)) r = r

  pub crossing_under_back : (x y : Added (Added W.Elem)) → (with_min (with_max W)).Under x y
      → (with_max (with_min W)).Under (crossing x) (crossing y)
  crossing_under_back end end r = absurd r
  crossing_under_back end (old end) r = absurd (omega (arith, r.1))
  crossing_under_back end (old (old y)) r = (r.0, (lowest _ _ (r_w.cap y r.0)).0 r.1)
  crossing_under_back (old x) end r = absurd r
  crossing_under_back (old end) (old end) r = absurd r
  crossing_under_back (old end) (old (old y)) r = absurd r
  crossing_under_back (old (old x)) (old end) r = (r.0, (highest _ _).1 r.1)
  crossing_under_back (old (old x)) (old (old y)) r = r

  pub crossing_rank : (x : Added (Added W.Elem)) → (with_max (with_min W)).Exists x
      → (with_min (with_max W)).rank (crossing x) ≡ (with_max (with_min W)).rank x
  crossing_rank end e = omega arith
  crossing_rank (old end) e = omega arith
  crossing_rank (old (old x)) e = go W.top (W.rank x) (r_w.cap x e)
    where
      go : (t r : ℕ) → r ≤ t → suc (suc t - suc (t - r)) ≡ suc (suc t) - suc (suc t - suc r)
      go t r h = omega arith

  unfoldable pub with_max-with_min : Renumbering (with_max (with_min W)) (with_min (with_max W))
  with_max-with_min = record {
    to = crossing;
    from = crossing;
    to_exists = crossing_exists;
    from_exists = crossing_exists_back;
    from_to = λ x e. crossing_twice x;
    to_from = λ x e. crossing_twice x;
    to_under = crossing_under;
    from_under = crossing_under_back;
    same_rank = crossing_rank;
    same_top = refl;
  }

unfoldable pub grow-turned : (min max : Bool) {W : Order} → Ranked W
    → Renumbering (turned (grow min max W)) (grow max min (turned W))
grow-turned true true r_w = with_max-with_min (turned-ranked r_w)
grow-turned true false r_w = Renumbering-turned (with_min-renumbered (turned-turned r_w))
grow-turned false true r_w = Renumbering-back (turned-turned (with_min-ranked (turned-ranked r_w)))
grow-turned false false {W} r_w = Renumbering-same (turned W)

-- What it does, by computation: what was there stays, and each added end goes to the other one.
module _ {W : Order} (r_w : Ranked W) where
  pub grow-turned_inside : (min max : Bool) (x : W.Elem)
      → (grow-turned min max r_w).to (as_grown min max W x) ≡ as_grown max min (turned W) x
  unfolding grow-turned with_max-with_min with_min-renumbered turned-turned Renumbering-turned Renumbering-back
      Renumbering-same
  grow-turned_inside true true x = refl
  grow-turned_inside true false x = refl
  grow-turned_inside false true x = refl
  grow-turned_inside false false x = refl

  pub grow-turned_min : (max : Bool) → (grow-turned true max r_w).to (added_min max W) ≡ added_max max (turned W)
  unfolding grow-turned with_max-with_min with_min-renumbered Renumbering-turned
  grow-turned_min true = refl
  grow-turned_min false = refl

  pub grow-turned_max : (min : Bool) → (grow-turned min true r_w).to (added_max min W) ≡ added_min min (turned W)
  unfolding grow-turned with_max-with_min turned-turned Renumbering-back
  grow-turned_max true = refl
  grow-turned_max false = refl

-- ---- both ends taken off

-- a rank r of 0 to t without the ends, counted from below and from above, as plain numbers
under_top : (t r : ℕ) → 0 < r → (0 < pred t - pred r) ↔ (r < t)
under_top t r p = (λ h. omega arith, λ h. omega arith)

from_above : (t r : ℕ) → r < t → pred t - pred (t - r) ≡ r
from_above t r h = omega arith

one_less : (a b : ℕ) → pred a - b ≡ pred (a - b)
one_less a b = omega arith

-- Of the ranks 0 to t without the ends, those from r to s are left: counted from below, and counted from above.
abbrev pub FromBelow : ℕ → ℕ → ℕ → Type 0
FromBelow t r s = (0 < r) × (0 < pred t - pred s)

abbrev pub FromAbove : ℕ → ℕ → ℕ → Type 0
FromAbove t r s = (0 < t - s) × (0 < pred t - pred (t - r))

pub left_ranks : (t r s : ℕ) → r ≤ s → s ≤ t → FromBelow t r s ↔ FromAbove t r s
left_ranks t r s p q = (to, back)
  where
    to : FromBelow t r s → FromAbove t r s
    to h = let k = (under_top t s (omega arith)).0 h.1 in (omega arith, rw (from_above t r (omega arith)) h.0)

    back : FromAbove t r s → FromBelow t r s
    back h =
        let k : 0 < r = rw (from_above t r (omega arith)) at h.1 in
        (k, (under_top t s (omega arith)).1 (omega arith))

pub left_rank : (t r : ℕ) → FromBelow t r r → pred (pred t) - pred (pred t - pred (t - r)) ≡ pred (pred t - pred r)
left_rank t r h = rw (from_above t r ((under_top t r h.0).0 h.1)) (one_less (pred t) (pred r))

-- the last two of three facts, changed together
pub regroup : {P Q R S T : Type 0} → (Q × R → S × T) → (P × Q) × R → (P × S) × T
regroup f e = let k = f (e.0.1, e.1) in ((e.0.0, k.0), k.1)

module _ {W : Order} (r_w : Ranked W) where
  -- the rank of one element, and of two, one directly under the other
  pub left_one : (x : W.Elem) → W.Exists x
      → FromBelow W.top (W.rank x) (W.rank x) ↔ FromAbove W.top (W.rank x) (W.rank x)
  left_one x e = left_ranks _ _ _ (omega arith) (r_w.cap x e)

  pub left_two : (x y : W.Elem) → W.Under x y
      → FromBelow W.top (W.rank x) (W.rank y) ↔ FromAbove W.top (W.rank x) (W.rank y)
  left_two x y r = left_ranks _ _ _ (omega (arith, r_w.step x y r)) (r_w.cap y (r_w.exist x y r).1)

  -- Both ends taken off, and turned over between the two or before both: the same elements are left.
  unfoldable pub without_min-both : Renumbering (without_min (turned (without_min W))) (without_max (without_min (turned W)))
  without_min-both = record {
    to = λ x. x;
    from = λ x. x;
    to_exists = λ x e. regroup (left_one x e.0.0).0 e;
    from_exists = λ x e. regroup (left_one x e.0.0).1 e;
    from_to = λ x e. refl;
    to_from = λ x e. refl;
    to_under = λ x y r. regroup (left_two y x r.0.0).0 r;
    from_under = λ x y r. regroup (left_two y x r.0.0).1 r;
    same_rank = λ x e. left_rank W.top (W.rank x) (e.0.1, e.1);
    same_top = refl;
  }

unfoldable pub trim-turned : (min max : Bool) {W : Order} → Ranked W
    → Renumbering (turned (trim min max W)) (trim max min (turned W))
trim-turned true true r_w =
    let back = Renumbering-back (turned-turned (without_min-ranked (turned-ranked (without_min-ranked r_w)))) in
    Renumbering-then back (without_min-both r_w)
trim-turned true false r_w =
    Renumbering-turned (without_min-renumbered r_w (turned-ranked (turned-ranked r_w)) (turned-turned r_w))
trim-turned false true r_w = Renumbering-back (turned-turned (without_min-ranked (turned-ranked r_w)))
trim-turned false false {W} r_w = Renumbering-same (turned W)

-- It keeps every element.
pub trim-turned_to : (min max : Bool) {W : Order} (r_w : Ranked W) (x : W.Elem)
    → (trim-turned min max r_w).to (as_trimmed min max W x) ≡ as_trimmed max min (turned W) x
unfolding trim-turned without_min-both without_min-renumbered turned-turned Renumbering-turned Renumbering-back
    Renumbering-then Renumbering-same
trim-turned_to true true r_w x = refl
trim-turned_to true false r_w x = refl
trim-turned_to false true r_w x = refl
trim-turned_to false false r_w x = refl
