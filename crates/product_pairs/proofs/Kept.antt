-- What is left of a structure when it is trimmed, in plain ranks.
-- Assumes nothing.
use mathlib.Core.Path.{◌≡◌, refl, ◌∙◌}
use mathlib.Core.Logic.{◌↔◌}
use mathlib.Core.Bool.{Bool, true, false}
use Prim.Native.Nat.{ℕ, pred, ◌+◌, ◌-◌, ◌≤◌, ◌<◌}
use native.Mathlib.Omega.{arith}
use Rattle.order.specs.Structure.{Order, Ranked}
use Rattle.order.specs.Ends.{trim, as_trimmed}
use Rattle.product_pairs.specs.Trimmed.{bit}

-- An element that is left, as one of the whole structure: kept, undone.
abbrev pub whole : (min max : Bool) (W : Order) → (trim min max W).Elem → W.Elem
whole true true W x = x
whole true false W x = x
whole false true W x = x
whole false false W x = x

pub kept_whole : (min max : Bool) (W : Order) (x : (trim min max W).Elem) → as_trimmed min max W (whole min max W x) ≡ x
kept_whole true true W x = refl
kept_whole true false W x = refl
kept_whole false true W x = refl
kept_whole false false W x = refl

pub whole_kept : (min max : Bool) (W : Order) (x : W.Elem) → whole min max W (as_trimmed min max W x) ≡ x
whole_kept true true W x = refl
whole_kept true false W x = refl
whole_kept false true W x = refl
whole_kept false false W x = refl

-- a rank r, and the top t, where the ends are taken off, as plain numbers
top_off : (t r : ℕ) → (0 < t - r) ↔ (r + 1 ≤ t)
top_off t r = (λ h. omega arith, λ h. omega arith)

both_off : (t r : ℕ) → 0 < r → (0 < pred t - pred r) ↔ (r + 1 ≤ t)
both_off t r p = (λ h. omega arith, λ h. omega arith)

from_above : (t r : ℕ) → 0 < t - r → pred t - pred (t - r) ≡ r - 0
from_above t r h = omega arith

lower_from_above : (t r : ℕ) → 0 < pred t - pred r → pred (pred t) - pred (pred t - pred r) ≡ r - 1
lower_from_above t r h = from_above (pred t) (pred r) h ∙ omega arith

lower : (r : ℕ) → pred r ≡ r - 1
lower r = omega arith

tops : (t : ℕ) → (pred (pred t) ≡ t - 1 - 1) × (pred t ≡ t - 1 - 0) × (pred t ≡ t - 0 - 1) × (t ≡ t - 0 - 0)
tops t = (omega arith, omega arith, omega arith, omega arith)

pub kept_top : (min max : Bool) (W : Order) → (trim min max W).top ≡ W.top - bit min - bit max
kept_top true true W = (tops _).0
kept_top true false W = (tops _).1
kept_top false true W = (tops _).2
kept_top false false W = (tops _).3

module _ {W : Order} (r_w : Ranked W) where
  pub kept_exists : (min max : Bool) (x : W.Elem) → (trim min max W).Exists (as_trimmed min max W x)
      ↔ (W.Exists x × (bit min ≤ W.rank x) × (W.rank x + bit max ≤ W.top))
  kept_exists true true x = (
    λ e. (e.0.0, e.0.1, (both_off _ _ e.0.1).0 e.1),
    λ e. ((e.0, e.1), (both_off _ _ e.1).1 e.2),
  )
  kept_exists true false x = (λ e. (e.0, e.1, omega (arith, r_w.cap x e.0)), λ e. (e.0, e.1))
  kept_exists false true x = (λ e. (e.0, omega arith, (top_off _ _).0 e.1), λ e. (e.0, (top_off _ _).1 e.2))
  kept_exists false false x = (λ e. (e, omega arith, omega (arith, r_w.cap x e)), λ e. e.0)

  pub kept_rank : (min max : Bool) (x : W.Elem) → (trim min max W).Exists (as_trimmed min max W x)
      → (trim min max W).rank (as_trimmed min max W x) ≡ W.rank x - bit min
  kept_rank true true x e = lower_from_above W.top (W.rank x) e.1
  kept_rank true false x e = lower _
  kept_rank false true x e = from_above _ _ e.1
  kept_rank false false x e = omega arith

  above : (x y : W.Elem) → W.Under x y → 0 < W.rank y
  above x y u = omega (arith, r_w.step x y u)

  capped : (x y : W.Elem) → W.Under x y → W.rank y + 0 ≤ W.top
  capped x y u = omega (arith, r_w.cap y (r_w.exist x y u).1)

  pub kept_under : (min max : Bool) (x y : W.Elem)
      → (trim min max W).Under (as_trimmed min max W x) (as_trimmed min max W y)
      ↔ (W.Under x y × (bit min ≤ W.rank x) × (W.rank y + bit max ≤ W.top))
  kept_under true true x y = (
    λ u. (u.0.0, u.0.1, (both_off _ _ (above x y u.0.0)).0 u.1),
    λ u. ((u.0, u.1), (both_off _ _ (above x y u.0)).1 u.2),
  )
  kept_under true false x y = (λ u. (u.0, u.1, capped x y u.0), λ u. (u.0, u.1))
  kept_under false true x y = (λ u. (u.0, omega arith, (top_off _ _).0 u.1), λ u. (u.0, (top_off _ _).1 u.2))
  kept_under false false x y = (λ u. (u, omega arith, capped x y u), λ u. u.0)
