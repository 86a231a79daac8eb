-- The subs of an element, written in three parts: how many they are, and that the parts make the whole.
-- Assumes nothing.
use mathlib.Core.Path.{◌≡◌, refl, sym}
use mathlib.Core.Bool.{Bool, true, false, cond}
use mathlib.Core.List.{List, [], ◌∷◌, ◌++◌, map}
use Prim.Native.Nat.{ℕ, zero, suc, ◌+◌, ◌*◌, ◌<◌}
use native.Mathlib.Omega.{arith}
use lib.ListN.{length, get_or, length-append, length-map}
use Rattle.order.specs.Lists.{In}
use Rattle.order.proofs.Lists.{in_left, in_right, in_map, get_d_map}
use Rattle.order.proofs.Positions.{in_at}
use Rattle.listing.specs.Listing.{width}
use Rattle.product_pairs.specs.Trimmed.{bit}
use Rattle.listing.specs.Laid.{Laid, LaidList}
use Rattle.product_places.specs.declared.put.Shift.{Shift}
use Rattle.product_places.specs.Places.{subs_of}
use Rattle.listing.proofs.Laying.{laid_list, list_then}

-- a number where it is asked for
abbrev pub when : Bool → ℕ → List ℕ
when b x = cond b (x ∷ []) []

pub when_length : (b : Bool) (x : ℕ) → length (when b x) ≡ bit b
when_length true x = refl
when_length false x = refl

when_at : (b : Bool) (x j : ℕ) → j < bit b → x ≡ get_or (when b x) j 0
when_at true x zero h = refl
when_at true x (suc j) h = absurd (omega arith)
when_at false x j h = absurd (omega arith)

pub when_laid : (b : Bool) (x at : ℕ) (d d' : List ℕ) → Laid at (λ j. x) (bit b) d d' → LaidList at (when b x) d d'
when_laid b x at d d' l = laid_list at d d' (when b x) _ (bit b) (when_length b x) (when_at b x) l

module _ (s : Shift) (left right : List ℕ) where
  abbrev F : ℕ → ℕ
  F x = s.left + x * s.scale

  abbrev G : ℕ → ℕ
  G y = s.right + y * 1

  pub subs_length : length (subs_of s left right) ≡ bit s.low + length left + length right
  unfolding subs_of
  subs_length =
      omega (
        arith,
        length-append (when s.low 0) (map F left ++ map G right),
        length-append (map F left) (map G right),
        when_length s.low 0,
        length-map left F,
        length-map right G,
      )

  -- all numbers are small: so are those of each part
  module _ (small : (x : ℕ) → In x (subs_of s left right) → x < width) where
    pub left_small : (j : ℕ) → j < length left → s.left + get_or left j 0 * s.scale < width
    unfolding subs_of
    left_small j h =
        let m = in_left _ (map F left) (map G right) (in_map F _ left (in_at left j h)) in
        small _ (in_right _ (when s.low 0) _ m)

    pub right_small : (j : ℕ) → j < length right → s.right + get_or right j 0 * 1 < width
    unfolding subs_of
    right_small j h =
        let m = in_right _ (map F left) (map G right) (in_map G _ right (in_at right j h)) in
        small _ (in_right _ (when s.low 0) _ m)

  -- the three parts, one behind another
  pub subs_laid : (at a b : ℕ) (d d₁ d₂ d₃ : List ℕ) → a ≡ at + bit s.low → b ≡ a + length left
      → Laid at (λ j. 0) (bit s.low) d d₁ → Laid a (λ j. F (get_or left j 0)) (length left) d₁ d₂
      → Laid b (λ j. G (get_or right j 0)) (length right) d₂ d₃
      → LaidList at (subs_of s left right) d d₃
  unfolding subs_of
  subs_laid at a b d d₁ d₂ d₃ p q l₁ l₂ l₃ =
      let a' : a ≡ at + length (when s.low 0) = omega (arith, when_length s.low 0) in
      let b' : b ≡ a + length (map F left) = omega (arith, length-map left F) in
      let k₂ : LaidList a (map F left) d₁ d₂ =
      laid_list a d₁ d₂ (map F left) _ _ (length-map left F) (λ j h. sym (get_d_map F left j h)) l₂ in
      let k₃ : LaidList b (map G right) d₂ d₃ =
      laid_list b d₂ d₃ (map G right) _ _ (length-map right G) (λ j h. sym (get_d_map G right j h)) l₃ in
      list_then at d d₁ (when s.low 0) (map F left ++ map G right) d₃ (when_laid s.low 0 at d d₁ l₁)
      (rw a' at (list_then a d₁ d₂ (map F left) (map G right) d₃ k₂ (rw b' at k₃)))
