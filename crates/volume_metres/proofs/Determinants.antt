-- The determinant of three places: two exchanged, and all moved.
-- Assumes nothing.
use Rattle.std.proofs.Common.{◌≡◌, ℤ, pos, ◌+ℤ◌, ◌-ℤ◌, ◌*ℤ◌, neg_ℤ, sym, ap, ◌∙◌, ap₂}
use lib.IntN.{+ℤ_assoc, +ℤ_comm, +ℤ_idr, +ℤ_invr}
use lib.IntN.{*ℤ_comm, zero-*ℤ, neg_ℤ-+ℤ, neg_ℤ-neg_ℤ}
use Rattle.order.proofs.Integers.{mul_neg, +ℤ-*ℤ, *ℤ-+ℤ, +ℤ-left, *ℤ-left, plus_neg}
use Rattle.volume_metres.specs.Points.{Site, det, moved}

-- ---- a determinant's three terms: a coordinate times a minor

abbrev term : ℤ → ℤ → ℤ → ℤ → ℤ → ℤ
term k p q r s = k *ℤ (p *ℤ s -ℤ q *ℤ r)

module _ (a b c : Site) where
  abbrev first : ℤ
  first = term a.x b.y b.z c.y c.z

  abbrev second : ℤ
  second = term a.y b.x b.z c.x c.z

  abbrev third : ℤ
  third = term a.z b.x b.y c.x c.y

-- ---- two places exchanged

sub_swap : (x y : ℤ) → neg_ℤ (x -ℤ y) ≡ y -ℤ x
sub_swap x y = neg_ℤ-+ℤ x (neg_ℤ y) ∙ ap (λ z. neg_ℤ x +ℤ z) (neg_ℤ-neg_ℤ y) ∙ +ℤ_comm (neg_ℤ x) y

term_swap : (k p q r s : ℤ) → term k r s p q ≡ neg_ℤ (term k p q r s)
term_swap k p q r s =
    ap (λ m. k *ℤ m) (ap₂ ◌-ℤ◌ (*ℤ_comm r q) (*ℤ_comm s p) ∙ sym (sub_swap (p *ℤ s) (q *ℤ r)))
    ∙ mul_neg k (p *ℤ s -ℤ q *ℤ r)

neg_three : (x y z : ℤ) → neg_ℤ x -ℤ neg_ℤ y +ℤ neg_ℤ z ≡ neg_ℤ (x -ℤ y +ℤ z)
neg_three x y z = sym (neg_ℤ-+ℤ (x -ℤ y) z ∙ ap (λ w. w +ℤ neg_ℤ z) (neg_ℤ-+ℤ x (neg_ℤ y)))

pub det_swap : (a b c : Site) → det a c b ≡ neg_ℤ (det a b c)
unfolding det
det_swap a b c =
    rw (
      term_swap a.x b.y b.z c.y c.z,
      term_swap a.y b.x b.z c.x c.z,
      term_swap a.z b.x b.y c.x c.y,
    )
    (neg_three (first a b c) (second a b c) (third a b c))

-- ---- a place that is a sum

det_first : (t a b c : Site) → det (moved t a) b c ≡ det a b c +ℤ det t b c
unfolding det
det_first t a b c = simp (+ℤ-*ℤ, *ℤ-+ℤ, neg_ℤ-+ℤ, mul_neg, +ℤ_assoc, +ℤ_comm, +ℤ-left)

det_second : (t a b c : Site) → det a (moved t b) c ≡ det a b c +ℤ det a t c
unfolding det
det_second t a b c = simp (+ℤ-*ℤ, *ℤ-+ℤ, neg_ℤ-+ℤ, mul_neg, +ℤ_assoc, +ℤ_comm, +ℤ-left)

det_third : (t a b c : Site) → det a b (moved t c) ≡ det a b c +ℤ det a b t
unfolding det
det_third t a b c = simp (*ℤ-+ℤ, neg_ℤ-+ℤ, mul_neg, +ℤ_assoc, +ℤ_comm, +ℤ-left)

-- ---- a place that stands twice

twice_last : (a b : Site) → det a b b ≡ pos 0
unfolding det
twice_last a b = simp (*ℤ_comm, +ℤ_invr, zero-*ℤ, +ℤ_idr)

twice_first : (t c : Site) → det t t c ≡ pos 0
unfolding det
twice_first t c =
    simp (*ℤ-+ℤ, neg_ℤ-+ℤ, mul_neg, neg_ℤ-neg_ℤ, *ℤ_comm, *ℤ-left, plus_neg, +ℤ_assoc, +ℤ-left, +ℤ_invr)

twice_outer : (t b : Site) → det t b t ≡ pos 0
twice_outer t b = sym (neg_ℤ-neg_ℤ (det t b t)) ∙ ap neg_ℤ (sym (det_swap t b t) ∙ twice_first t b)

-- ---- all three places moved

pub det_moved : (t a b c : Site)
    → det (moved t a) (moved t b) (moved t c) ≡ det a b c +ℤ (det a b t +ℤ (det a t c +ℤ det t b c))
det_moved t a b c =
    rw (
      det_first t a (moved t b) (moved t c),
      det_second t a b (moved t c),
      det_second t t b (moved t c),
      det_third t a b c,
      det_third t a t c,
      det_third t t b c,
      twice_last a t,
      twice_outer t b,
      twice_first t (moved t c),
    )
    (simp (+ℤ_idr, +ℤ_assoc))
