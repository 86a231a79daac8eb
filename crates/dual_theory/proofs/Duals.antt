-- What the dual of a listing says; the dual of a dual is the listing; and no other listing is the dual.
-- Assumes nothing.
use mathlib.Core.Path.{◌≡◌, sym, ap, ◌∙◌}
use Prim.Native.Nat.{ℕ, ◌-◌, ◌≤◌, ◌<◌}
use native.Mathlib.Decide.{dec_lt}
use native.Mathlib.Omega.{arith}
use Rattle.listing.specs.Listing.{Listing, Limits, rank, count, subs, sups}
use Rattle.listing.specs.Shape.{Shaped}
use Rattle.listing.specs.Layers.{Topped, layers}
use Rattle.listing.proofs.Layers.{layers_topped, in_range}
use Rattle.listing.proofs.Written.{written_rank, written_count, written_subs, written_sups, written_same}
use Rattle.listing.proofs.Own.{written_own}
use Rattle.dual_theory.specs.Dual.{Dual, dual_layers, dual_over, dual_of}
use Rattle.dual_theory.proofs.DualLists.{dual_size_lem, dual_topped}

-- a rank turned over twice
pub twice : (t r : ℕ) → r ≤ t → t - (t - r) ≡ r
twice t r h = omega arith

module _ (L : Listing) where
  -- an element is of a rank up to the highest
  pub there : (r i : ℕ) → i < count L r → r ≤ rank L
  there r i h = in_range (layers L) (layers_topped L) r i h

  pub dual_is : Dual L (dual_of L)
  unfolding dual_of
  dual_is = record {
    ranks = written_rank (dual_layers L) (dual_over L);
    sizes = λ r h. written_count (dual_layers L) (dual_over L) (dual_topped L) r ∙ dual_size_lem L r h;
    under = λ r i h l. written_subs (dual_layers L) (dual_over L) (dual_topped L) r i (rw (dual_size_lem L r h) l);
    above = λ r i h l. written_sups (dual_layers L) (dual_over L) (dual_topped L) r i (rw (dual_size_lem L r h) l);
  }

-- The listing is the dual of its dual.
module _ {L D : Listing} (d : Dual L D) where
  -- the opposite rank of the opposite rank
  again : (r : ℕ) → r ≤ rank D → rank L - (rank D - r) ≡ r
  again r h = rw d.ranks (twice (rank L) r (rw d.ranks at h))

  size_back : (r : ℕ) → r ≤ rank D → count L r ≡ count D (rank D - r)
  size_back r h = sym (d.sizes (rank D - r) (omega (arith, d.ranks)) ∙ ap (count L) (again r h))

  pub Dual-back : Dual D L
  Dual-back = record {
    ranks = sym d.ranks;
    sizes = size_back;
    under = λ r i h l.
        sym (d.above (rank D - r) i (omega (arith, d.ranks)) (rw (again r h, size_back r h) l)
        ∙ ap (λ (s : ℕ). subs L s i) (again r h));
    above = λ r i h l.
        sym (d.under (rank D - r) i (omega (arith, d.ranks)) (rw (again r h, size_back r h) l)
        ∙ ap (λ (s : ℕ). sups L s i) (again r h));
  }

-- Two duals of one listing are the same, number by number.
module _ {m : Limits} {L D E : Listing} (s_d : Shaped m D) (s_e : Shaped m E) (d : Dual L D) (e : Dual L E) where
  same_size : (r : ℕ) → count D r ≡ count E r
  unfolding Topped
  same_size r = go (dec_lt (rank L) r)
    where
      go : Dec (rank L < r) → count D r ≡ count E r
      go (yes h) =
          layers_topped D r (omega (arith, d.ranks)) ∙ sym (layers_topped E r (omega (arith, e.ranks)))
      go (no h) = d.sizes r (omega arith) ∙ sym (e.sizes r (omega arith))

  module _ (r i : ℕ) (h : i < count D r) where
    low : r ≤ rank L
    low = omega (arith, there D r i h, d.ranks)

    across : i < count L (rank L - r)
    across = rw (d.sizes r low) at h

    same_under : subs D r i ≡ subs E r i
    same_under = d.under r i low across ∙ sym (e.under r i low across)

    same_above : sups D r i ≡ sups E r i
    same_above = d.above r i low across ∙ sym (e.above r i low across)

  pub one_dual : D ≡ E
  one_dual =
      sym (written_own D s_d)
      ∙ written_same (layers D) (layers E) (λ r i. sups D r i) (λ r i. sups E r i) (d.ranks ∙ sym e.ranks)
      same_size same_under same_above
      ∙ written_own E s_e
