-- The counts of the product, written in three parts.
-- Assumes nothing.
use mathlib.Core.Path.{◌≡◌, sym, ◌∙◌}
use mathlib.Core.Bool.{Bool}
use mathlib.Core.List.{List, ◌++◌}
use Prim.Native.Nat.{ℕ, suc, ◌+◌, ◌-◌, ◌<◌}
use native.Mathlib.Omega.{arith}
use lib.ListN.{length, length-append}
use Rattle.listing.specs.Layers.{derived}
use Rattle.listing.specs.Written.{tabulated, written}
use Rattle.listing.proofs.Written.{tabulated_length, tabulated_at}
use Rattle.product_pairs.specs.Trimmed.{bit}
use Rattle.product_pairs.specs.Paired.{paired}
use Rattle.listing.specs.Listing.{Listing}
use Rattle.product_element.specs.Pairs.{factor_layers, target}
use Rattle.listing.specs.Laid.{Laid, LaidList}
use Rattle.product_places.specs.Places.{pairs_in}
use Rattle.product_building.specs.Built.{counts_of}
use Rattle.listing.proofs.Laying.{laid_list, list_then}
use Rattle.product_places.proofs.Parts.{when, when_length, when_laid}
use Rattle.product_writing.proofs.Sizes.{grown_table}
use Rattle.product_writing.proofs.Target.{pairs_table}

module _ (min max : Bool) (p q : List ℕ) where
  abbrev sizes : ℕ → ℕ
  sizes r = pairs_in p q r (suc r)

  abbrev n : ℕ
  n = length p + length q - 1

  pub counts_length : length (counts_of min max p q) ≡ bit min + n + bit max
  unfolding counts_of
  counts_length =
      omega (
        arith,
        length-append (when min 1) (tabulated sizes n ++ when max 1),
        length-append (tabulated sizes n) (when max 1),
        when_length min 1,
        tabulated_length sizes n,
        when_length max 1,
      )

  pub counts_laid : (a b : ℕ) (d d₁ d₂ d₃ : List ℕ) → a ≡ 0 + bit min → b ≡ a + n → Laid 0 (λ j. 1) (bit min) d d₁
      → Laid a sizes n d₁ d₂ → Laid b (λ j. 1) (bit max) d₂ d₃ → LaidList 0 (counts_of min max p q) d d₃
  unfolding counts_of
  counts_laid a b d d₁ d₂ d₃ ea eb l₁ l₂ l₃ =
      let a' : a ≡ 0 + length (when min 1) = omega (arith, when_length min 1) in
      let b' : b ≡ a + length (tabulated sizes n) = omega (arith, tabulated_length sizes n) in
      let k₂ : LaidList a (tabulated sizes n) d₁ d₂ =
      laid_list a d₁ d₂ (tabulated sizes n) _ n (tabulated_length sizes n) (λ j h. sym (tabulated_at sizes n j h)) l₂ in
      let k₃ : LaidList b (when max 1) d₂ d₃ = when_laid max 1 b d₂ d₃ l₃ in
      list_then 0 d d₁ (when min 1) (tabulated sizes n ++ when max 1) d₃ (when_laid min 1 0 d d₁ l₁)
      (rw a' at (list_then a d₁ d₂ (tabulated sizes n) (when max 1) d₃ k₂ (rw b' at k₃)))

-- they are the counts of its layers
pub target_counts : (P Q : Listing) → 0 < length P.counts → 0 < length Q.counts → (min max : Bool)
    → (written (target min max P Q) (derived (target min max P Q))).counts ≡ counts_of min max P.counts Q.counts
unfolding target written counts_of
target_counts P Q hp hq min max =
    grown_table min max (paired (factor_layers min P) (factor_layers min Q)) ∙ rw (pairs_table P Q hp hq min)
