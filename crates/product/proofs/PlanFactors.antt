-- A factor as the builder is given it says what the layers in use say.
-- Assumes nothing.
use mathlib.Core.Path.{◌≡◌, refl, ◌∙◌}
use mathlib.Core.Bool.{Bool}
use Prim.Native.Nat.{ℕ, zero, suc, ◌<◌}
use native.Mathlib.Omega.{arith}
use borrow.Author.Tests.{ne_eqb}
use Rattle.listing.specs.Listing.{Listing, count}
use Rattle.listing.specs.Layers.{layers, derived}
use Rattle.listing.proofs.Layers.{gather_same}
use Rattle.listing_sups.specs.Sups.{subs_from, layers_from}
use Rattle.product_pairs.specs.Trimmed.{bit, trim_size, trim_under, trimmed}
use Rattle.product_closure.proofs.Alike.{Alike}
use Rattle.product_sizes.specs.Sizing.{Usable, factor_of}
use Rattle.product_sizes.proofs.Parts.{in_use_length, in_use_size, in_use_subs}
use Rattle.product_element.specs.Pairs.{subs_in_use, factor_layers}

-- above the lowest rank in use an element's subs in use are its list
pub subs_above : (min : Bool) (P : Listing) (i a : ℕ) → subs_in_use min P (suc i) a ≡ subs_from (bit min) P (suc i) a
unfolding subs_in_use
subs_above min P i a = rw (ne_eqb (suc i) 0 (λ z. omega arith))

-- so the sups that are derived are those of all lists
pub factor_derived : (min : Bool) (P : Listing) (i a : ℕ)
    → derived (factor_layers min P) i a ≡ derived (layers_from (bit min) P) i a
unfolding derived
factor_derived min P i a = gather_same _ _ a (count P (suc i)) (λ k h. subs_above min P i k)

module _ (min max : Bool) (L : Listing) (u : Usable min max L) where
  factor_under : (i a : ℕ) → a < trim_size min max (layers L) i
      → subs_in_use min (factor_of min max L) i a ≡ trim_under min (layers L) i a
  unfolding subs_in_use trim_under
  factor_under zero a h = refl
  factor_under (suc i) a h = subs_above min (factor_of min max L) i a ∙ in_use_subs min max L u i a h

  pub factor_alike : Alike (trimmed min max (layers L)) (factor_layers min (factor_of min max L))
  factor_alike = record {
    same_top = omega (arith, in_use_length min max L u);
    same_size = in_use_size min max L u;
    same_under = factor_under;
  }
