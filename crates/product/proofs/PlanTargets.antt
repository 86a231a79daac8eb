-- What the builder is asked to write is the layer_product.
-- Assumes nothing.
use mathlib.Core.Path.{◌≡◌, refl, sym, ap, subst}
use mathlib.Core.Bool.{Bool, true, false}
use mathlib.Core.List.{List}
use Prim.Native.Nat.{ℕ, zero, suc, pred, ◌<◌}
use native.Mathlib.Decide.{dec_lt}
use Rattle.order.specs.Sums.{choose}
use Rattle.order.specs.Pairs.{Pairs}
use Rattle.listing.specs.Listing.{Listing, limits}
use Rattle.listing.specs.Layers.{Layers, layers, order, derived}
use Rattle.listing.specs.Written.{written}
use Rattle.listing.proofs.Written.{written_same}
use Rattle.product_pairs.specs.Sound.{Sound}
use Rattle.product_pairs.specs.Paired.{El, block, offset, position, pair_of, pair_at}
use Rattle.product_pairs.specs.Paired.{left_subs, right_subs, pair_subs, paired}
use Rattle.product_pairs.specs.Grown.{up_to, min_size, min_under, max_size, max_under, add_min, add_max, grown}
use Rattle.product_pairs.specs.Product.{layer_product, product_of}
use Rattle.product_pairs.proofs.Trimmed.{trimmed_sound}
use Rattle.product_pairs.proofs.Positions.{pair_at_exists}
use Rattle.product_pairs.proofs.Product.{product_sound}
use Rattle.product_closure.proofs.Alike.{Alike, alike_derived, alike_exists}
use Rattle.product_closure.proofs.Valid.{valid_sound}
use Rattle.product_element.specs.Pairs.{factor_layers, target}
use Rattle.product_sizes.specs.Sizing.{Usable, factor_of}
use Rattle.product.proofs.PlanFactors.{factor_alike}

-- layers with other lists
abbrev listing_of : Layers → (ℕ → ℕ → List ℕ) → Layers
listing_of M u = record { top = M.top; size = M.size; under = u }

-- the lists of existing elements are the same
abbrev Agree : Layers → (ℕ → ℕ → List ℕ) → Type 0
Agree M u = (r i : ℕ) → i < M.size r → u r i ≡ M.under r i

-- layers alike to others are those with other lists
alike_layers : {M N : Layers} (k : Alike M N) → listing_of M N.under ≡ N
alike_layers {M} {N} k = λ t. record {
  top = sym k.same_top t;
  size = λ r. sym (k.same_size r) t;
  under = N.under;
}

module _ {M N : Layers} (k : Alike M N) where
  alike_sound : Sound M → Sound N
  unfolding Sound
  alike_sound s r b a h m =
      let e = (alike_exists k (r, b)).0 h in
      let z = s r b a e (rw (k.same_under r b e) at m) in
      (z.0, (alike_exists k (pred r, a)).1 z.1)

-- ---- pairs

module _ (A B : Layers) (u v : ℕ → ℕ → List ℕ) (a : Agree A u) (b : Agree B v) where
  pair_subs_agree : (x : El × El) → (Pairs (order A) (order B)).Exists x
      → pair_subs (listing_of A u) (listing_of B v) x ≡ pair_subs A B x
  unfolding left_subs right_subs position offset block
  pair_subs_agree x e = rw (a x.0.0 x.0.1 e.0, b x.1.0 x.1.1 e.1)

  paired_agree : Alike (paired A B) (paired (listing_of A u) (listing_of B v))
  unfolding pair_at pair_of block
  paired_agree = record {
    same_top = refl;
    same_size = λ R. refl;
    same_under = λ R k h. pair_subs_agree (pair_at A B (R, k)) (pair_at_exists A B (R, k) h);
  }

paired_alike : {A B M N : Layers} → Alike A M → Alike B N → Alike (paired A B) (paired M N)
paired_alike {A} {B} {M} {N} a b =
    subst (λ (X : Layers). Alike (paired A B) (paired X N)) (alike_layers a)
    (subst (λ (Y : Layers). Alike (paired A B) (paired (listing_of A M.under) Y)) (alike_layers b)
    (paired_agree A B M.under N.under a.same_under b.same_under))

-- ---- an element more at an end

module _ {M N : Layers} (k : Alike M N) where
  add_min_size : (r : ℕ) → min_size N r ≡ min_size M r
  unfolding min_size
  add_min_size zero = refl
  add_min_size (suc r) = k.same_size r

  add_min_under : (r i : ℕ) → i < min_size M r → min_under N r i ≡ min_under M r i
  unfolding min_size min_under
  add_min_under zero i h = refl
  add_min_under (suc zero) i h = refl
  add_min_under (suc (suc r)) i h = k.same_under (suc r) i h

  add_min_alike : Alike (add_min M) (add_min N)
  add_min_alike = record {
    same_top = ap suc k.same_top;
    same_size = add_min_size;
    same_under = add_min_under;
  }

module _ (M : Layers) (u : ℕ → ℕ → List ℕ) (a : Agree M u) where
  add_max_under : (r i : ℕ) → i < max_size M r → max_under (listing_of M u) r i ≡ max_under M r i
  unfolding max_under max_size choose
  add_max_under r i h = go (dec_lt M.top r) h
    where
      go : (d : Dec (M.top < r)) → i < choose d (choose (dec_lt (suc M.top) r) 0 1) (M.size r)
          → choose d (up_to (M.size M.top)) (u r i) ≡ choose d (up_to (M.size M.top)) (M.under r i)
      go (yes l) h = refl
      go (no l) h = a r i h

  add_max_agree : Alike (add_max M) (add_max (listing_of M u))
  unfolding max_size
  add_max_agree = record { same_top = refl; same_size = λ r. refl; same_under = add_max_under }

add_max_alike : {M N : Layers} → Alike M N → Alike (add_max M) (add_max N)
add_max_alike {M} {N} k =
    subst (λ (X : Layers). Alike (add_max M) (add_max X)) (alike_layers k) (add_max_agree M N.under k.same_under)

grown_alike : (min max : Bool) {M N : Layers} → Alike M N → Alike (grown min max M) (grown min max N)
grown_alike true true k = add_min_alike (add_max_alike k)
grown_alike true false k = add_min_alike k
grown_alike false true k = add_max_alike k
grown_alike false false k = k

-- ---- the layer_product

module _ (min max : Bool) (A B : Listing) (u_a : Usable min max A) (u_b : Usable min max B) where
  abbrev T : Layers
  T = target min max (factor_of min max A) (factor_of min max B)

  target_alike : Alike (layer_product min max (layers A) (layers B)) T
  unfolding layer_product target
  target_alike = grown_alike min max (paired_alike (factor_alike min max A u_a) (factor_alike min max B u_b))

  pub target_written : written T (derived T) ≡ product_of min max A B
  unfolding product_of
  target_written =
      let k = target_alike in
      sym (written_same _ T _ (derived T) (sym k.same_top) (λ r. sym (k.same_size r))
      (λ r i h. sym (k.same_under r i h)) (λ r i h. sym (alike_derived k r i)))

  pub target_sound : Sound T
  target_sound =
      let s_a = valid_sound limits A u_a.valid in
      let s_b = valid_sound limits B u_b.valid in
      alike_sound target_alike (product_sound min max (layers A) (layers B) s_a s_b)

pub factor_sound : (min max : Bool) (L : Listing) → Usable min max L → Sound (factor_layers min (factor_of min max L))
factor_sound min max L u =
    alike_sound (factor_alike min max L u) (trimmed_sound min max (layers L) (valid_sound limits L u.valid))
