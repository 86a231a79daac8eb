-- What the builder stands on holds of two usable factors whose product is within the limits and the room.
-- Assumes nothing.
use mathlib.Core.Path.{◌≡◌, sym, ap, ◌∙◌}
use mathlib.Core.Bool.{Bool}
use Prim.Native.Nat.{ℕ, suc, ◌*◌, ◌≤◌, ◌<◌}
use native.Mathlib.Omega.{arith}
use lib.ListN.{length}
use Rattle.order.specs.Lists.{In}
use Rattle.order.specs.Sums.{sum}
use Rattle.listing.specs.Listing.{Listing, limits}
use Rattle.listing.specs.Shape.{elements}
use Rattle.listing.specs.Layers.{Layers, derived}
use Rattle.listing.specs.Written.{written}
use Rattle.listing.proofs.ShapeExact.{shaped_ends}
use Rattle.listing.proofs.Written.{joined_length, written_elements, written_ends_length}
use Rattle.product_pairs.specs.Product.{product_of}
use Rattle.product_places.specs.declared.Poles.{Poles}
use Rattle.listing_sups.specs.Filling.{starts}
use Rattle.product_element.specs.Pairs.{target, lists_of, size_of, Plan}
use Rattle.product_building.specs.Built.{product_listing}
use Rattle.product_writing.proofs.Target.{target_size, target_topped}
use Rattle.product_sizes.specs.Sizing.{Usable, factor_of}
use Rattle.product_sizes.proofs.Parts.{usable_shaped, in_use_length}
use Rattle.product_sizes.proofs.Tested.{Passed}
use Rattle.product_sizes.proofs.Extents.{in_use_few}
use Rattle.product.proofs.PlanTargets.{target_written, target_sound, factor_sound}
use Rattle.product.proofs.PlanLists.{pair_under, pair_over}
use Rattle.product.proofs.PlanIndices.{all_few}
use Rattle.product.proofs.PlanPast.{highest_past}

module _ (min max : Bool) (A B : Listing) (u_a : Usable min max A) (u_b : Usable min max B) where
  abbrev P : Listing
  P = factor_of min max A

  abbrev Q : Listing
  Q = factor_of min max B

  abbrev T : Layers
  T = target min max P Q

  abbrev R : Listing
  R = product_of min max A B

  abbrev n : ℕ
  n = size_of min max P.counts Q.counts

  -- ---- sizes

  some_p : 0 < length P.counts
  some_p = omega (arith, in_use_length min max A u_a)

  some_q : 0 < length Q.counts
  some_q = omega (arith, in_use_length min max B u_b)

  size_t : sum T.size (suc T.top) ≡ n
  size_t = target_size P Q some_p some_q min max

  size_r : elements R ≡ n
  size_r =
      ap elements' (sym (target_written min max A B u_a u_b))
      ∙ written_elements T (derived T) (target_topped min max P Q) ∙ size_t
    where
      elements' : Listing → ℕ
      elements' L = elements L

  ends_r : length R.ends ≡ 2 * n
  ends_r =
      ap (λ (L : Listing). length L.ends) (sym (target_written min max A B u_a u_b))
      ∙ written_ends_length T (derived T) ∙ ap (λ k. 2 * k) size_t

  inc_r : length R.inc ≡ starts (lists_of min max P Q) (2 * n)
  unfolding written lists_of
  inc_r =
      ap (λ (L : Listing). length L.inc) (sym (target_written min max A B u_a u_b))
      ∙ joined_length (lists_of min max P Q) (2 * sum T.size (suc T.top))
      ∙ ap (λ k. starts (lists_of min max P Q) (2 * k)) size_t

  -- ---- the plan

  module _ (few : elements R ≤ limits.elements) where
    small : (t x : ℕ) → In x (lists_of min max P Q t) → x < limits.elements
    unfolding lists_of
    small =
        let t = target_topped min max P Q in
        let h : sum T.size (suc T.top) ≤ limits.elements = omega (arith, size_t, size_r) in
        all_few T t (target_sound min max A B u_a u_b) limits.elements h (highest_past min max A B u_a u_b t h)

    planned : length R.inc ≤ limits.incidences → (re ri : ℕ) → length R.ends ≤ re → length R.inc ≤ ri
        → Plan min max P Q re ri
    planned few-inc re ri room_ends room_inc =
        let a = usable_shaped min max A u_a in
        let b = usable_shaped min max B u_b in
        let f_a = in_use_few min max A u_a in
        let f_b = in_use_few min max B u_b in
        record {
          lists_p = shaped_ends A a;
          lists_q = shaped_ends B b;
          ends_p = omega (arith, f_a, a.two_ends_each);
          ends_q = omega (arith, f_b, b.two_ends_each);
          ranks_p = (some_p, omega (arith, in_use_length min max A u_a, a.few_ranks));
          ranks_q = (some_q, omega (arith, in_use_length min max B u_b, b.few_ranks));
          few_p = omega (arith, f_a, a.few_elements);
          few_q = omega (arith, f_b, b.few_elements);
          under = pair_under min max P Q;
          over = λ i a j b ha hb.
              pair_over min max P Q i a j b ha hb (factor_sound min max A u_a) (factor_sound min max B u_b);
          small = small;
          elements = omega (arith, size_r);
          room_for_ends = omega (arith, ends_r);
          room_for_inc = omega (arith, inc_r);
          incidences = omega (arith, inc_r);
        }

-- ---- the same, of the factors X and Y that the code has in hand, where the sizes pass

module _ {poles : Poles} {A B X Y : Listing} (u_a : Usable poles.min poles.max A) (u_b : Usable poles.min poles.max B)
    (ex : X ≡ factor_of poles.min poles.max A) (ey : Y ≡ factor_of poles.min poles.max B) where
  abbrev R' : Listing
  R' = product_of poles.min poles.max A B

  pub built_is : product_listing poles X Y ≡ R'
  built_is = rw (ex, ey) (target_written poles.min poles.max A B u_a u_b)

  pub build_plan : {c e i : ℕ} → Passed limits R' c e i → Plan poles.min poles.max X Y e i
  build_plan {e = e} {i = i} h =
      rw (ex, ey)
      (planned poles.min poles.max A B u_a u_b h.few_elements h.few_incidences e i h.room_ends h.room_inc)

  pub build_room : {c e i : ℕ} → Passed limits R' c e i → length (product_listing poles X Y).counts ≤ c
  build_room h = rw built_is h.room_counts
