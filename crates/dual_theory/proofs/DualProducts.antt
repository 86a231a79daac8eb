-- The dual of a product is the product of the duals, with the ends that are left out and added changed over: duoprism
-- and duotegum go to one another, duopyramid and duocomb to themselves.
-- Assumes nothing.
use mathlib.Core.Path.{◌≡◌, refl, sym, ap, ◌∙◌}
use mathlib.Core.Bool.{Bool, true, false, ◌||◌, true≢false}
use Prim.Native.Nat.{ℕ, ◌-◌, ◌≤◌, ◌<◌}
use native.Mathlib.Omega.{arith}
use lib.Dec.{T, eqb}
use Rattle.order.specs.Sums.{sum}
use Rattle.order.specs.Structure.{turned, Renumbering}
use Rattle.order.specs.Pairs.{swap}
use Rattle.order.specs.Ends.{need}
use Rattle.order.proofs.Pairs.{pair_path}
use Rattle.order.proofs.Renumbering.{Renumbering-same, Renumbering-back, Renumbering-then, Renumbering-turned}
use Rattle.listing.specs.Listing.{Listing, Limits, rank, before, entries, subs, sups}
use Rattle.listing.specs.Shape.{Shaped}
use Rattle.listing.specs.Layers.{layers, order}
use Rattle.listing.specs.Cells.{nullitope}
use Rattle.listing.proofs.Layers.{layers_topped}
use Rattle.valid_incidence.specs.Incidence.{Incident}
use Rattle.valid.specs.Closed.{Closed}
use Rattle.product_pairs.specs.Sound.{Sound}
use Rattle.product_pairs.specs.Paired.{El}
use Rattle.product_pairs.specs.Product.{product_of}
use Rattle.product_pairs.proofs.ProductTurned.{product_turned, product_turned_pair}
use Rattle.product_pairs.proofs.ProductTurned.{product_turned_min, product_turned_max}
use Rattle.product_pairs.proofs.Listings.{product_layers}
use Rattle.product_closure.specs.Result.{first_factor, second_factor, null_case, result_of}
use Rattle.product_closure.specs.Pairs.{Inner, InnerPair, place_of}
use Rattle.product_closure.proofs.Cells.{incident_sound}
use Rattle.product_closure.proofs.Pairs.{product_of_swapped, place_used}
use Rattle.product_closure.proofs.Alike.{alike_renumbered, alike_order, product_of_alike}
use Rattle.product_closure.proofs.Results.{result_product, result_null, not_null}
use Rattle.dual_theory.specs.Dual.{dual_el, Dual}
use Rattle.dual_theory.specs.TurnedOver.{in_order, place_in, TurnedOver}
use Rattle.dual_theory.proofs.Duals.{twice, one_dual}
use Rattle.dual_theory.proofs.DualClosed.{dual_there, dual_order, dual_incident}

-- ---- pairs in use

-- the dual of an element in use is in use where the ends are exchanged
dual_inner : (min max : Bool) {A C : Listing} → Dual A C → (x : El) → Inner min max A x
    → Inner max min C (dual_el (rank A) x)
dual_inner min max d x u =
    (dual_there d x.0 x.1 u.0, omega (arith, u.2), omega (arith, u.1, u.2, d.ranks))

-- where there is a pair in use, the factors are high enough
need_used : (min max : Bool) (A : Listing) (x : El) → Inner min max A x → need min max ≤ rank A
need_used true true A x u = omega (arith, u)
need_used true false A x u = omega (arith, u)
need_used false true A x u = omega (arith, u)
need_used false false A x u = omega arith

-- ---- factors in their order

-- G and H are the duals of the first and the second factor, D that of their product.
record Duals (min max : Bool) (F S G H D : Listing) : Type 0 where
  first : Dual F G
  second : Dual S H
  both : Dual (product_of min max F S) D
  first_incident : Incident F
  second_incident : Incident S
  both_incident : Incident (product_of min max F S)

all_duals : {min max : Bool} {F S G H D : Listing} → Dual F G → Dual S H → Incident F → Incident S
    → Dual (product_of min max F S) D → Incident (product_of min max F S) → Duals min max F S G H D
all_duals f s i_f i_s r i_r = record {
  first = f;
  second = s;
  both = r;
  first_incident = i_f;
  second_incident = i_s;
  both_incident = i_r;
}

module _ (min max : Bool) {F S G H D : Listing} (k : Duals min max F S G H D) where
  sound_first : Sound (layers F)
  sound_first = incident_sound F k.first_incident

  sound_second : Sound (layers S)
  sound_second = incident_sound S k.second_incident

  sound_duals : Sound (layers G) × Sound (layers H)
  sound_duals = (
    incident_sound G (dual_incident k.first k.first_incident),
    incident_sound H (dual_incident k.second k.second_incident),
  )

  turned_first : Renumbering (turned (order (layers F))) (order (layers G))
  turned_first = dual_order k.first k.first_incident

  turned_second : Renumbering (turned (order (layers S))) (order (layers H))
  turned_second = dual_order k.second k.second_incident

  turning : Renumbering (turned (order (product_layers min max F S))) (order (product_layers max min G H))
  turning =
      product_turned (layers F) (layers S) (layers G) (layers H) (layers_topped F) (layers_topped S) (layers_topped G)
      (layers_topped H) sound_first sound_second sound_duals.0 sound_duals.1 turned_first turned_second min max

  carrying : Renumbering (order (layers D)) (order (layers (product_of max min G H)))
  carrying =
      Renumbering-then (Renumbering-back (dual_order k.both k.both_incident))
      (Renumbering-then (Renumbering-turned (Renumbering-back (alike_order (product_of_alike min max F S))))
      (Renumbering-then turning (alike_order (product_of_alike max min G H))))

  -- what it does with an element of the product, as one of the dual
  carry_of : (y : El) → y.0 ≤ rank (product_of min max F S) → carrying.to (dual_el (rank D) y) ≡ turning.to y
  unfolding carrying Renumbering-then Renumbering-back Renumbering-turned Renumbering-same dual_order alike_order
      alike_renumbered
  carry_of y h =
      let t = rank (product_of min max F S) in
      let e : t - (rank D - y.0) ≡ y.0 = rw k.both.ranks (twice t y.0 h) in
      ap turning.to (pair_path e refl)

  carry_pair : (x : El × El) → InnerPair min max F S x
      → carrying.to (dual_el (rank D) (place_of min max F S x))
      ≡ place_of max min G H (dual_el (rank F) x.0, dual_el (rank S) x.1)
  unfolding turning turned_first turned_second dual_order
  carry_pair x u =
      let p = (place_used min max F S sound_first sound_second x u).2 in
      carry_of (place_of min max F S x) (omega (arith, p, (product_of_alike min max F S).same_top))
      ∙ product_turned_pair (layers F) (layers S) (layers G) (layers H) (layers_topped F) (layers_topped S)
      (layers_topped G) (layers_topped H) sound_first sound_second sound_duals.0 sound_duals.1 turned_first
      turned_second min max x u

  -- the added ends go to the added ends
  low_end : turning.to ((product_layers min max F S).top, 0) ≡ (0, 0) → carrying.to (0, 0) ≡ (0, 0)
  low_end e =
      let z : 0 ≡ rank D - rank D = omega arith in
      ap carrying.to (pair_path z refl) ∙ carry_of (rank D, 0) (omega (arith, k.both.ranks))
      ∙ ap turning.to (pair_path (k.both.ranks ∙ (product_of_alike min max F S).same_top) refl)
      ∙ e

  high_end : turning.to (0, 0) ≡ ((product_layers max min G H).top, 0)
      → carrying.to (rank D, 0) ≡ (rank (product_of max min G H), 0)
  high_end e =
      let z : rank D ≡ rank D - 0 = omega arith in
      ap carrying.to (pair_path z refl) ∙ carry_of (0, 0) (omega arith) ∙ e
      ∙ pair_path (sym (product_of_alike max min G H).same_top) refl

turned_low : (min max : Bool) {F S G H D : Listing} (k : Duals min max F S G H D) → T max
    → (turning min max k).to ((product_layers min max F S).top, 0) ≡ (0, 0)
unfolding turning
turned_low min true {F} {S} {G} {H} k t =
    product_turned_max (layers F) (layers S) (layers G) (layers H) (layers_topped F) (layers_topped S)
    (layers_topped G) (layers_topped H) (sound_first min true k) (sound_second min true k)
    (sound_duals min true k).0 (sound_duals min true k).1 (turned_first min true k) (turned_second min true k) min
turned_low min false k t = absurd t

turned_high : (min max : Bool) {F S G H D : Listing} (k : Duals min max F S G H D) → T min
    → (turning min max k).to (0, 0) ≡ ((product_layers max min G H).top, 0)
unfolding turning
turned_high true max {F} {S} {G} {H} k t =
    product_turned_min (layers F) (layers S) (layers G) (layers H) (layers_topped F) (layers_topped S)
    (layers_topped G) (layers_topped H) (sound_first true max k) (sound_second true max k)
    (sound_duals true max k).0 (sound_duals true max k).1 (turned_first true max k) (turned_second true max k) max
turned_high false max k t = absurd t

-- D, the dual of the product of F and S, renumbered to Q, where `place` says where the pairs of the duals go.
record Carried (min max : Bool) (F S D Q : Listing) (place : El × El → El) : Type 0 where
  renumbering : Renumbering (order (layers D)) (order (layers Q))
  pairs : (x : El × El) → InnerPair min max F S x
      → renumbering.to (dual_el (rank D) (place_of min max F S x))
      ≡ place (dual_el (rank F) x.0, dual_el (rank S) x.1)
  lowest : T max → renumbering.to (0, 0) ≡ (0, 0)
  highest : T min → renumbering.to (rank D, 0) ≡ (rank Q, 0)

module _ (min max : Bool) {F S G H D : Listing} (k : Duals min max F S G H D) where
  straight : Carried min max F S D (product_of max min G H) (place_of max min G H)
  straight = record {
    renumbering = carrying min max k;
    pairs = carry_pair min max k;
    lowest = λ t. low_end min max k (turned_low min max k t);
    highest = λ t. high_end min max k (turned_high min max k t);
  }

  -- with the factors exchanged too
  crossed : Carried min max F S D (product_of max min H G) (λ y. place_of max min H G (swap y))
  unfolding Renumbering-then
  crossed =
      let w = product_of_swapped max min G H (sound_duals min max k).0 (sound_duals min max k).1 in
      let go = w.renumbering.to in
      record {
        renumbering = Renumbering-then straight.renumbering w.renumbering;
        pairs = λ x u. ap go (straight.pairs x u) ∙ w.pairs _
            (dual_inner min max k.first x.0 u.0, dual_inner min max k.second x.1 u.1);
        lowest = λ t. ap go (straight.lowest t) ∙ w.minimal t;
        highest = λ t. ap go (straight.highest t) ∙ w.maximal t;
      }

-- ---- the four products

module _ (A B C E D : Listing) where
  -- the factors and their duals as the product has them
  abbrev DualFactors : Bool → Bool → Type 0
  DualFactors min max =
      Duals min max (first_factor min A B) (second_factor min A B) (first_factor min C E) (second_factor min C E) D

  -- the product of the duals
  abbrev other : Bool → Bool → Listing
  other min max = product_of max min (first_factor max C E) (second_factor max C E)

  carried : (min max : Bool) → DualFactors min max
      → Carried min max (first_factor min A B) (second_factor min A B) D (other min max)
      (λ y. place_in max min C E (in_order min y))
  carried true true k = straight true true k
  carried true false k = crossed true false k
  carried false true k = crossed false true k
  carried false false k = straight false false k

  pair_carried : (min max : Bool) (c : Carried min max (first_factor min A B) (second_factor min A B) D (other min max)
      (λ y. place_in max min C E (in_order min y))) (x : El × El) → InnerPair min max A B x
      → c.renumbering.to (dual_el (rank D) (place_in min max A B x))
      ≡ place_in max min C E (dual_el (rank A) x.0, dual_el (rank B) x.1)
  pair_carried true max c x u = c.pairs x u
  pair_carried false max c x u = c.pairs (swap x) (swap u)

  pairs_turned : (min max : Bool) → DualFactors min max → TurnedOver min max A B C E D (other min max)
  pairs_turned min max k =
      let c = carried min max k in
      record {
        renumbering = c.renumbering;
        pairs = pair_carried min max c;
        lowest = c.lowest;
        highest = c.highest;
      }

-- ---- a factor of rank 0

-- the dual has the same rank, and so it is the null case for the duals, too
null_dual : (min max : Bool) {A B C E : Listing} → Dual A C → Dual B E → null_case max min C E ≡ null_case min max A B
unfolding null_case
null_dual true true a b = λ t. eqb (a.ranks t) 0 || eqb (b.ranks t) 0
null_dual true false a b = λ t. eqb (a.ranks t) 0 || eqb (b.ranks t) 0
null_dual false true a b = λ t. eqb (a.ranks t) 0 || eqb (b.ranks t) 0
null_dual false false a b = refl

-- the nullitope is its own dual
nullitope_dual : Dual nullitope nullitope
unfolding entries before sum
nullitope_dual = record {
  ranks = refl;
  sizes = λ r h. let z : r ≡ 0 = omega arith in rw z refl;
  under = λ r i h l. let z : r ≡ 0 = omega arith in rw z (only i (rw z at l));
  above = λ r i h l. let z : r ≡ 0 = omega arith in rw z (sym (only i (rw z at l)));
}
  where
    only : (i : ℕ) → i < 1 → subs nullitope 0 i ≡ sups nullitope 0 i
    only i h = let z : i ≡ 0 = omega arith in rw z refl

-- no pair is in use
null_turned : (min max : Bool) (A B C E : Listing) → null_case min max A B ≡ true
    → TurnedOver min max A B C E nullitope nullitope
unfolding Renumbering-same
null_turned min max A B C E n = record {
  renumbering = Renumbering-same (order (layers nullitope));
  pairs = λ x u.
      let z = not_null min max A B (need_used min max A x.0 u.0) (need_used min max B x.1 u.1) in
      absurd (true≢false (sym n ∙ z));
  lowest = λ t. refl;
  highest = λ t. refl;
}

-- ---- the law

-- the factors and their duals, in the product's order
in_order_lem : (min max : Bool) {A B C E D : Listing} → Dual A C → Dual B E → Incident A → Incident B
    → Dual (product_of min max (first_factor min A B) (second_factor min A B)) D
    → Incident (product_of min max (first_factor min A B) (second_factor min A B)) → DualFactors A B C E D min max
in_order_lem true max a b i_a i_b r i_r = all_duals a b i_a i_b r i_r
in_order_lem false max a b i_a i_b r i_r = all_duals b a i_b i_a r i_r

-- Whichever of the four products of closed listings, if it is closed: its dual is, renumbered, the product of the duals
-- that leaves out and adds the other ends.
module _ (min max : Bool) {m : Limits} {A B C E D : Listing} (a : Dual A C) (b : Dual B E) (c_a : Closed m A)
    (c_b : Closed m B) (r : Dual (result_of min max A B) D) (c_r : Closed m (result_of min max A B)) (s_d : Shaped m D) where
  turned_null : null_case min max A B ≡ true → TurnedOver min max A B C E D (result_of max min C E)
  turned_null n =
      let e = result_null min max A B n in
      let f = result_null max min C E (null_dual min max a b ∙ n) in
      rw (one_dual s_d (rw e at c_r.shaped) (rw e at r) nullitope_dual, f) (null_turned min max A B C E n)

  turned_pairs : null_case min max A B ≡ false → TurnedOver min max A B C E D (result_of max min C E)
  turned_pairs n =
      let e = result_product min max A B n in
      rw (result_product max min C E (null_dual min max a b ∙ n))
      (pairs_turned A B C E D min max
      (in_order_lem min max a b c_a.incident c_b.incident (rw e at r) (rw e at c_r.incident)))

  pub product_turned_over : TurnedOver min max A B C E D (result_of max min C E)
  product_turned_over = go (null_case min max A B) refl
    where
      go : (n : Bool) → null_case min max A B ≡ n → TurnedOver min max A B C E D (result_of max min C E)
      go true n = turned_null n
      go false n = turned_pairs n
