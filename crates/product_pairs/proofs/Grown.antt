-- Layers grown at the ends, as two flags say: nothing above the top, lists still sound and sorted, and their order is
-- that of the structure grown.
-- Assumes nothing.
use mathlib.Core.Path.{◌≡◌, refl, sym}
use mathlib.Core.Logic.{◌↔◌, inl}
use mathlib.Core.Bool.{Bool, true, false}
use mathlib.Core.List.{[], ◌∷◌}
use Prim.Native.Nat.{ℕ, zero, suc, ◌+◌, ◌≤◌, ◌<◌}
use native.Mathlib.Nat.{add-zero}
use native.Mathlib.Numerals.{add-one}
use native.Mathlib.Omega.{arith}
use Rattle.order.specs.Lists.{In}
use Rattle.order.specs.Structure.{Renumbering}
use Rattle.order.specs.Ends.{end, grow, as_grown, added_min, added_max}
use Rattle.order.proofs.Renumbering.{Renumbering-same, Renumbering-then}
use Rattle.order.proofs.Added.{with_min-renumbered}
use Rattle.order.proofs.Pairs.{pair_path}
use Rattle.listing.specs.Layers.{Layers, Topped, order}
use Rattle.product_pairs.specs.Sound.{Sound, Sorted, Listed}
use Rattle.product_pairs.specs.Trimmed.{bit}
use Rattle.product_pairs.specs.Grown.{up_to, min_size, min_under, add_min, max_under, add_max, grown}
use Rattle.product_pairs.proofs.Trimmed.{raised}
use Rattle.product_pairs.proofs.AddMin.{add_min_topped, add_min_sound, add_min_sorted, add_min_order}
use Rattle.product_pairs.proofs.AddMin.{add_min_order_to}
use Rattle.product_pairs.proofs.AddMax.{max_size_low, max_size_top, max_under_low, max_under_top, max_listed}
use Rattle.product_pairs.proofs.AddMax.{add_max_topped, add_max_sound, add_max_sorted, add_max_order}
use Rattle.product_pairs.proofs.AddMax.{add_max_order_to}

-- What an element more at either end keeps, growing keeps.
grown_keeps : (P : Layers → Type 0) → ((M : Layers) → P M → P (add_min M)) → ((M : Layers) → P M → P (add_max M))
    → (min max : Bool) (M : Layers) → P M → P (grown min max M)
grown_keeps P low high true true M p = low _ (high M p)
grown_keeps P low high true false M p = low M p
grown_keeps P low high false true M p = high M p
grown_keeps P low high false false M p = p

module _ (min max : Bool) (M : Layers) where
  pub grown_topped : Topped M → Topped (grown min max M)
  grown_topped = grown_keeps Topped add_min_topped (λ N t. add_max_topped N) min max M

  pub grown_sound : Sound M → Sound (grown min max M)
  grown_sound = grown_keeps Sound add_min_sound add_max_sound min max M

  pub grown_sorted : Sorted M → Sorted (grown min max M)
  grown_sorted = grown_keeps Sorted add_min_sorted add_max_sorted min max M

pub grown_top : (min max : Bool) (M : Layers) → (grown min max M).top ≡ M.top + bit min + bit max
grown_top true true M = omega arith
grown_top true false M = omega arith
grown_top false true M = omega arith
grown_top false false M = omega arith

pub grown_order : (min max : Bool) (M : Layers) → Topped M
    → Renumbering (grow min max (order M)) (order (grown min max M))
grown_order true true M t = Renumbering-then (with_min-renumbered (add_max_order M t)) (add_min_order (add_max M))
grown_order true false M t = add_min_order M
grown_order false true M t = add_max_order M t
grown_order false false M t = Renumbering-same (order M)

-- its map: what was there keeps its index, the added elements have the index 0
pub grown_inside : (min max : Bool) (M : Layers) (t : Topped M) (x : ℕ × ℕ)
    → (grown_order min max M t).to (as_grown min max (order M) x) ≡ raised min x
unfolding grown_order Renumbering-same Renumbering-then with_min-renumbered
grown_inside true true M t x = rw (add_max_order_to, add_min_order_to) (pair_path (omega arith) refl)
grown_inside true false M t x = rw add_min_order_to (pair_path (omega arith) refl)
grown_inside false true M t x = rw add_max_order_to (pair_path (omega arith) refl)
grown_inside false false M t x = pair_path (omega arith) refl

pub grown_added_min : (max : Bool) (M : Layers) (t : Topped M)
    → (grown_order true max M t).to (added_min max (order M)) ≡ (0, 0)
unfolding grown_order Renumbering-then with_min-renumbered
grown_added_min true M t = add_min_order_to (add_max M) end
grown_added_min false M t = add_min_order_to M end

pub grown_added_max : (min : Bool) (M : Layers) (t : Topped M)
    → (grown_order min true M t).to (added_max min (order M)) ≡ (suc M.top + bit min, 0)
unfolding grown_order Renumbering-then with_min-renumbered
grown_added_max true M t = rw (add_max_order_to, add_min_order_to) (pair_path (omega arith) refl)
grown_added_max false M t = rw add_max_order_to (pair_path (omega arith) refl)

-- ---- sizes and lists

pub grown_size : (min max : Bool) (M : Layers) (r : ℕ) → r ≤ M.top → (grown min max M).size (r + bit min) ≡ M.size r
unfolding min_size
grown_size true true M r h = rw add-one (max_size_low M r h)
grown_size true false M r h = rw add-one
grown_size false true M r h = rw add-zero (max_size_low M r h)
grown_size false false M r h = rw add-zero

-- what was there lists what it did, but for the lowest rank over an added minimal element
pub grown_under : (min max : Bool) (M : Layers) (r a : ℕ) → bit min ≤ r → r ≤ M.top
    → (grown min max M).under (r + bit min) a ≡ M.under r a
unfolding min_under
grown_under true max M zero a p h = absurd (omega arith)
grown_under true true M (suc r) a p h = rw add-one (max_under_low M (suc r) a h)
grown_under true false M (suc r) a p h = rw add-one
grown_under false true M r a p h = rw add-zero (max_under_low M r a h)
grown_under false false M r a p h = rw add-zero

pub grown_min_under : (max : Bool) (M : Layers) (a : ℕ) → (grown true max M).under 1 a ≡ 0 ∷ []
unfolding min_under
grown_min_under max M a = refl

pub grown_max_under : (min : Bool) (M : Layers) (a : ℕ)
    → (grown min true M).under (grown min true M).top a ≡ up_to (M.size M.top)
unfolding min_under
grown_max_under true M a = max_under_top M a
grown_max_under false M a = max_under_top M a

-- ---- the added elements, in plain numbers

module _ (max : Bool) (M : Layers) where
  pub grown_min_size : (grown true max M).size 0 ≡ 1
  unfolding min_size
  grown_min_size = refl

  -- the added minimal element is listed by all of rank 1, and nowhere else
  pub grown_min_listed : (y : ℕ × ℕ) → Listed (grown true max M) (0, 0) y ↔ (y.0 ≡ 1)
  unfolding min_under In
  grown_min_listed y = (λ l. l.0, λ e. (e, rw e (inl refl)))

pub grown_max_size : (min : Bool) (M : Layers) → (grown min true M).size (grown min true M).top ≡ 1
unfolding min_size
grown_max_size true M = max_size_top M
grown_max_size false M = max_size_top M

-- the added maximal element lists all of the rank below, and nothing else
pub grown_max_listed : (min : Bool) (M : Layers) (x : ℕ × ℕ) → x.1 < (grown min true M).size x.0
    → Listed (grown min true M) x ((grown min true M).top, 0) ↔ (suc x.0 ≡ (grown min true M).top)
unfolding min_size min_under
grown_max_listed true M x h = (λ l. sym l.0, λ e. (sym e, go e))
  where
    go : suc x.0 ≡ suc (suc M.top) → In x.1 (max_under M (suc M.top) 0)
    go e = let k : x.0 ≡ suc M.top = omega arith in max_listed M x.1 (rw k at h)
grown_max_listed false M x h = (λ l. sym l.0, λ e. (sym e, go e))
  where
    go : suc x.0 ≡ suc M.top → In x.1 (max_under M (suc M.top) 0)
    go e = let k : x.0 ≡ M.top = omega arith in max_listed M x.1 (rw k at h)
