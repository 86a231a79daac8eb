-- Layers with an element more under all of the lowest rank: their order is that of the structure with a minimal
-- element more; nothing above the top, and lists still sound and sorted.
-- Assumes nothing.
use mathlib.Core.Path.{◌≡◌, refl, ap}
use mathlib.Core.Logic.{inl, inr}
use Prim.Native.Nat.{ℕ, zero, suc, ◌<◌}
use native.Mathlib.Omega.{arith}
use Rattle.order.specs.Lists.{In, Ascending}
use Rattle.order.specs.Structure.{Renumbering}
use Rattle.order.specs.Ends.{Added, end, old, AddedExists, added_rank, AddedUnder, with_min}
use Rattle.order.proofs.Pairs.{pair_path}
use Rattle.listing.specs.Layers.{Layers, Topped, order}
use Rattle.product_pairs.specs.Sound.{Sound, Sorted}
use Rattle.product_pairs.specs.Grown.{min_size, min_under, add_min}

-- Where the elements stand then, and which element stands where.
abbrev pub min_to : Added (ℕ × ℕ) → ℕ × ℕ
min_to end = (0, 0)
min_to (old x) = (suc x.0, x.1)

abbrev min_from : ℕ → ℕ → Added (ℕ × ℕ)
min_from zero a = end
min_from (suc r) a = old (r, a)

module _ (M : Layers) where
  pub add_min_topped : Topped M → Topped (add_min M)
  unfolding Topped min_size
  add_min_topped t zero h = absurd (omega arith)
  add_min_topped t (suc r) h = t r (omega arith)

  pub add_min_sound : Sound M → Sound (add_min M)
  unfolding Sound min_size min_under In
  add_min_sound s zero b a h m = absurd m
  add_min_sound s (suc zero) b a h (inl e) = (omega arith, omega arith)
  add_min_sound s (suc zero) b a h (inr m) = absurd m
  add_min_sound s (suc (suc r)) b a h m = (omega arith, (s (suc r) b a h m).1)

  pub add_min_sorted : Sorted M → Sorted (add_min M)
  unfolding Sorted min_size min_under Ascending In
  add_min_sorted s zero b h = tt
  add_min_sorted s (suc zero) b h = (λ y m. absurd m, tt)
  add_min_sorted s (suc (suc r)) b h = s (suc r) b h

  min_to_exists : (x : Added (ℕ × ℕ)) → AddedExists (order M) x → (order (add_min M)).Exists (min_to x)
  unfolding min_size
  min_to_exists end e = omega arith
  min_to_exists (old x) e = e

  min_from_exists : (r a : ℕ) → a < min_size M r → AddedExists (order M) (min_from r a)
  unfolding min_size
  min_from_exists zero a e = tt
  min_from_exists (suc r) a e = e

  min_from_to : (x : Added (ℕ × ℕ)) → min_from (min_to x).0 (min_to x).1 ≡ x
  min_from_to end = refl
  min_from_to (old x) = refl

  min_to_from : (r a : ℕ) → a < min_size M r → min_to (min_from r a) ≡ (r, a)
  unfolding min_size
  min_to_from zero a e = pair_path refl (omega arith)
  min_to_from (suc r) a e = refl

  min_to_under : (x y : Added (ℕ × ℕ)) → AddedUnder (order M) x y → (order (add_min M)).Under (min_to x) (min_to y)
  unfolding min_size min_under In
  min_to_under end end r = absurd r
  min_to_under end (old y) r = (omega arith, r.0, ap suc r.1, rw r.1 (inl refl))
  min_to_under (old x) end r = absurd r
  min_to_under (old x) (old y) r = (r.0, r.1, ap suc r.2, rw r.2 (rw r.2 at r.3))

  min_from_under : (r a s b : ℕ) → (order (add_min M)).Under (r, a) (s, b)
      → AddedUnder (order M) (min_from r a) (min_from s b)
  unfolding min_size min_under
  min_from_under r a zero b u = absurd (omega (arith, u.2))
  min_from_under zero a (suc s) b u = (u.1, omega (arith, u.2))
  min_from_under (suc r) a (suc zero) b u = absurd (omega (arith, u.2))
  min_from_under (suc r) a (suc (suc s)) b u = (u.0, u.1, omega (arith, u.2), u.3)

  min_rank : (x : Added (ℕ × ℕ)) → (min_to x).0 ≡ added_rank (order M) x
  min_rank end = refl
  min_rank (old x) = refl

  pub add_min_order : Renumbering (with_min (order M)) (order (add_min M))
  add_min_order = record {
    to = min_to;
    from = λ x. min_from x.0 x.1;
    to_exists = min_to_exists;
    from_exists = λ x e. min_from_exists x.0 x.1 e;
    from_to = λ x e. min_from_to x;
    to_from = λ x e. min_to_from x.0 x.1 e;
    to_under = min_to_under;
    from_under = λ x y u. min_from_under x.0 x.1 y.0 y.1 u;
    same_rank = λ x e. min_rank x;
    same_top = refl;
  }

  pub add_min_order_to : (x : Added (ℕ × ℕ)) → add_min_order.to x ≡ min_to x
  unfolding add_min_order
  add_min_order_to x = refl
