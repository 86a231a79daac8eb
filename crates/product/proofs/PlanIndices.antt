-- The lists of layers by their numbers: all numbers in them are small, also past the last element.
-- Assumes nothing.
use mathlib.Core.Path.{◌≡◌}
use mathlib.Core.List.{List}
use Prim.Native.Nat.{ℕ, zero, suc, pred, ◌-◌, ◌/◌, ◌%◌, ◌≤◌, ◌<◌}
use native.Mathlib.Decide.{dec_lt}
use native.Mathlib.Omega.{arith}
use borrow.Author.Tests.{ne_eqb}
use Rattle.order.specs.Lists.{In}
use Rattle.order.specs.Sums.{sum, part_at}
use Rattle.order.proofs.Sums.{choose_no, sum_lt, part_ok}
use Rattle.listing.specs.Layers.{Layers, Topped, derived}
use Rattle.listing.specs.Written.{list_at, nth}
use Rattle.listing.proofs.Layers.{in_range, derived_in}
use Rattle.product_pairs.specs.Sound.{Sound}

-- a number past all parts falls behind the last
pub place_past : (f : ℕ → ℕ) (n k : ℕ) → sum f (suc n) ≤ k → part_at f (suc n) k ≡ (n, k - sum f n)
unfolding part_at sum
place_past f n k h = choose_no (dec_lt k (sum f n)) _ _ (λ l. omega arith)

module _ (T : Layers) (t : Topped T) where
  abbrev lists : ℕ → List ℕ
  lists = nth T (derived T)

  pub exists_few : (r x : ℕ) → x < T.size r → x < sum T.size (suc T.top)
  exists_few r x h = omega (arith, sum_lt T.size r (suc T.top) x (omega (arith, in_range T t r x h)) h)

  listed_few : Sound T → (s r i x : ℕ) → i < T.size r → In x (list_at T (derived T) s (r, i))
      → x < sum T.size (suc T.top)
  unfolding list_at Sound
  listed_few snd zero r i x h m = exists_few (pred r) x (snd r i x h m).1
  listed_few snd (suc s) r i x h m =
      exists_few (suc r) x ((derived_in T r i x).0 (rw (ne_eqb (suc s) 0 (λ z. omega arith)) at m)).0

  -- also in the lists past the last element, if what the highest rank lists there is small
  module _ (s : Sound T) (n : ℕ) (few : sum T.size (suc T.top) ≤ n)
      (past : (k x : ℕ) → T.size T.top ≤ k → In x (T.under T.top k) → x < n) where
    past_few : (s k x : ℕ) → T.size T.top ≤ k → In x (list_at T (derived T) s (T.top, k)) → x < n
    unfolding list_at Topped
    past_few zero k x h m = past k x h m
    past_few (suc s) k x h m =
        let d = ((derived_in T T.top k x).0 (rw (ne_eqb (suc s) 0 (λ z. omega arith)) at m)).0 in
        absurd (omega (arith, t (suc T.top) (omega arith)))

    pub all_few : (k x : ℕ) → In x (lists k) → x < n
    unfolding nth sum
    all_few k x m = go (dec_lt (k / 2) (sum T.size (suc T.top)))
      where
        go : Dec (k / 2 < sum T.size (suc T.top)) → x < n
        go (yes l) =
            let p = part_ok T.size (suc T.top) (k / 2) l in
            omega (arith, listed_few s (k % 2) _ _ x p.1 m)
        go (no l) =
            let p = place_past T.size T.top (k / 2) (omega arith) in
            past_few (k % 2) _ x (omega arith) (rw p at m)
