-- Layers trimmed: nothing above the top, lists still sound and sorted, and their order is what is left of the order.
-- Assumes nothing.
use mathlib.Core.Path.{◌≡◌, refl, sym, ap, ◌∙◌}
use mathlib.Core.Logic.{◌↔◌}
use mathlib.Core.Bool.{Bool}
use Prim.Native.Nat.{ℕ, zero, suc, pred, ◌+◌, ◌-◌, ◌≤◌, ◌<◌}
use native.Mathlib.Decide.{dec_lt}
use native.Mathlib.Omega.{arith}
use Rattle.order.specs.Lists.{In, Ascending}
use Rattle.order.specs.Sums.{choose}
use Rattle.order.specs.Structure.{Renumbering}
use Rattle.order.specs.Ends.{trim, as_trimmed}
use Rattle.order.proofs.Sums.{choose_yes, choose_no}
use Rattle.order.proofs.Pairs.{pair_path}
use Rattle.listing.specs.Layers.{Layers, Topped, order}
use Rattle.listing.proofs.Layers.{order_ranked}
use Rattle.product_pairs.specs.Sound.{Sound, Sorted, Listed}
use Rattle.product_pairs.specs.Trimmed.{bit, trim_size, trim_under, trimmed, Used}
use Rattle.product_pairs.proofs.Kept.{whole, kept_whole, whole_kept, kept_top, kept_exists, kept_rank}
use Rattle.product_pairs.proofs.Kept.{kept_under}

-- An element with its rank counted from the lowest in use, and back.
abbrev pub lowered : Bool → ℕ × ℕ → ℕ × ℕ
lowered min x = (x.0 - bit min, x.1)

abbrev pub raised : Bool → ℕ × ℕ → ℕ × ℕ
raised min x = (x.0 + bit min, x.1)

module _ (min max : Bool) (M : Layers) where
  -- ---- which elements are left

  -- what trimmed layers have is in use, and what is in use they have
  pub raised_used : (i a : ℕ) → a < trim_size min max M i → Used min max M (i + bit min, a)
  unfolding trim_size
  raised_used i a h = go (dec_lt M.top (i + bit min + bit max)) h
    where
      go : (d : Dec (M.top < i + bit min + bit max)) → a < choose d 0 (M.size (i + bit min))
          → Used min max M (i + bit min, a)
      go (yes l) h = absurd (omega (arith, rw (choose_yes (yes l) 0 (M.size (i + bit min)) l) at h))
      go (no l) h = (rw (choose_no (no l) 0 (M.size (i + bit min)) l) at h, omega arith, omega arith)

  trimmed_size : (i : ℕ) → i + bit min + bit max ≤ M.top → trim_size min max M i ≡ M.size (i + bit min)
  unfolding trim_size
  trimmed_size i h = choose_no _ _ _ (λ l. omega arith)

  pub lowered_exists : (r a : ℕ) → Used min max M (r, a) → a < trim_size min max M (r - bit min)
  lowered_exists r a u =
      let e : r - bit min + bit min ≡ r = omega (arith, u.1) in
      rw (trimmed_size (r - bit min) (omega (arith, u.2)), e) u.0

  pub trimmed_topped : Topped (trimmed min max M)
  unfolding Topped trim_size
  trimmed_topped r h = choose_yes _ _ _ (omega arith)

  -- ---- which lists are left

  pub trimmed_under : (i b : ℕ) → 0 < i → trim_under min M i b ≡ M.under (i + bit min) b
  unfolding trim_under
  trimmed_under zero b h = absurd (omega arith)
  trimmed_under (suc i) b h = refl

  pub trimmed_sound : Sound M → Sound (trimmed min max M)
  unfolding Sound trim_under In
  trimmed_sound s zero b a h m = absurd m
  trimmed_sound s (suc i) b a h m =
      let u = raised_used (suc i) b h in
      let e : pred (suc i + bit min) ≡ i + bit min = omega arith in
      let k = s (suc i + bit min) b a u.0 m in
      (omega arith, rw (trimmed_size i (omega (arith, u.2))) (rw e at k.1))

  pub trimmed_sorted : Sorted M → Sorted (trimmed min max M)
  unfolding Sorted trim_under Ascending
  trimmed_sorted s zero b h = tt
  trimmed_sorted s (suc i) b h = s (suc i + bit min) b (raised_used (suc i) b h).0

  -- ---- what lies directly under what

  lowered_under : (x y : ℕ × ℕ) → (order M).Under x y → bit min ≤ x.0 → y.0 + bit max ≤ M.top
      → (order (trimmed min max M)).Under (lowered min x) (lowered min y)
  lowered_under x y u p q =
      let e : y.0 - bit min ≡ suc (x.0 - bit min) = omega (arith, u.2) in
      let f : y.0 - bit min + bit min ≡ y.0 = omega (arith, u.2) in (
        lowered_exists x.0 x.1 (u.0, p, omega (arith, u.2)),
        lowered_exists y.0 y.1 (u.1, omega (arith, u.2), q),
        e,
        rw (trimmed_under (y.0 - bit min) y.1 (omega arith), f) u.3,
      )

  raised_under : (x y : ℕ × ℕ) → (order (trimmed min max M)).Under x y → (order M).Under (raised min x) (raised min y)
  raised_under x y u = (
    (raised_used x.0 x.1 u.0).0,
    (raised_used y.0 y.1 u.1).0,
    omega (arith, u.2),
    rw (trimmed_under y.0 y.1 (omega (arith, u.2))) at u.3,
  )

module _ (min max : Bool) (M : Layers) (t : Topped M) where
  pub used_exists : (x : ℕ × ℕ) → (trim min max (order M)).Exists (as_trimmed min max (order M) x) ↔ Used min max M x
  used_exists x = kept_exists (order_ranked M t) min max x

  -- between elements in use, directly under means listed
  pub used_under : (x y : ℕ × ℕ) → Used min max M x → Used min max M y
      → (trim min max (order M)).Under (as_trimmed min max (order M) x) (as_trimmed min max (order M) y) ↔ Listed M x y
  used_under x y p q = (
    λ u. let k = (kept_under (order_ranked M t) min max x y).0 u in (k.0.2, k.0.3),
    λ l. (kept_under (order_ranked M t) min max x y).1 ((p.0, q.0, l.0, l.1), p.1, q.2),
  )

  -- an element that is left is in use, and what lies directly under it there does so in the trimmed layers
  left_used : (x : (trim min max (order M)).Elem) → (trim min max (order M)).Exists x
      → Used min max M (whole min max (order M) x)
  left_used x e = (used_exists (whole min max (order M) x)).0 (rw (kept_whole min max (order M) x) e)

  left_under : (x y : (trim min max (order M)).Elem) → (trim min max (order M)).Under x y
      → (order (trimmed min max M)
      ).Under (lowered min (whole min max (order M) x)) (lowered min (whole min max (order M) y))
  left_under x y u =
      let v = whole min max (order M) x in
      let w = whole min max (order M) y in
      let e = kept_whole min max (order M) x in
      let f = kept_whole min max (order M) y in
      let k = (kept_under (order_ranked M t) min max v w).0 (rw (e, f) u) in
      lowered_under min max M v w k.0 k.1 k.2

  -- and back
  raised_kept : (x y : ℕ × ℕ) → (order (trimmed min max M)).Under x y
      → (trim min max (order M)).Under (as_trimmed min max (order M) (raised min x))
      (as_trimmed min max (order M) (raised min y))
  raised_kept x y u =
      let p = raised_used min max M x.0 x.1 u.0 in
      let q = raised_used min max M y.0 y.1 u.1 in
      (kept_under (order_ranked M t) min max (raised min x) (raised min y)).1 (raised_under min max M x y u, p.1, q.2)

  left_rank : (x : (trim min max (order M)).Elem) → (trim min max (order M)).Exists x
      → (whole min max (order M) x).0 - bit min ≡ (trim min max (order M)).rank x
  left_rank x e =
      let k = kept_whole min max (order M) x in
      sym (kept_rank (order_ranked M t) min max (whole min max (order M) x) (rw k e))
      ∙ ap (trim min max (order M)).rank k

  pub trimmed_order : Renumbering (trim min max (order M)) (order (trimmed min max M))
  trimmed_order = record {
    to = λ x. lowered min (whole min max (order M) x);
    from = λ y. as_trimmed min max (order M) (raised min y);
    to_exists = λ x e. lowered_exists min max M _ _ (left_used x e);
    from_exists = λ y e. (used_exists (raised min y)).1 (raised_used min max M y.0 y.1 e);
    from_to = λ x e.
        ap (as_trimmed min max (order M)) (pair_path (omega (arith, (left_used x e).1)) refl)
        ∙ kept_whole min max (order M) x;
    to_from = λ y e. rw (whole_kept min max (order M) (raised min y)) (pair_path (omega arith) refl);
    to_under = left_under;
    from_under = raised_kept;
    same_rank = left_rank;
    same_top = sym (kept_top min max (order M));
  }

  -- its map only counts ranks from the lowest in use
  pub trimmed_order_to : (x : ℕ × ℕ) → trimmed_order.to (as_trimmed min max (order M) x) ≡ lowered min x
  unfolding trimmed_order
  trimmed_order_to x = ap (lowered min) (whole_kept min max (order M) x)
