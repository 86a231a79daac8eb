-- Layers with an element more over all of the highest rank: their order is that of the structure with a maximal element
-- more; nothing above the top, and lists still sound and sorted.
-- Assumes nothing.
use mathlib.Core.Path.{◌≡◌, refl, sym, ap, ◌∙◌}
use mathlib.Core.Logic.{◌⊎◌, inl, inr}
use Prim.Native.Nat.{ℕ, suc, pred, ◌-◌, ◌≤◌, ◌<◌}
use native.Mathlib.Decide.{dec_lt}
use native.Mathlib.Omega.{arith}
use Rattle.order.specs.Sums.{choose}
use Rattle.order.specs.Lists.{In, Ascending}
use Rattle.order.specs.Structure.{turned, Renumbering}
use Rattle.order.specs.Ends.{Added, end, old, AddedExists, added_rank, AddedUnder, with_max}
use Rattle.order.proofs.Sums.{choose_yes, choose_no}
use Rattle.order.proofs.Pairs.{pair_path}
use Rattle.listing.specs.Layers.{Layers, Topped, order}
use Rattle.listing.proofs.Layers.{in_range}
use Rattle.product_pairs.specs.Sound.{Sound, Sorted}
use Rattle.product_pairs.specs.Grown.{up_to, max_size, max_under, add_max}
use Rattle.product_pairs.proofs.Sequences.{up_to_in, in_up_to, up_to_ascending}

-- Where the elements stand then, and which element stands where, for layers of height t.
abbrev max_to : ℕ → Added (ℕ × ℕ) → ℕ × ℕ
max_to t end = (suc t, 0)
max_to t (old x) = x

max_from : ℕ → ℕ × ℕ → Added (ℕ × ℕ)
max_from t x = choose (dec_lt t x.0) end (old x)

max_from_high : (t : ℕ) (x : ℕ × ℕ) → t < x.0 → max_from t x ≡ end
unfolding max_from
max_from_high t x l = choose_yes (dec_lt t x.0) end (old x) l

max_from_low : (t : ℕ) (x : ℕ × ℕ) → x.0 ≤ t → max_from t x ≡ old x
unfolding max_from
max_from_low t x l = choose_no (dec_lt t x.0) end (old x) (λ k. omega arith)

module _ (M : Layers) where
  -- ---- sizes and lists, up to the top that was and at the new one

  pub max_size_low : (r : ℕ) → r ≤ M.top → max_size M r ≡ M.size r
  unfolding max_size
  max_size_low r h = choose_no (dec_lt M.top r) _ _ (λ l. omega arith)

  pub max_size_top : max_size M (suc M.top) ≡ 1
  unfolding max_size
  max_size_top =
      choose_yes (dec_lt M.top (suc M.top)) _ _ (omega arith)
      ∙ choose_no (dec_lt (suc M.top) (suc M.top)) _ _ (λ l. omega arith)

  pub max_under_low : (r a : ℕ) → r ≤ M.top → max_under M r a ≡ M.under r a
  unfolding max_under
  max_under_low r a h = choose_no (dec_lt M.top r) _ _ (λ l. omega arith)

  pub max_under_top : (a : ℕ) → max_under M (suc M.top) a ≡ up_to (M.size M.top)
  unfolding max_under
  max_under_top a = choose_yes (dec_lt M.top (suc M.top)) _ _ (omega arith)

  -- the added element lists all of the rank below
  pub max_listed : (a : ℕ) → a < max_size M M.top → In a (max_under M (suc M.top) 0)
  max_listed a h = rw (max_under_top 0) (in_up_to a _ (rw (max_size_low M.top (omega arith)) at h))

  pub add_max_topped : Topped (add_max M)
  unfolding Topped max_size
  add_max_topped r h = choose_yes (dec_lt M.top r) _ _ (omega arith) ∙ choose_yes (dec_lt (suc M.top) r) _ _ h

  -- an element is the added one, or one that was there
  abbrev AddedOrOld : ℕ × ℕ → Type 0
  AddedOrOld x = (x ≡ (suc M.top, 0)) ⊎ ((x.0 ≤ M.top) × (x.1 < M.size x.0))

  added_or_old : (x : ℕ × ℕ) → (order (add_max M)).Exists x → AddedOrOld x
  added_or_old x e = go (dec_lt M.top x.0)
    where
      go : Dec (M.top < x.0) → AddedOrOld x
      go (yes l) =
          let a : x.0 ≡ suc M.top = omega (arith, in_range (add_max M) add_max_topped x.0 x.1 e) in
          let b : x.1 ≡ 0 = omega (arith, rw a at e, max_size_top) in
          inl (pair_path a b)
      go (no l) = let k : x.0 ≤ M.top = omega arith in inr (k, rw (max_size_low x.0 k) at e)

  pub add_max_sound : Sound M → Sound (add_max M)
  unfolding Sound
  add_max_sound s r b a h m = go (added_or_old (r, b) h)
    where
      go : AddedOrOld (r, b) → (0 < r) × (a < max_size M (pred r))
      go (inl e) =
          let q : r ≡ suc M.top = ap (λ (x : ℕ × ℕ). x.0) e in
          let k : a < M.size M.top = up_to_in a _ (rw (q, max_under_top b) at m) in
          let p : pred r ≡ M.top = omega arith in
          (omega arith, rw (p, max_size_low M.top (omega arith)) k)
      go (inr k) =
          let t = s r b a k.1 (rw (max_under_low r b k.0) at m) in
          (t.0, rw (max_size_low (pred r) (omega (arith, k.0))) t.1)

  pub add_max_sorted : Sorted M → Sorted (add_max M)
  unfolding Sorted
  add_max_sorted s r b h = go (added_or_old (r, b) h)
    where
      go : AddedOrOld (r, b) → Ascending (max_under M r b)
      go (inl e) = rw (ap (λ (x : ℕ × ℕ). x.0) e, max_under_top b) (up_to_ascending _)
      go (inr k) = rw (max_under_low r b k.0) (s r b k.1)

module _ (M : Layers) (t : Topped M) where
  -- ---- the order

  -- what was there is there
  exists_low : (x : ℕ × ℕ) → (order M).Exists x → (order (add_max M)).Exists x
  exists_low x e = rw (max_size_low M x.0 (in_range M t x.0 x.1 e)) e

  max_to_exists : (x : Added (ℕ × ℕ)) → AddedExists (turned (order M)) x → (order (add_max M)).Exists (max_to M.top x)
  max_to_exists end e = omega (arith, max_size_top M)
  max_to_exists (old x) e = exists_low x e

  max_from_exists : (x : ℕ × ℕ) → (order (add_max M)).Exists x → AddedExists (turned (order M)) (max_from M.top x)
  max_from_exists x e = go (added_or_old M x e)
    where
      go : AddedOrOld M x → AddedExists (turned (order M)) (max_from M.top x)
      go (inl p) = rw (p, max_from_high M.top (suc M.top, 0) (omega arith)) tt
      go (inr k) = rw (max_from_low M.top x k.0) k.1

  max_from_to : (x : Added (ℕ × ℕ)) → AddedExists (turned (order M)) x → max_from M.top (max_to M.top x) ≡ x
  max_from_to end e = max_from_high M.top (suc M.top, 0) (omega arith)
  max_from_to (old x) e = max_from_low M.top x (in_range M t x.0 x.1 e)

  max_to_from : (x : ℕ × ℕ) → (order (add_max M)).Exists x → max_to M.top (max_from M.top x) ≡ x
  max_to_from x e = go (added_or_old M x e)
    where
      go : AddedOrOld M x → max_to M.top (max_from M.top x) ≡ x
      go (inl p) = ap (max_to M.top) (max_from_high M.top x (omega (arith, ap (λ (y : ℕ × ℕ). y.0) p))) ∙ sym p
      go (inr k) = ap (max_to M.top) (max_from_low M.top x k.0)

  max_to_under : (x y : Added (ℕ × ℕ)) → AddedUnder (turned (order M)) y x
      → (order (add_max M)).Under (max_to M.top x) (max_to M.top y)
  max_to_under end end r = absurd r
  max_to_under end (old y) r = absurd r
  max_to_under (old x) end r =
      let e : x.0 ≡ M.top = omega (arith, r.1, in_range M t x.0 x.1 r.0) in
      let m = in_up_to x.1 (M.size M.top) (rw e at r.0) in
      (exists_low x r.0, omega (arith, max_size_top M), ap suc (sym e), rw (max_under_top M 0) m)
  max_to_under (old x) (old y) r =
      let k = in_range M t y.0 y.1 r.1 in
      (exists_low x r.0, exists_low y r.1, r.2, rw (max_under_low M y.0 y.1 k) r.3)

  max_from_under : (x y : ℕ × ℕ) → (order (add_max M)).Under x y
      → AddedUnder (turned (order M)) (max_from M.top y) (max_from M.top x)
  max_from_under x y u = go (added_or_old M x u.0) (added_or_old M y u.1)
    where
      go : AddedOrOld M x → AddedOrOld M y → AddedUnder (turned (order M)) (max_from M.top y) (max_from M.top x)
      go (inl p) q =
          let l = in_range (add_max M) (add_max_topped M) y.0 y.1 u.1 in
          absurd (omega (arith, u.2, ap (λ (z : ℕ × ℕ). z.0) p))
      go (inr k) (inl q) =
          let e = ap (λ (z : ℕ × ℕ). z.0) q in
          rw (max_from_low M.top x k.0, max_from_high M.top y (omega (arith, e))) (k.1, omega (arith, u.2, e))
      go (inr k) (inr l) =
          rw (max_from_low M.top x k.0, max_from_low M.top y l.0)
          (k.1, l.1, u.2, rw (max_under_low M y.0 y.1 l.0) at u.3)

  max_rank : (x : Added (ℕ × ℕ)) → AddedExists (turned (order M)) x
      → (max_to M.top x).0 ≡ suc M.top - added_rank (turned (order M)) x
  max_rank end e = omega arith
  max_rank (old x) e = omega (arith, in_range M t x.0 x.1 e)

  pub add_max_order : Renumbering (with_max (order M)) (order (add_max M))
  add_max_order = record {
    to = max_to M.top;
    from = max_from M.top;
    to_exists = max_to_exists;
    from_exists = max_from_exists;
    from_to = max_from_to;
    to_from = max_to_from;
    to_under = max_to_under;
    from_under = max_from_under;
    same_rank = max_rank;
    same_top = refl;
  }

  pub add_max_order_to : (x : Added (ℕ × ℕ)) → add_max_order.to x ≡ max_to M.top x
  unfolding add_max_order
  add_max_order_to x = refl
