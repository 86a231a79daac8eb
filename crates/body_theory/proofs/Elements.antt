-- A flag as a list of indices, and the same flag as a list of elements: a listing is in one piece exactly if its order
-- is connected.
-- Assumes nothing.
use mathlib.Core.Path.{◌≡◌, refl, sym, ap, ap₂, ◌∙◌}
use mathlib.Core.Logic.{◌↔◌, ◌⊎◌, inl, inr}
use mathlib.Core.List.{List, [], ◌∷◌, map}
use Prim.Native.Nat.{ℕ, zero, suc, ◌+◌, ◌<◌}
use native.Mathlib.Decide.{ℕ_discrete}
use native.Mathlib.Omega.{arith}
use lib.ListN.{length, get_or}
use Rattle.order.specs.Lists.{In}
use Rattle.order.specs.Structure.{Order}
use Rattle.order.specs.Steps.{ChangedAt, here, there, Reach, start, next}
use Rattle.order.specs.Flags.{Near, first, later, Chain, Above, Flag, Connected}
use Rattle.order.proofs.Pairs.{pair_path}
use Rattle.order.proofs.Steps.{Reach-then, Reach-same, Reach-bind, Reach-map}
use Rattle.order.proofs.Flags.{near_map}
use Rattle.listing.specs.Listing.{Listing, rank, count, subs}
use Rattle.listing.specs.Layers.{layers, order}
use Rattle.flag_change.specs.Flags.{IsFlag}
use Rattle.body_theory.specs.Pieces.{OneChange, OnePiece}

-- indices as elements, from rank r upward; and elements as their indices
unfoldable elements : ℕ → List ℕ → List (ℕ × ℕ)
elements r [] = []
elements r (x ∷ f) = (r, x) ∷ elements (suc r) f

abbrev indices : List (ℕ × ℕ) → List ℕ
indices = map (λ x. x.1)

indices_elements : (r : ℕ) (f : List ℕ) → indices (elements r f) ≡ f
unfolding elements
indices_elements r [] = refl
indices_elements r (x ∷ f) = ap (λ l. x ∷ l) (indices_elements (suc r) f)

-- ---- near, and changed

near_elements : (q : ℕ) {r : ℕ} {f g : List ℕ} → ChangedAt r f g → Near (elements q f) (elements q g)
unfolding elements
near_elements q (here d) = first
near_elements q (there c) = later (near_elements (suc q) c)

near_changed : {f g : List ℕ} → Near f g → (f ≡ g) ⊎ ((r : ℕ) × ChangedAt r f g)
near_changed (first {x = x} {y = y} {l = l}) = go (ℕ_discrete x y)
  where
    go : Dec (x ≡ y) → ((x ∷ l) ≡ (y ∷ l)) ⊎ ((r : ℕ) × ChangedAt r (x ∷ l) (y ∷ l))
    go (yes e) = inl (ap (λ z. z ∷ l) e)
    go (no d) = inr (zero, here d)
near_changed (later {x = x} {l = l} {m = m} n) = go (near_changed n)
  where
    go : (l ≡ m) ⊎ ((r : ℕ) × ChangedAt r l m) → ((x ∷ l) ≡ (x ∷ m)) ⊎ ((r : ℕ) × ChangedAt r (x ∷ l) (x ∷ m))
    go (inl e) = inl (ap (λ k. x ∷ k) e)
    go (inr c) = inr (suc c.0, there c.1)

-- ---- flags

module _ (L : Listing) where
  abbrev W : Order
  W = order (layers L)

  -- indices that go on over index x of rank r to the highest rank
  record GoesOn (r x : ℕ) (f : List ℕ) : Type 0 where
    long : r + length f ≡ rank L
    exists : (k : ℕ) → k < length f → get_or f k 0 < count L (suc r + k)
    under : (k : ℕ) → k < length f → In (get_or (x ∷ f) k 0) (subs L (suc r + k) (get_or f k 0))

  -- without the first of them
  goes_on : (r x y : ℕ) (f : List ℕ) → GoesOn r x (y ∷ f) → GoesOn (suc r) y f
  goes_on r x y f G = record {
    long = omega (arith, G.long);
    exists = λ k h. let e : suc (suc r) + k ≡ suc r + suc k = omega arith in rw e (G.exists (suc k) (omega arith));
    under = λ k h. let e : suc (suc r) + k ≡ suc r + suc k = omega arith in rw e (G.under (suc k) (omega arith));
  }

  -- with one more before them
  goes_longer : (r x y : ℕ) (f : List ℕ) → y < count L (suc r) → In x (subs L (suc r) y) → GoesOn (suc r) y f
      → GoesOn r x (y ∷ f)
  goes_longer r x y f h u G = record { long = omega (arith, G.long); exists = exists; under = under }
    where
      exists : (k : ℕ) → k < suc (length f) → get_or (y ∷ f) k 0 < count L (suc r + k)
      exists zero l = let z : suc r + 0 ≡ suc r = omega arith in rw z h
      exists (suc k) l = let z : suc r + suc k ≡ suc (suc r) + k = omega arith in rw z (G.exists k (omega arith))

      under : (k : ℕ) → k < suc (length f) → In (get_or (x ∷ y ∷ f) k 0) (subs L (suc r + k) (get_or (y ∷ f) k 0))
      under zero l = let z : suc r + 0 ≡ suc r = omega arith in rw z u
      under (suc k) l = let z : suc r + suc k ≡ suc (suc r) + k = omega arith in rw z (G.under k (omega arith))

  goes_above : (r x : ℕ) (f : List ℕ) → x < count L r → GoesOn r x f → Above W (r, x) (elements (suc r) f)
  unfolding Chain elements
  goes_above r x [] e G = omega (arith, G.long)
  goes_above r x (y ∷ f) e G =
      let z : suc r + 0 ≡ suc r = omega arith in
      let h : y < count L (suc r) = rw z at (G.exists 0 (omega arith)) in
      ((e, h, refl, rw z at (G.under 0 (omega arith))), goes_above (suc r) y f h (goes_on r x y f G))

  above_goes : (r x : ℕ) (l : List (ℕ × ℕ)) → Above W (r, x) l
      → GoesOn r x (indices l) × (elements (suc r) (indices l) ≡ l)
  unfolding Chain elements
  above_goes r x [] c = (
    record {
      long = omega (arith, c);
      exists = λ k h. absurd (omega arith);
      under = λ k h. absurd (omega arith);
    },
    refl,
  )
  above_goes r x (y ∷ l) c =
      let u = c.0 in
      let t = above_goes y.0 y.1 l c.1 in (
        goes_longer r x y.1 (indices l) (rw u.2 at u.1) (rw u.2 at u.3) (rw u.2 at t.0),
        ap₂ (λ z k. z ∷ k) (pair_path (sym u.2) refl)
            (ap (λ q. elements (suc q) (indices l)) (sym u.2) ∙ t.1),
      )

  flag_elements : (f : List ℕ) → 0 < length L.counts → IsFlag L f → Flag W (elements 0 f)
  unfolding Chain elements
  flag_elements [] p F = absurd (omega (arith, F.one_each))
  flag_elements (x ∷ f) p F =
      let e = F.exists 0 (omega arith) in (
        (e, refl),
        goes_above 0 x f e (record {
          long = omega (arith, F.one_each);
          exists = λ k h. let z : 1 + k ≡ suc k = omega arith in rw z (F.exists (suc k) (omega arith));
          under = λ k h.
              let z : 1 + k ≡ suc k = omega arith in
              let n : k + 1 ≡ suc k = omega arith in
              rw z (rw n at (F.under k (omega arith)));
        }),
      )

  elements_flag : (l : List (ℕ × ℕ)) → 0 < length L.counts → Flag W l
      → IsFlag L (indices l) × (elements 0 (indices l) ≡ l)
  unfolding Chain elements
  elements_flag [] p c = absurd c
  elements_flag (x ∷ l) p c = (
    record {
      one_each = omega (arith, G.long);
      exists = exists;
      under = λ k h.
          let z : 1 + k ≡ k + 1 = omega arith in
          let n : k + 1 ≡ suc k = omega arith in
          rw n (rw n at (rw z at (G.under k (omega arith))));
    },
    ap₂ (λ z k. z ∷ k) (pair_path (sym c.0.1) refl)
        (ap (λ q. elements (suc q) (indices l)) (sym c.0.1) ∙ (above_goes x.0 x.1 l c.1).1),
  )
    where
      G : GoesOn 0 x.1 (indices l)
      G = rw c.0.1 at (above_goes x.0 x.1 l c.1).0

      exists : (k : ℕ) → k < suc (length (indices l)) → get_or (x.1 ∷ indices l) k 0 < count L k
      exists zero h = rw c.0.1 at c.0.0
      exists (suc k) h = let z : 1 + k ≡ suc k = omega arith in rw z at (G.exists k (omega arith))

  -- ---- in one piece, and connected

  module _ (p : 0 < length L.counts) where
    piece_connected : OnePiece L → Connected W
    unfolding OnePiece Connected
    piece_connected o l m cl cm =
        let F = elements_flag l p cl in
        let G = elements_flag m p cm in
        Reach-then (Reach-same (sym F.1))
        (Reach-then (Reach-map (elements 0) (λ f g c. (near_elements 0 c.changed, flag_elements g p c.is_flag))
        (o (indices l) (indices m) F.0 G.0)) (Reach-same G.1))

    -- a move is one change, or none
    one_move : {l m : List (ℕ × ℕ)} → Near l m → Flag W m → Reach (OneChange L) (indices l) (indices m)
    one_move {l} {m} n c = go (near_changed (near_map (λ x. x.1) n))
      where
        go : (indices l ≡ indices m) ⊎ ((r : ℕ) × ChangedAt r (indices l) (indices m))
            → Reach (OneChange L) (indices l) (indices m)
        go (inl e) = Reach-same e
        go (inr d) = next start (record { at = d.0; is_flag = (elements_flag m p c).0; changed = d.1 })

    connected_piece : Connected W → OnePiece L
    unfolding OnePiece Connected
    connected_piece o f g F G =
        let q = o (elements 0 f) (elements 0 g) (flag_elements f p F) (flag_elements g p G) in
        Reach-then (Reach-same (sym (indices_elements 0 f)))
        (Reach-then (Reach-bind indices (λ l m c. one_move c.0 c.1) q) (Reach-same (indices_elements 0 g)))

    pub one_piece_connected : OnePiece L ↔ Connected W
    one_piece_connected = (piece_connected, connected_piece)
