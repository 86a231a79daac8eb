-- How a thing came and a clash are said of the first things alone.
-- Assumes nothing.
use mathlib.Core.Path.{◌≡◌, ◌∙◌}
use mathlib.Core.List.{List}
use Prim.Native.Nat.{ℕ, ◌≤◌, ◌<◌}
use native.Mathlib.Omega.{arith}
use Rattle.order.specs.Lists.{Earlier}
use Rattle.order.proofs.Earlier.{earlier_le}
use Rattle.search_theory.specs.Course.{Stands, Agrees, HasNeighbour, nbr, Came, Clash}

module _ {A : Type 0} (nbrs : A → List A) (d : A) (row row' : ℕ → A) (byte byte' : ℕ → ℕ) (n : ℕ)
    (e : (k : ℕ) → k < n → row' k ≡ row k) (f : (k : ℕ) → k < n → byte' k ≡ byte k) where
  stands_alike : (k : ℕ) (y : A) → k ≤ n → Stands row k y → Stands row' k y
  stands_alike k y h s =
      record { index = s.index; below = s.below; is = e s.index (omega (arith, s.below)) ∙ s.is }

  agrees_alike : (k : ℕ) (y : A) (b : ℕ) → k ≤ n → Agrees row byte k y b → Agrees row' byte' k y b
  agrees_alike k y b h s =
      let l : s.index < n = omega (arith, s.below) in
      record { index = s.index; below = s.below; is = e s.index l ∙ s.is; with = f s.index l ∙ s.with }

  pub came_alike : (p q k : ℕ) → k < n → Came nbrs d row byte p q k → Came nbrs d row' byte' p q k
  came_alike p q k h c =
      let l : p < n = omega (arith, c.earlier) in
      record {
        earlier = c.earlier;
        there = rw (e p l) c.there;
        is = rw (e p l, e k h) c.is;
        turned = rw (f k h, f p l) c.turned;
        first = λ j i m w.
            let x : j < n = omega (arith, earlier_le m, c.earlier) in
            rw (e j x) (stands_alike k _ (omega arith) (c.first j i m (rw (e j x) at w)));
      }

  -- how one of those before a clash came
  met_alike : (k p q a : ℕ) → k ≤ n → p < k → a < k
      → (j : ℕ) × (i : ℕ) × Earlier j i p q × HasNeighbour nbrs d row j i × (row a ≡ nbr nbrs d row j i)
      → (j : ℕ) × (i : ℕ) × Earlier j i p q × HasNeighbour nbrs d row' j i × (row' a ≡ nbr nbrs d row' j i)
  met_alike k p q a h l m t =
      let z : t.0 < n = omega (arith, earlier_le t.2) in
      (t.0, t.1, t.2, rw (e t.0 z) t.3, rw (e t.0 z, e a (omega arith)) t.4)

  pub clash_alike : (k : ℕ) → k ≤ n → Clash nbrs d row byte k → Clash nbrs d row' byte' k
  clash_alike k h c =
      let l : c.from < n = omega (arith, c.known) in
      let x : c.index < n = omega (arith, c.below) in
      record {
        from = c.from;
        at = c.at;
        known = c.known;
        there = rw (e c.from l) c.there;
        index = c.index;
        below = c.below;
        is = rw (e c.from l, e c.index x) c.is;
        apart = rw (f c.from l, f c.index x) c.apart;
        met = λ j i m w.
            let z : j < n = omega (arith, earlier_le m, c.known) in
            rw (e j z, f j z) (agrees_alike k _ _ h (c.met j i m (rw (e j z) at w)));
        few = λ a o m. met_alike k c.from c.at a h c.known m (c.few a o m);
      }
