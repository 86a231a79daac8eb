-- A connected structure stays connected when an element is added at an end or an end is taken off; and the product of
-- two connected frames is connected, where both are thick without their ends.
-- Assumes nothing.
use mathlib.Core.Path.{◌≡◌, refl, sym, ap, ◌∙◌}
use mathlib.Core.Logic.{inl, inr}
use mathlib.Core.Bool.{Bool, true, false}
use mathlib.Core.List.{List, [], ◌∷◌, map, tail}
use Prim.Native.Nat.{ℕ, pred, ◌≤◌, ◌<◌}
use native.Mathlib.Decide.{dec_lt}
use native.Mathlib.Omega.{arith}
use Rattle.order.specs.Structure.{Order, Ranked, turned}
use Rattle.order.specs.Diamond.{Rooted, OneLowest, Frame}
use Rattle.order.specs.Ends.{Added, end, old, with_min, with_max, without_min, without_max}
use Rattle.order.specs.Ends.{trim, grow, Product, need}
use Rattle.order.specs.Steps.{Reach, start, next}
use Rattle.order.specs.Flags.{Near, first, later, Chain, Above, Lowest, Flag, Moves, Connected, Thick, need_thick}
use Rattle.order.proofs.Renumbering.{turned-ranked}
use Rattle.order.proofs.Pairs.{Pairs-ranked}
use Rattle.order.proofs.Added.{with_min-ranked}
use Rattle.order.proofs.Struck.{without_min-ranked, over_least, without_min-frame}
use Rattle.order.proofs.Trim.{trim-ranked, trim-frame}
use Rattle.order.proofs.Flags.{near_map, connected_from, turned-connected}
use Rattle.order.proofs.Shuffles.{Pairs-connected}

-- ---- an element more

module _ (W : Order) where
  old_above : (x : W.Elem) (l : List W.Elem) → Above W x l → Above (with_min W) (old x) (map old l)
  unfolding Chain
  old_above x [] c = omega (arith, c)
  old_above x (y ∷ l) c = (c.0, old_above y l c.1)

  old_flag : (l : List W.Elem) → Flag W l → Flag (with_min W) (end ∷ map old l)
  unfolding Chain
  old_flag [] c = absurd c
  old_flag (x ∷ l) c = ((tt, refl), (c.0, old_above x l c.1))

  -- All but the added element are old.
  above_old : (x : W.Elem) (l : List (Added W.Elem)) → Above (with_min W) (old x) l
      → (m : List W.Elem) × Above W x m × (map old m ≡ l)
  unfolding Chain
  above_old x [] c = ([], omega (arith, c), refl)
  above_old x (end ∷ l) c = absurd c.0
  above_old x (old y ∷ l) c = let t = above_old y l c.1 in (y ∷ t.0, (c.0, t.1), ap (λ k. old y ∷ k) t.2)

  flag_old : (l : List (Added W.Elem)) → Flag (with_min W) l → (m : List W.Elem) × Flag W m × (end ∷ map old m ≡ l)
  unfolding Chain
  flag_old [] c = absurd c
  flag_old (end ∷ []) c = absurd (omega (arith, c.1))
  flag_old (end ∷ end ∷ l) c = absurd c.1.0
  flag_old (end ∷ old x ∷ l) c =
      let t = above_old x l c.1.1 in
      (x ∷ t.0, (c.1.0, t.1), ap (λ k. end ∷ old x ∷ k) t.2)
  flag_old (old x ∷ l) c = absurd (omega (arith, c.0.1))

  with_min-connected : Connected W → Connected (with_min W)
  with_min-connected c =
      connected_from W (with_min W) (λ l. end ∷ map old l) flag_old
      (λ l m n c. next start (later (near_map old n), old_flag m c)) c

with_max-connected : {W : Order} → Ranked W → Connected W → Connected (with_max W)
with_max-connected {W} r_w c =
    turned-connected (with_min-ranked (turned-ranked r_w)) (with_min-connected (turned W) (turned-connected r_w c))

-- ---- an end less

pred_same : (r t : ℕ) → 0 < r → 0 < t → pred r ≡ pred t → r ≡ t
pred_same r t h k e = omega arith

module _ {W : Order} (r_w : Ranked W) where
  struck_above : (x : W.Elem) (l : List W.Elem) → 0 < W.rank x → Above W x l → Above (without_min W) x l
  unfolding Chain
  struck_above x [] h c = ap pred c
  struck_above x (y ∷ l) h c = ((c.0, h), struck_above y l (omega (arith, r_w.step x y c.0)) c.1)

  module _ (p : 0 < W.top) where
    struck_flag : (x : W.Elem) (l : List W.Elem) → Flag W (x ∷ l) → Flag (without_min W) l
    unfolding Chain
    struck_flag x [] c = absurd (omega (arith, c.0.1, c.1))
    struck_flag x (y ∷ l) c =
        let h : W.rank y ≡ 1 = omega (arith, c.0.1, r_w.step x y c.1.0) in
        ((((r_w.exist x y c.1.0).1, omega arith), ap pred h), struck_above y l (omega arith) c.1.1)

    -- A move of the first element leaves the rest as it is.
    struck_goes : {l m : List W.Elem} → Near l m → Flag W m
        → Reach (Moves (without_min W) (Lowest (without_min W)) ⊥) (tail l) (tail m)
    struck_goes first c = start
    struck_goes (later {x = x} {m = m} n) c = next start (n, struck_flag x m c)

    above_struck : (x : W.Elem) (l : List W.Elem) → 0 < W.rank x → Above (without_min W) x l → Above W x l
    unfolding Chain
    above_struck x [] h c = pred_same _ _ h p c
    above_struck x (y ∷ l) h c = (c.0.0, above_struck y l (omega (arith, r_w.step x y c.0.0)) c.1)

    -- A flag of what is left goes on from the least element.
    flag_struck : Rooted W → (s : OneLowest W) (l : List W.Elem) → Flag (without_min W) l → Flag W (s.least ∷ l)
    unfolding Chain
    flag_struck d s [] c = absurd c
    flag_struck d s (x ∷ l) c =
        let e = c.0.0 in
        let h = pred_same (W.rank x) 1 e.1 (omega arith) c.0.1 in
        ((s.least_exists, s.least_rank), (over_least r_w d s x e.0 h, above_struck x l e.1 c.1))

    without_min-connected : Rooted W → OneLowest W → Connected W → Connected (without_min W)
    without_min-connected d s c =
        connected_from W (without_min W) tail (λ l c. (s.least ∷ l, flag_struck d s l c, refl))
        (λ l m n c. struck_goes n c) c

without_max-connected : {W : Order} → Ranked W → 0 < W.top → Rooted (turned W) → OneLowest (turned W) → Connected W
    → Connected (without_max W)
without_max-connected r_w p d s c =
    let t_w = turned-ranked r_w in
    turned-connected (without_min-ranked t_w) (without_min-connected t_w p d s (turned-connected r_w c))

-- ---- the product

trim-connected : (min max : Bool) {W : Order} → Ranked W → need min max ≤ W.top → Frame false false W → Connected W
    → Connected (trim min max W)
trim-connected true true {W} r_w h g c =
    let p : 0 < W.top = omega arith in
    let q : 0 < pred W.top = omega arith in
    let g' = without_min-frame r_w p g in
    without_max-connected (without_min-ranked r_w) q g'.hung (g'.one_highest tt)
    (without_min-connected r_w p g.rooted (g.one_lowest tt) c)
trim-connected true false r_w h g c = without_min-connected r_w h g.rooted (g.one_lowest tt) c
trim-connected false true r_w h g c = without_max-connected r_w h g.hung (g.one_highest tt) c
trim-connected false false r_w h g c = c

grow-connected : (min max : Bool) {W : Order} → Ranked W → Connected W → Connected (grow min max W)
grow-connected true true {W} r_w c = with_min-connected (with_max W) (with_max-connected r_w c)
grow-connected true false {W} r_w c = with_min-connected W c
grow-connected false true r_w c = with_max-connected r_w c
grow-connected false false r_w c = c

-- If it has no other rank, the lowest element is the only one.
one_thick : {W : Order} → Ranked W → OneLowest W → Thick W
unfolding Thick
one_thick {W} r_w s = go (dec_lt 0 W.top)
  where
    go : Dec (0 < W.top) → Thick W
    go (yes p) = inl p
    go (no p) = inr (λ x y ex ey. only x ex ∙ sym (only y ey))
      where
        only : (x : W.Elem) → W.Exists x → x ≡ s.least
        only x e = s.least_only x e (omega (arith, r_w.cap x e))

two_left : (t : ℕ) → need_thick true true ≤ t → 0 < pred (pred t)
two_left t h = omega arith

-- An end that is left is one element. Without both ends, two ranks are left.
trim-thick : (min max : Bool) {W : Order} → Ranked W → need_thick min max ≤ W.top → Frame min max (trim min max W)
    → Thick (trim min max W)
unfolding Thick
trim-thick true true r_w h g = inl (two_left _ h)
trim-thick true false r_w h g = one_thick (turned-ranked (trim-ranked true false r_w)) (g.one_highest tt)
trim-thick false true r_w h g = one_thick (trim-ranked false true r_w) (g.one_lowest tt)
trim-thick false false r_w h g = one_thick r_w (g.one_lowest tt)

thick_need : (min max : Bool) (t : ℕ) → need_thick min max ≤ t → need min max ≤ t
thick_need true true t h = omega arith
thick_need true false t h = h
thick_need false true t h = h
thick_need false false t h = h

pub Product-connected : (min max : Bool) {A B : Order} → Ranked A → Ranked B → need_thick min max ≤ A.top
    → need_thick min max ≤ B.top → Frame false false A → Frame false false B → Connected A → Connected B
    → Connected (Product min max A B)
Product-connected min max r_a r_b p q g_a g_b c_a c_b =
    let t_a = trim-ranked min max r_a in
    let t_b = trim-ranked min max r_b in
    let n_a = thick_need min max _ p in
    let n_b = thick_need min max _ q in
    grow-connected min max (Pairs-ranked t_a t_b)
    (Pairs-connected t_a t_b (trim-thick min max r_a p (trim-frame min max r_a n_a g_a))
    (trim-thick min max r_b q (trim-frame min max r_b n_b g_b)) (trim-connected min max r_a n_a g_a c_a)
    (trim-connected min max r_b n_b g_b c_b))
