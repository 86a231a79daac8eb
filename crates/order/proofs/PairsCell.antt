-- What holds of two structures holds of their pairs: the diamond, its ends, roots, and what a closed cell has.
-- Assumes nothing.
use mathlib.Core.Path.{◌≡◌, refl, sym, ap, ◌∙◌}
use mathlib.Core.Logic.{◌⊎◌, inl, inr}
use mathlib.Core.Bool.{Bool}
use Prim.Native.Nat.{◌<◌}
use native.Mathlib.Decide.{dec_lt}
use native.Mathlib.Omega.{arith}
use Rattle.order.specs.Structure.{Order, Ranked}
use Rattle.order.specs.Diamond.{OneOther, Between, Diamond, LowDiamond}
use Rattle.order.specs.Diamond.{Rooted, SomeLowest, OneLowest, Frame, Cell}
use Rattle.order.specs.Pairs.{Step, left, right, Pairs, swap}
use Rattle.order.proofs.Renumbering.{turned-ranked, OneOther-map, Renumbering-between, Renumbering-below}
use Rattle.order.proofs.Renumbering.{Renumbering-low-diamond, Renumbering-rooted}
use Rattle.order.proofs.Renumbering.{Renumbering-some-lowest, Renumbering-one-lowest}
use Rattle.order.proofs.Pairs.{pair_path, Pairs-ranked, swap_step, Pairs-swap, Pairs-turned}

abbrev Move : (A B : Order) → A.Elem × B.Elem → A.Elem × B.Elem → Type 0
Move A B = Step A.Under B.Under

module _ {A B : Order} (r_a : Ranked A) (r_b : Ranked B) where
  -- two steps in the first factor: what lies between moves there
  straight : (x y z : A.Elem × B.Elem) → (Pairs A B).Exists x → (Pairs A B).Exists y → (Pairs A B).Exists z
      → A.Under x.0 y.0 → x.1 ≡ y.1 → A.Under y.0 z.0 → y.1 ≡ z.1
      → OneOther (Between A x.0 z.0) y.0 → OneOther (Between (Pairs A B) x z) y
  straight x y z ex ey ez a e a' e' o =
      OneOther-map (Between A x.0 z.0) (Between (Pairs A B) x z) (λ w. (w, y.1)) y.0 y to
      (λ v q. from v q.0.2 q.1.2) (λ v w p q k. ap (λ t. t.0) k) (a, a') refl o
    where
      to : (w : A.Elem) → Between A x.0 z.0 w → Between (Pairs A B) x z (w, y.1)
      to w p =
          let ew = (r_a.exist _ _ p.0).1 in
          ((ex, (ew, ey.1), left p.0 e), ((ew, ey.1), ez, left p.1 e'))

      from : (v : A.Elem × B.Elem) → Move A B x v → Move A B v z
          → (w : A.Elem) × Between A x.0 z.0 w × (v ≡ (w, y.1))
      from v (left b f) (left b' f') = (v.0, (b, b'), pair_path refl (sym f ∙ e))
      from v (left b f) (right f' b') =
          absurd (omega (arith, r_b.step _ _ b', ap B.rank e, ap B.rank e', ap B.rank f))
      from v (right f b) (left b' f') =
          absurd (omega (arith, r_b.step _ _ b, ap B.rank e, ap B.rank e', ap B.rank f'))
      from v (right f b) (right f' b') =
          absurd (omega (arith, r_b.step _ _ b, r_b.step _ _ b', ap B.rank e, ap B.rank e'))

  -- a step in the first factor and one in the second: the other way round is the one other
  crossed : (x y z : A.Elem × B.Elem) → (Pairs A B).Exists x → (Pairs A B).Exists z
      → A.Under x.0 y.0 → x.1 ≡ y.1 → y.0 ≡ z.0 → B.Under y.1 z.1
      → OneOther (Between (Pairs A B) x z) y
  crossed x y z ex ez a e e' b =
      let eo : A.Exists x.0 × B.Exists z.1 = (ex.0, ez.1) in
      record {
        other = (x.0, z.1);
        differs = λ p. absurd (omega (arith, r_a.step _ _ a, ap (λ t. A.rank t.0) p));
        holds = ((ex, eo, right refl (rw e b)), (eo, ez, left (rw (← e') a) refl));
        only = λ w r. go w r.0.2 r.1.2;
      }
    where
      go : (w : A.Elem × B.Elem) → Move A B x w → Move A B w z → (w ≡ y) ⊎ (w ≡ (x.0, z.1))
      go w (left c f) (left c' f') =
          absurd (omega (arith, r_b.step _ _ b, ap B.rank e, ap B.rank f, ap B.rank f'))
      go w (left c f) (right f' c') = inl (pair_path (f' ∙ sym e') (sym f ∙ e))
      go w (right f c) (left c' f') = inr (pair_path (sym f) f')
      go w (right f c) (right f' c') =
          absurd (omega (arith, r_a.step _ _ a, ap A.rank e', ap A.rank f, ap A.rank f'))

  -- the first step is in the first factor
  first : Diamond A → (x y z : A.Elem × B.Elem) → (Pairs A B).Exists x → (Pairs A B).Exists y → (Pairs A B).Exists z
      → A.Under x.0 y.0 → x.1 ≡ y.1 → Move A B y z → OneOther (Between (Pairs A B) x z) y
  unfolding Diamond
  first d x y z ex ey ez a e (left a' e') = straight x y z ex ey ez a e a' e' (d _ _ _ a a')
  first d x y z ex ey ez a e (right e' b) = crossed x y z ex ez a e e' b

  -- the step to the lowest rank is in the first factor
  first_low : LowDiamond A → (x y : A.Elem × B.Elem) → (Pairs A B).Exists y → (Pairs A B).rank x ≡ 0
      → A.Under x.0 y.0 → x.1 ≡ y.1 → OneOther (λ w. (Pairs A B).Under w y) x
  unfolding LowDiamond
  first_low d x y ey h a e =
      OneOther-map (λ w. A.Under w y.0) (λ w. (Pairs A B).Under w y) (λ w. (w, y.1)) x.0 x
      (λ w u. (((r_a.exist _ _ u).0, ey.1), ey, left u refl)) (λ v q. from v q.2) (λ v w p q k. ap (λ t. t.0) k)
      a (pair_path refl (sym e)) (d _ _ a (omega arith))
    where
      from : (v : A.Elem × B.Elem) → Move A B v y → (w : A.Elem) × A.Under w y.0 × (v ≡ (w, y.1))
      from v (left c f) = (v.0, c, pair_path refl f)
      from v (right f c) = absurd (omega (arith, r_b.step _ _ c, ap B.rank e))

  Pairs-rooted : Rooted A → Rooted B → Rooted (Pairs A B)
  unfolding Rooted
  Pairs-rooted d_a d_b y e h = go (dec_lt 0 (A.rank y.0))
    where
      go : Dec (0 < A.rank y.0) → (x : A.Elem × B.Elem) × (Pairs A B).Under x y
      go (yes k) =
          let t = d_a y.0 e.0 k in
          ((t.0, y.1), (((r_a.exist _ _ t.1).0, e.1), e, left t.1 refl))
      go (no k) =
          let t = d_b y.1 e.1 (omega arith) in
          ((y.0, t.0), ((e.0, (r_b.exist _ _ t.1).0), e, right refl t.1))

Pairs-some-lowest : {A B : Order} → SomeLowest A → SomeLowest B → SomeLowest (Pairs A B)
Pairs-some-lowest s t = record {
  low = (s.low, t.low);
  low_exists = (s.low_exists, t.low_exists);
  low_rank = omega (arith, s.low_rank, t.low_rank);
}

Pairs-one-lowest : {A B : Order} → OneLowest A → OneLowest B → OneLowest (Pairs A B)
Pairs-one-lowest s t = record {
  least = (s.least, t.least);
  least_exists = (s.least_exists, t.least_exists);
  least_rank = omega (arith, s.least_rank, t.least_rank);
  least_only = λ x e h. pair_path (s.least_only _ e.0 (omega arith)) (t.least_only _ e.1 (omega arith));
}

module _ {A B : Order} (r_a : Ranked A) (r_b : Ranked B) where
  pub Pairs-diamond : Diamond A → Diamond B → Diamond (Pairs A B)
  unfolding Diamond Pairs-swap
  Pairs-diamond d_a d_b x y z r s = go r.2
    where
      go : Move A B x y → OneOther (Between (Pairs A B) x z) y
      go (left a e) = first r_a r_b d_a x y z r.0 r.1 s.1 a e s.2
      go (right e b) = Renumbering-between (Pairs-ranked r_b r_a) (Pairs-ranked r_a r_b) (Pairs-swap B A) x y z r s
          (first r_b r_a d_b (swap x) (swap y) (swap z) (swap r.0) (swap r.1) (swap s.1) b e (swap_step s.2))

  Pairs-low-diamond : LowDiamond A → LowDiamond B → LowDiamond (Pairs A B)
  unfolding LowDiamond Pairs-swap
  Pairs-low-diamond d_a d_b x y r h = go r.2
    where
      go : Move A B x y → OneOther (λ w. (Pairs A B).Under w y) x
      go (left a e) = first_low r_a r_b d_a x y r.1 h a e
      go (right e b) = Renumbering-below (Pairs-ranked r_b r_a) (Pairs-ranked r_a r_b) (Pairs-swap B A) x y r
          (first_low r_b r_a d_b (swap x) (swap y) (swap r.1) (omega arith) b e)

pub Pairs-frame : {min max : Bool} {A B : Order} → Ranked A → Ranked B → Frame min max A → Frame min max B
    → Frame min max (Pairs A B)
Pairs-frame r_a r_b g h =
    let f = Pairs-turned r_a r_b in
    record {
      one_lowest = λ t. Pairs-one-lowest (g.one_lowest t) (h.one_lowest t);
      one_highest = λ t. Renumbering-one-lowest f (Pairs-one-lowest (g.one_highest t) (h.one_highest t));
      rooted = Pairs-rooted r_a r_b g.rooted h.rooted;
      hung = Renumbering-rooted f (Pairs-rooted (turned-ranked r_a) (turned-ranked r_b) g.hung h.hung);
      some_lowest = Pairs-some-lowest g.some_lowest h.some_lowest;
      some_highest = Renumbering-some-lowest f (Pairs-some-lowest g.some_highest h.some_highest);
    }

pub Pairs-cell : {min max : Bool} {A B : Order} → Ranked A → Ranked B → Cell min max A → Cell min max B
    → Cell min max (Pairs A B)
Pairs-cell r_a r_b g h =
    let t_a = turned-ranked r_a in
    let t_b = turned-ranked r_b in
    let r_p = Pairs-ranked t_a t_b in
    let r_t = turned-ranked (Pairs-ranked r_a r_b) in
    record {
      frame = Pairs-frame r_a r_b g.frame h.frame;
      diamond = Pairs-diamond r_a r_b g.diamond h.diamond;
      low_diamond = λ t. Pairs-low-diamond r_a r_b (g.low_diamond t) (h.low_diamond t);
      high_diamond = λ t.
          Renumbering-low-diamond r_p r_t (Pairs-turned r_a r_b)
          (Pairs-low-diamond t_a t_b (g.high_diamond t) (h.high_diamond t));
    }
