-- Each flag of pairs is a shuffle of a flag of one factor and a flag of the other; and where both factors are thick and
-- connected, their pairs are connected.
-- Assumes nothing.
use mathlib.Core.Path.{◌≡◌, refl, sym, ap}
use mathlib.Core.Logic.{inl, inr}
use mathlib.Core.List.{List, [], ◌∷◌, map}
use native.Mathlib.Omega.{arith}
use Rattle.order.specs.Structure.{Order, Ranked}
use Rattle.order.specs.Pairs.{Step, left, right, Pairs, swap}
use Rattle.order.specs.Steps.{Reach, start, next}
use Rattle.order.specs.Flags.{Near, first, later, Chain, Above, Lowest, Flag, Moves, Connected, Thick}
use Rattle.order.proofs.Pairs.{Pairs-ranked, Pairs-swap}
use Rattle.order.proofs.Steps.{Reach-then, Reach-same, Reach-kept, Reach-bind, Reach-map}
use Rattle.order.proofs.Flags.{near_map, moves_back, moves_later, renumbered_above, renumbered_flag}

-- Over the pair of a and b: all steps of the first factor, and then those of the second.
unfoldable in_turn : {E F : Type 0} → E → F → List E → List F → List (E × F)
in_turn a b [] lb = map (λ y. (a, y)) lb
in_turn a b (a' ∷ la) lb = (a', b) ∷ in_turn a' b la lb

-- The same of two flags, from their first elements on.
unfoldable both : {E F : Type 0} → List E → List F → List (E × F)
both [] lb = []
both (a ∷ la) [] = []
both (a ∷ la) (b ∷ lb) = (a, b) ∷ in_turn a b la lb

-- Ways through the chains over a pair, and ways through the flags.
abbrev WayAbove : (A B : Order) → A.Elem × B.Elem → List (A.Elem × B.Elem) → List (A.Elem × B.Elem) → Type 0
WayAbove A B x = Reach (Moves (Pairs A B) ((Pairs A B).Under x) ((Pairs A B).rank x ≡ (Pairs A B).top))

abbrev Way : (A B : Order) → List (A.Elem × B.Elem) → List (A.Elem × B.Elem) → Type 0
Way A B = Reach (Moves (Pairs A B) (Lowest (Pairs A B)) ⊥)

-- A list of the first factor with P, a list of the second with Q, and a way to them.
record Parts {E F : Type 0} (P : List E → Type 0) (Q : List F → Type 0) (To : List E → List F → Type 0) : Type 0 where
  la : List E
  lb : List F
  has_p : P la
  has_q : Q lb
  way : To la lb

abbrev PartsAbove : (A B : Order) → A.Elem × B.Elem → List (A.Elem × B.Elem) → Type 0
PartsAbove A B x l =
    Parts (Above A x.0) (Above B x.1) (λ la lb. WayAbove A B x l (in_turn x.0 x.1 la lb))

near_second : {E F : Type 0} (a : E) (b : F) (la : List E) {l m : List F} → Near l m
    → Near (in_turn a b la l) (in_turn a b la m)
unfolding in_turn
near_second a b [] n = near_map (λ y. (a, y)) n
near_second a b (a' ∷ la) n = later (near_second a' b la n)

lowest_pair : (A B : Order) (a : A.Elem) (b : B.Elem) → Lowest A a → Lowest B b → Lowest (Pairs A B) (a, b)
lowest_pair A B a b p q = ((p.0, q.0), omega (arith, p.1, q.1))

-- A flag of a single element is the only flag of a thick structure.
alone : (W : Order) → Thick W → (x y : W.Elem) → Flag W (x ∷ []) → Flag W (y ∷ []) → x ≡ y
unfolding Chain Thick
alone W (inl h) x y cx cy = absurd (omega (arith, cx.0.1, cx.1))
alone W (inr h) x y cx cy = h x y cx.0.0 cy.0.0

module _ {A B : Order} (r_a : Ranked A) (r_b : Ranked B) where
  first_under : (a a' : A.Elem) (b : B.Elem) → A.Under a a' → B.Exists b → (Pairs A B).Under (a, b) (a', b)
  first_under a a' b u e = let p = r_a.exist _ _ u in ((p.0, e), (p.1, e), left u refl)

  second_under : (a : A.Elem) (b b' : B.Elem) → A.Exists a → B.Under b b' → (Pairs A B).Under (a, b) (a, b')
  second_under a b b' e u = let p = r_b.exist _ _ u in ((e, p.0), (e, p.1), right refl u)

  only_second : (a : A.Elem) (b : B.Elem) (lb : List B.Elem) → A.Exists a → A.rank a ≡ A.top → Above B b lb
      → Above (Pairs A B) (a, b) (map (λ y. (a, y)) lb)
  unfolding Chain
  only_second a b [] e h c = omega (arith, c)
  only_second a b (b' ∷ lb) e h c = (second_under a b b' e c.0, only_second a b' lb e h c.1)

  in_turn_above : (a : A.Elem) (b : B.Elem) (la : List A.Elem) (lb : List B.Elem) → A.Exists a → B.Exists b
      → Above A a la → Above B b lb → Above (Pairs A B) (a, b) (in_turn a b la lb)
  unfolding Chain in_turn
  in_turn_above a b [] lb ea eb ca cb = only_second a b lb ea ca cb
  in_turn_above a b (a' ∷ la) lb ea eb ca cb =
      (first_under a a' b ca.0 eb, in_turn_above a' b la lb (r_a.exist _ _ ca.0).1 eb ca.1 cb)

  both_flag : (la : List A.Elem) (lb : List B.Elem) → Flag A la → Flag B lb → Flag (Pairs A B) (both la lb)
  unfolding Chain both
  both_flag [] lb ca cb = absurd ca
  both_flag (a ∷ la) [] ca cb = absurd cb
  both_flag (a ∷ la) (b ∷ lb) ca cb =
      (lowest_pair A B a b ca.0 cb.0, in_turn_above a b la lb ca.0.0 cb.0.0 ca.1 cb.1)

  -- A step of the second factor sinks through the steps of the first.
  sink : (a : A.Elem) (b b' : B.Elem) (la : List A.Elem) (lb : List B.Elem) → B.Under b b' → Above A a la
      → Above B b' lb → WayAbove A B (a, b) ((a, b') ∷ in_turn a b' la lb) (in_turn a b la (b' ∷ lb))
  unfolding Chain in_turn
  sink a b b' [] lb u ca cb = start
  sink a b b' (a' ∷ la) lb u ca cb =
      let eb = r_b.exist _ _ u in
      let ea = (r_a.exist _ _ ca.0).1 in
      let s = first_under a a' b ca.0 eb.0 in
      let c = in_turn_above a' b' la lb ea eb.1 ca.1 cb in
      Reach-then (next start (first, (s, (second_under a' b b' ea u, c))))
      (moves_later (a', b) (λ l c. (s, c)) (sink a' b b' la lb u ca.1 cb))

  -- Where the steps of the second factor come first, all of them sink.
  sink_all : (a : A.Elem) (b : B.Elem) (la : List A.Elem) (lb : List B.Elem) → A.Exists a → Above A a la
      → Above B b lb → WayAbove A B (a, b) (map swap (in_turn b a lb la)) (in_turn a b la lb)
  unfolding Chain in_turn
  sink_all a b la [] e ca cb = Reach-same (same a la)
    where
      same : (a : A.Elem) (la : List A.Elem) → map swap (map (λ y. (b, y)) la) ≡ in_turn a b la []
      same a [] = refl
      same a (a' ∷ la) = ap (λ l. (a', b) ∷ l) (same a' la)
  sink_all a b la (b' ∷ lb) e ca cb =
      let s = second_under a b b' e cb.0 in
      Reach-then (moves_later (a, b') (λ l c. (s, c)) (sink_all a b' la lb e ca cb.1))
      (sink a b b' la lb cb.0 ca cb.1)

  -- The same of two flags.
  sink_flag : (la : List A.Elem) (lb : List B.Elem) → Flag A la → Flag B lb
      → Way A B (map swap (both lb la)) (both la lb)
  unfolding Chain both
  sink_flag [] lb ca cb = absurd ca
  sink_flag (a ∷ la) [] ca cb = absurd cb
  sink_flag (a ∷ la) (b ∷ lb) ca cb =
      moves_later (a, b) (λ l c. (lowest_pair A B a b ca.0 cb.0, c))
      (sink_all a b la lb ca.0.0 ca.1 cb.1)

  -- A pair more, y over x, before a chain whose parts are known.
  one_more : (x y : A.Elem × B.Elem) (l : List (A.Elem × B.Elem)) → (Pairs A B).Under x y → PartsAbove A B y l
      → Step A.Under B.Under x y → PartsAbove A B x (y ∷ l)
  unfolding Chain in_turn
  one_more x y l r n (left u e) = record {
    la = y.0 ∷ n.la;
    lb = n.lb;
    has_p = (u, n.has_p);
    has_q = rw e n.has_q;
    way = Reach-then (moves_later y (λ l c. (r, c)) n.way)
        (Reach-same (ap (λ b. (y.0, b) ∷ in_turn y.0 b n.la n.lb) (sym e)));
  }
  one_more x y l r n (right e u) =
      let up : Above A x.0 n.la = rw e n.has_p in
      record {
        la = n.la;
        lb = y.1 ∷ n.lb;
        has_p = up;
        has_q = (u, n.has_q);
        way = Reach-then (moves_later y (λ l c. (r, c)) n.way)
            (Reach-then (Reach-same (ap (λ a. (a, y.1) ∷ in_turn a y.1 n.la n.lb) (sym e)))
            (sink x.0 x.1 y.1 n.la n.lb u up n.has_q));
      }

  parts_above : (x : A.Elem × B.Elem) (l : List (A.Elem × B.Elem)) → (Pairs A B).Exists x → Above (Pairs A B) x l
      → PartsAbove A B x l
  unfolding Chain in_turn
  parts_above x [] e c = record {
    la = [];
    lb = [];
    has_p = omega (arith, c, r_a.cap _ e.0, r_b.cap _ e.1);
    has_q = omega (arith, c, r_a.cap _ e.0, r_b.cap _ e.1);
    way = start;
  }
  parts_above x (y ∷ l) e c = one_more x y l c.0 (parts_above y l c.0.1 c.1) c.0.2

  parts : (l : List (A.Elem × B.Elem)) → Flag (Pairs A B) l
      → Parts (Flag A) (Flag B) (λ la lb. Way A B l (both la lb))
  unfolding Chain both
  parts [] c = absurd c
  parts (x ∷ l) c =
      let n = parts_above x l c.0.0 c.1 in
      record {
        la = x.0 ∷ n.la;
        lb = x.1 ∷ n.lb;
        has_p = ((c.0.0.0, omega (arith, c.0.1)), n.has_p);
        has_q = ((c.0.0.1, omega (arith, c.0.1)), n.has_q);
        way = moves_later x (λ l d. (c.0, d)) n.way;
      }

module _ {A B : Order} (r_a : Ranked A) (r_b : Ranked B) where
  -- A move above an element of the first factor is one move where the steps of the second come first.
  later_goes : (a : A.Elem) (b : B.Elem) (l m : List A.Elem) (lb : List B.Elem) → A.Exists a → B.Exists b
      → Above A a l → Above A a m → Above B b lb → Near l m → WayAbove A B (a, b) (in_turn a b l lb) (in_turn a b m lb)
  unfolding Pairs-swap
  later_goes a b l m lb ea eb cl cm cb n =
      Reach-then (moves_back (over l cl) (sink_all r_a r_b a b l lb ea cl cb))
      (Reach-then (next start (near_map swap (near_second b a lb n), over m cm)) (sink_all r_a r_b a b m lb ea cm cb))
    where
      over : (l : List A.Elem) → Above A a l → Above (Pairs A B) (a, b) (map swap (in_turn b a lb l))
      over l c =
          renumbered_above (Pairs-ranked r_b r_a) (Pairs-swap B A) (b, a) (in_turn b a lb l) (eb, ea)
          (in_turn_above r_b r_a b a lb l eb ea cb c)

  module _ (t : Thick A) (b : B.Elem) (lb : List B.Elem) (cb : Flag B (b ∷ lb)) where
    -- A move of the first element is one move if there are steps above it. Else there is no other element.
    first_goes : (x y : A.Elem) (l : List A.Elem) → Flag A (x ∷ l) → Flag A (y ∷ l)
        → Way A B (both (x ∷ l) (b ∷ lb)) (both (y ∷ l) (b ∷ lb))
    unfolding both in_turn
    first_goes x y [] cx cy = Reach-same (ap (λ a. both (a ∷ []) (b ∷ lb)) (alone A t x y cx cy))
    first_goes x y (a ∷ l) cx cy = next start (first, both_flag r_a r_b (y ∷ a ∷ l) (b ∷ lb) cy cb)

    move_goes : {l m : List A.Elem} → Near l m → Flag A l → Flag A m → Way A B (both l (b ∷ lb)) (both m (b ∷ lb))
    unfolding Chain both
    move_goes (first {x = x} {y = y} {l = l}) cl cm = first_goes x y l cl cm
    move_goes (later {x = x} {l = l} {m = m} n) cl cm =
        moves_later (x, b) (λ l c. (lowest_pair A B x b cl.0 cb.0, c))
        (later_goes x b l m lb cl.0.0 cb.0.0 cl.1 cm.1 cb.1 n)

  first_factor : Thick A → Connected A → (l m : List A.Elem) (lb : List B.Elem) → Flag A l → Flag A m → Flag B lb
      → Way A B (both l lb) (both m lb)
  unfolding Connected Chain
  first_factor t c l m [] cl cm cb = absurd cb
  first_factor t c l m (b ∷ lb) cl cm cb =
      Reach-bind (λ k. both k (b ∷ lb)) (λ l m r. move_goes t b lb cb r.1.0 r.0 r.1.1)
      (Reach-kept (λ l m r. r.1) cl (c l m cl cm))

module _ {A B : Order} (r_a : Ranked A) (r_b : Ranked B) where
  -- With the factors exchanged the second one is the first.
  second_factor : Thick B → Connected B → (la : List A.Elem) (l m : List B.Elem) → Flag A la → Flag B l
      → Flag B m → Way A B (both la l) (both la m)
  unfolding Pairs-swap
  second_factor t c la l m ca cl cm =
      let over = renumbered_flag (Pairs-ranked r_b r_a) (Pairs-swap B A) in
      Reach-then (moves_back (over _ (both_flag r_b r_a l la cl ca)) (sink_flag r_a r_b la l ca cl))
      (Reach-then (Reach-map (map swap) (λ l m r. (near_map swap r.0, over m r.1))
      (first_factor r_b r_a t c l m la cl cm ca)) (sink_flag r_a r_b la m ca cm))

  pub Pairs-connected : Thick A → Thick B → Connected A → Connected B → Connected (Pairs A B)
  unfolding Connected
  Pairs-connected t_a t_b c_a c_b l m cl cm =
      let p = parts r_a r_b l cl in
      let q = parts r_a r_b m cm in
      Reach-then p.way
      (Reach-then (first_factor r_a r_b t_a c_a p.la q.la p.lb p.has_p q.has_p p.has_q)
      (Reach-then (second_factor t_b c_b q.la p.lb q.lb q.has_p p.has_q q.has_q)
      (moves_back cm q.way)))
