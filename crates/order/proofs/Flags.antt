-- What moves reach, turned back and with an element more before all; and connected structures, renumbered and turned
-- over.
-- Assumes nothing.
use mathlib.Core.Path.{◌≡◌, refl, sym, ap₂, ◌∙◌, subst}
use mathlib.Core.List.{List, [], ◌∷◌, map, reverse, reverse_aux, reverse-reverse, map-id}
use native.Mathlib.Omega.{arith}
use Rattle.order.specs.Structure.{Order, Ranked, turned, Renumbering}
use Rattle.order.specs.Steps.{Reach, start, next}
use Rattle.order.specs.Flags.{Near, first, later, Chain, Above, Lowest, Flag, Moves, Connected}
use Rattle.order.proofs.Renumbering.{Renumbering-back, turned-ranked, turned-turned}
use Rattle.order.proofs.Steps.{Reach-then, Reach-same, Reach-back, Reach-kept, Reach-bind, Reach-map}

near_back : {E : Type 0} {l m : List E} → Near l m → Near m l
near_back first = first
near_back (later n) = later (near_back n)

pub near_map : {E F : Type 0} (f : E → F) {l m : List E} → Near l m → Near (map f l) (map f m)
near_map f first = first
near_map f (later n) = later (near_map f n)

-- From a list to one near it that has C. Moves are such steps, with the chains for C.
abbrev NearWith : {E : Type 0} → (List E → Type 0) → List E → List E → Type 0
NearWith C l m = Near l m × C m

pub moves_back : {E : Type 0} {C : List E → Type 0} {l m : List E} → C l → Reach (NearWith C) l m
    → Reach (NearWith C) m l
moves_back c q = Reach-back (λ l m r. (near_back r.1.0, r.0)) (Reach-kept (λ l m r. r.1) c q)

pub moves_later : {E : Type 0} {C D : List E → Type 0} (x : E) → ((l : List E) → C l → D (x ∷ l)) → {l m : List E}
    → Reach (NearWith C) l m → Reach (NearWith D) (x ∷ l) (x ∷ m)
moves_later x longer q = Reach-map (λ l. x ∷ l) (λ l m r. (later r.0, longer m r.1)) q

-- A structure is connected where each of its flags is made from a flag of a connected one, and ways from moves.
pub connected_from : (A B : Order) (f : List A.Elem → List B.Elem)
    → ((l : List B.Elem) → Flag B l → (m : List A.Elem) × Flag A m × (f m ≡ l))
    → ((l m : List A.Elem) → Near l m → Flag A m → Reach (Moves B (Lowest B) ⊥) (f l) (f m))
    → Connected A → Connected B
unfolding Connected
connected_from A B f made go c l m fl fm =
    let p = made l fl in
    let q = made m fm in
    Reach-then (Reach-same (sym p.2))
    (Reach-then (Reach-bind f (λ l m r. go l m r.0 r.1) (c _ _ p.1 q.1)) (Reach-same q.2))

-- ---- renumbered

module _ {A B : Order} (r_a : Ranked A) (f : Renumbering A B) where
  pub renumbered_above : (x : A.Elem) (l : List A.Elem) → A.Exists x → Above A x l
      → Above B (f.to x) (map f.to l)
  unfolding Chain
  renumbered_above x [] e c = f.same_rank x e ∙ c ∙ sym f.same_top
  renumbered_above x (y ∷ l) e c = (f.to_under x y c.0, renumbered_above y l (r_a.exist x y c.0).1 c.1)

  pub renumbered_flag : (l : List A.Elem) → Flag A l → Flag B (map f.to l)
  unfolding Chain
  renumbered_flag [] c = absurd c
  renumbered_flag (x ∷ l) c =
      let e = c.0.0 in
      ((f.to_exists x e, f.same_rank x e ∙ c.0.1), renumbered_above x l e c.1)

  -- A chain of elements that exist, there and back again.
  there_and_back : (First : A.Elem → Type 0) (None : Type 0) → ((x : A.Elem) → First x → A.Exists x)
      → (l : List A.Elem) → Chain A First None l → map f.from (map f.to l) ≡ l
  unfolding Chain
  there_and_back First None ex [] c = refl
  there_and_back First None ex (x ∷ l) c =
      ap₂ (λ y k. y ∷ k) (f.from_to x (ex x c.0))
      (there_and_back (A.Under x) (A.rank x ≡ A.top) (λ y u. (r_a.exist x y u).1) l c.1)

pub Renumbering-connected : {A B : Order} → Ranked A → Ranked B → Renumbering A B → Connected A → Connected B
unfolding Renumbering-back
Renumbering-connected {A} {B} r_a r_b f c =
    let g = Renumbering-back f in
    connected_from A B (map f.to)
    (λ l c. (map f.from l, renumbered_flag r_b g l c, there_and_back r_b g (Lowest B) ⊥ (λ x e. e.0) l c))
    (λ l m n c. next start (near_map f.to n, renumbered_flag r_a f m c)) c

-- ---- turned over

near_over : {E : Type 0} (s : List E) {l m : List E} → Near l m → Near (reverse_aux s l) (reverse_aux s m)
near_over [] n = n
near_over (x ∷ s) n = near_over s (later n)

near_reverse : {E : Type 0} (s : List E) {l m : List E} → Near l m → Near (reverse_aux l s) (reverse_aux m s)
near_reverse s (first {l = l}) = near_over l first
near_reverse s (later {x = x} n) = near_reverse (x ∷ s) n

module _ {W : Order} (r_w : Ranked W) where
  reverse_above : (x : W.Elem) (l s : List W.Elem) → W.Exists x → Above W x l → Above (turned W) x s
      → Flag (turned W) (reverse_aux l (x ∷ s))
  unfolding Chain
  reverse_above x [] s e c d = ((e, omega (arith, c)), d)
  reverse_above x (y ∷ l) s e c d = reverse_above y l (x ∷ s) (r_w.exist x y c.0).1 c.1 (c.0, d)

  reverse_flag : (l : List W.Elem) → Flag W l → Flag (turned W) (reverse l)
  unfolding Chain
  reverse_flag [] c = absurd c
  reverse_flag (x ∷ l) c = reverse_above x l [] c.0.0 c.1 (omega (arith, c.0.1))

pub turned-connected : {W : Order} → Ranked W → Connected W → Connected (turned W)
unfolding Renumbering-back turned-turned
turned-connected {W} r_w c =
    connected_from W (turned W) reverse (λ l c. (reverse l, back l c, reverse-reverse l))
    (λ l m n c. next start (near_reverse [] n, reverse_flag r_w m c)) c
  where
    back : (l : List W.Elem) → Flag (turned W) l → Flag W (reverse l)
    back l c =
        let t_w = turned-ranked r_w in
        let f = Renumbering-back (turned-turned r_w) in
        subst (Flag W) (map-id (reverse l)) (renumbered_flag (turned-ranked t_w) f (reverse l) (reverse_flag t_w l c))
