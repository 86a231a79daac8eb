-- Laws of a walk that counts what it meets: what has been walked without refusal, one step or one list more, the end.
-- Then where the walk goes, the indices met once, and the sections under an element as a whole.
-- Assumes nothing.
use mathlib.Core.Path.{◌≡◌, refl, sym, ap, ◌∙◌, subst}
use mathlib.Core.Bool.{Bool, true, false, cond}
use mathlib.Core.List.{List, [], ◌∷◌, ◌++◌, append_assoc, append-nil}
use Prim.Native.Nat.{ℕ, suc, ◌+◌, ◌-◌, ◌*◌, ◌≤◌, ◌<◌}
use native.Mathlib.Numerals.{add-one}
use native.Mathlib.Omega.{arith}
use borrow.Author.Tests.{eqb-true, eqb-false, eq-eqb, ne_eqb, le-leb, lt-leb}
use lib.Dec.{leb, eqb}
use lib.ListN.{length, get_or, take, drop, set, length-set, replicate, length-replicate, get_or-replicate}
use lib.Seq.{take-suc, take_all, split_at, get_or-set_same, get_or-set_other}
use Rattle.order.specs.Lists.{In, occurs}
use Rattle.order.proofs.Positions.{in_at}
use Rattle.listing.specs.Answers.{fine, on, ◌or_else◌, first_of}
use Rattle.listing.specs.Listing.{Listing, Limits, count, before, entries, subs}
use Rattle.listing.specs.Shape.{Shaped}
use Rattle.listing.specs.declared.Answer.{Answer}
use Rattle.listing.specs.declared.Refusal.{Refusal}
use Rattle.listing.specs.Told.{answer_of, told}
use Rattle.listing.proofs.Told.{refuses, told_err, of_ok, of_over}
use Rattle.listing.proofs.Listing.{before_zero, before_next}
use Rattle.listing.proofs.Answers.{or_fine, or_stop, or_no, no_or, on_off, stops, then_stop, then_go}
use Rattle.std.proofs.Common.{Result}
use Rattle.std.specs.Result.{IsErrAnd}
use Rattle.listing.proofs.Answers.{of_stop, of_next, of_end, or_assoc, of_same}
use Rattle.valid_incidence.specs.Incidence.{Incident}
use Rattle.valid_incidence.proofs.Turns.{all}
use Rattle.listing.proofs.Places.{side_fits, few_in_rank}
use Rattle.valid_diamond.specs.Dyadic.{subs_of_all, walk, third_test, seen_after, lone_test, third, lone}
use Rattle.valid_diamond.specs.Dyadic.{sections_test, dyadic_test}
use Rattle.valid_diamond.specs.Tally.{Tally, Tallied, lone_in, Walkable}

-- ---- one walk after another

seen_append : (s a b : List ℕ) → seen_after s (a ++ b) ≡ seen_after (seen_after s a) b
unfolding seen_after
seen_append s [] b = refl
seen_append s (x ∷ a) b = seen_append (x ∷ s) a b

module _ (f : ℕ → Answer) where
  third_append : (s a b : List ℕ) → third_test f s (a ++ b) ≡ third_test f s a or_else third_test f (seen_after s a) b
  unfolding third_test seen_after
  third_append s [] b = sym (or_fine fine _ refl)
  third_append s (x ∷ a) b =
      ap (λ (t : Answer). on (leb 2 (occurs x s)) (f x) or_else t) (third_append (x ∷ s) a b) ∙ or_assoc _ _ _

  -- with no refusal there is nothing to carry
  third_fine : (s l : List ℕ) → (third_test f s l).no ≡ 0 → third_test f s l ≡ fine
  unfolding third_test
  third_fine s [] e = refl
  third_fine s (x ∷ l) e =
      let p = or_no (on (leb 2 (occurs x s)) (f x)) (third_test f (x ∷ s) l) e in
      or_fine _ _ p.0 ∙ third_fine (x ∷ s) l p.1

  third_one : (s : List ℕ) (x : ℕ) → 2 ≤ occurs x s → ((f x).no ≡ 0 → ⊥) → third_test f s (x ∷ []) ≡ f x
  unfolding third_test
  third_one s x h z = rw (le-leb 2 (occurs x s) h) (or_stop (f x) _ z)

  third_none : (s : List ℕ) (x : ℕ) → occurs x s < 2 → (third_test f s (x ∷ [])).no ≡ 0
  unfolding third_test
  third_none s x h = no_or _ _ (on_off _ (f x) (lt-leb 2 (occurs x s) h)) refl

-- ---- the tally

-- one number more
tally_one : {n : ℕ} (t seen : List ℕ) (x : ℕ) → x < n → Tally n t seen → Tally n (set t x (get_or t x 0 + 1)) (x ∷ seen)
unfolding occurs
tally_one {n} t seen x h T = record { whole = length-set t x _ ∙ T.whole; counts = λ y k. go y k (eqb x y) refl }
  where
    go : (y : ℕ) → y < n → (b : Bool) → eqb x y ≡ b
        → get_or (set t x (get_or t x 0 + 1)) y 0 ≡ cond (eqb x y) (suc (occurs y seen)) (occurs y seen)
    go y k true e =
        let q = eqb-true x y e in
        let l : x < length t = omega (arith, T.whole) in
        rw (e, ← q, get_or-set_same t x (get_or t x 0 + 1) 0 l) (omega (arith, T.counts x h))
    go y k false e = rw (e, get_or-set_other t x y (get_or t x 0 + 1) 0 (λ q. eqb-false x y e (sym q))) (T.counts y k)

-- nothing seen
pub tally_zero : (n : ℕ) → Tally n (replicate n 0) []
unfolding occurs
tally_zero n = record { whole = length-replicate n 0; counts = λ x h. get_or-replicate n x 0 0 h }

-- ---- what has been walked

-- no refusal in `done`, and the tally counts it on top of what was seen before
pub record Walked (n : ℕ) (f : ℕ → Answer) (t seen done : List ℕ) : Type 0 where
  pub clear : (third_test f seen done).no ≡ 0
  pub tally : Tally n t (seen_after seen done)

module _ {n : ℕ} (f : ℕ → Answer) {t : List ℕ} (seen : List ℕ) where
  pub walked_none : Tally n t seen → Walked n f t seen []
  unfolding third_test seen_after
  walked_none T = record { clear = refl; tally = T }

  walked_one : (x : ℕ) → x < n → Tally n t seen → get_or t x 0 < 2
      → Walked n f (set t x (get_or t x 0 + 1)) seen (x ∷ [])
  unfolding seen_after
  walked_one x h T k = record {
    clear = third_none f seen x (omega (arith, T.counts x h));
    tally = tally_one t seen x h T;
  }

  module _ {done : List ℕ} (w : Walked n f t seen done) where
    walked_more : {u : List ℕ} (more : List ℕ) → Walked n f u (seen_after seen done) more
        → Walked n f u seen (done ++ more)
    walked_more more v = record {
      clear = ap (λ (a : Answer). a.no) (third_append f seen done more ∙ or_fine _ _ w.clear) ∙ v.clear;
      tally = rw seen_append v.tally;
    }

    -- a refusal decides, whatever would come after
    walked_stop : {u : List ℕ} {a : Answer} (more rest : List ℕ) → a ≡ third_test f (seen_after seen done) more
        → (a.no ≡ 0 → ⊥) → Tallied n u f seen (done ++ (more ++ rest)) a
    walked_stop more rest e h = record {
      answer = sym (
          third_append f seen done (more ++ rest)
          ∙ or_fine _ _ w.clear
          ∙ third_append f (seen_after seen done) more rest
          ∙ or_stop _ _ (stops e h)
          ∙ sym e);
      tally = λ z. absurd (h z);
    }

    walked_all : {a : Answer} → a ≡ fine → Tallied n t f seen done a
    walked_all e = record { answer = e ∙ sym (third_fine f seen done w.clear); tally = λ z. w.tally }

-- what a callee tallied without refusal has been walked
tallied_walked : {n : ℕ} {t : List ℕ} {f : ℕ → Answer} {seen l : List ℕ} → Tallied n t f seen l fine
    → Walked n f t seen l
tallied_walked T = record { clear = ap (λ (a : Answer). a.no) (sym T.answer); tally = T.tally refl }

-- ---- along one list

-- what holds of each of a list's indices holds of the one at a place
pub inside_at : (l : List ℕ) (n j : ℕ) → ((x : ℕ) → In x l → x < n) → j < length l → get_or l j 0 < n
inside_at l n j f h = f (get_or l j 0) (in_at l j h)

-- the index at place j is x, and x had been met less than twice, or twice
module _ {n : ℕ} {t : List ℕ} (seen l : List ℕ) (j : ℕ) (inside : (x : ℕ) → In x l → x < n) (h : j < length l)
    (x : ℕ) (e : x ≡ get_or l j 0) where
  pub list_more : (f : ℕ → Answer) → Walked n f t seen (take j l) → get_or t x 0 < 2
      → Walked n f (set t x (get_or t x 0 + 1)) seen (take (j + 1) l)
  list_more f w g =
      let k : x < n = omega (arith, inside_at l n j inside h) in
      rw (add-one j, take-suc l j 0 h, ← e)
      (walked_more f seen w (x ∷ []) (walked_one f (seen_after seen (take j l)) x k w.tally g))

  pub list_halt : {u : List ℕ} (r i : ℕ) → Walked n (third r i) t seen (take j l) → 2 ≤ get_or t x 0
      → Tallied n u (third r i) seen l (third r i (get_or l j 0))
  list_halt {u} r i w g =
      let f = third r i in
      let y = get_or l j 0 in
      let s = seen_after seen (take j l) in
      let c = w.tally.counts x (omega (arith, inside_at l n j inside h)) ∙ ap (λ (v : ℕ). occurs v s) e in
      let o = third_one f s y (omega (arith, c)) (λ z. omega arith) in
      let a = walked_stop f seen w {u = u} (y ∷ []) (drop (suc j) l) (sym o) (λ z. omega arith) in
      subst (λ (m : List ℕ). Tallied n u f seen m (f y)) (sym (split_at l j 0 h)) a

pub list_done : {n : ℕ} (f : ℕ → Answer) {t : List ℕ} (seen l : List ℕ) (j : ℕ) → Walked n f t seen (take j l)
    → length l ≤ j → Tallied n t f seen l fine
list_done f seen l j w h = rw (take_all j l h) at (walked_all f seen w refl)

-- ---- along the subs of a list's elements

module _ (ends inc : List ℕ) (b : ℕ) where
  abbrev pub subs_of : ℕ → List ℕ
  subs_of s = entries ends inc (2 * (b + s) + 0)

  abbrev walk_of : List ℕ → List ℕ
  walk_of l = subs_of_all ends inc b l

  walk_append : (l m : List ℕ) → walk_of (l ++ m) ≡ walk_of l ++ walk_of m
  unfolding subs_of_all
  walk_append [] m = refl
  walk_append (s ∷ l) m =
      ap (λ (t : List ℕ). subs_of s ++ t) (walk_append l m) ∙ sym (append_assoc (subs_of s) (walk_of l) (walk_of m))

  pub walk_same : {c : ℕ} {l m : List ℕ} → b ≡ c → l ≡ m → subs_of_all ends inc b l ≡ subs_of_all ends inc c m
  walk_same p q = λ j. subs_of_all ends inc (p j) (q j)

  walk_one : (s : ℕ) → walk_of (s ∷ []) ≡ subs_of s
  unfolding subs_of_all
  walk_one s = append-nil (subs_of s)

  pub walk_next : (l : List ℕ) (j : ℕ) → j < length l
      → walk_of (take (j + 1) l) ≡ walk_of (take j l) ++ subs_of (get_or l j 0)
  walk_next l j h = rw (add-one, take-suc l j 0 h, walk_append, walk_one)

  walk_split : (l : List ℕ) (j : ℕ) → j < length l
      → walk_of l ≡ walk_of (take j l) ++ (subs_of (get_or l j 0) ++ walk_of (drop (suc j) l))
  unfolding subs_of_all
  walk_split l j h = ap walk_of (split_at l j 0 h) ∙ walk_append (take j l) (get_or l j 0 ∷ drop (suc j) l)

  module _ {n : ℕ} (l : List ℕ) (j : ℕ) (W : Walkable ends inc b n l) (h : j < length l) where
    -- the list at place j is there, and its indices are below n
    pub list_there : 2 * (b + get_or l j 0) + 0 < length ends
    list_there = W.there (get_or l j 0) (in_at l j h)

    pub list_inside : {list : List ℕ} → list ≡ subs_of (get_or l j 0) → (x : ℕ) → In x list → x < n
    list_inside e x m = W.inside (get_or l j 0) x (in_at l j h) (rw e at m)

  module _ {n : ℕ} (f : ℕ → Answer) {t : List ℕ} (seen : List ℕ) where
    pub walk_none : Tally n t seen → Walked n f t seen (walk_of [])
    unfolding subs_of_all
    walk_none T = walked_none f seen T

    module _ (l : List ℕ) (j : ℕ) (w : Walked n f t seen (walk_of (take j l))) where
      -- a callee walks the list at place j: without refusal, and with one
      module _ {u : List ℕ} (h : j < length l) {list : List ℕ} (e : list ≡ subs_of (get_or l j 0)) where
        here : {a : Answer} → ((s : List ℕ) → Tally n t s → Tallied n u f s list a)
            → Tallied n u f (seen_after seen (walk_of (take j l))) (subs_of (get_or l j 0)) a
        here tallied = rw e at (tallied (seen_after seen (walk_of (take j l))) w.tally)

        pub walk_more : ((s : List ℕ) → Tally n t s → Tallied n u f s list fine)
            → Walked n f u seen (walk_of (take (j + 1) l))
        walk_more tallied =
            rw (walk_next l j h) (walked_more f seen w (subs_of (get_or l j 0)) (tallied_walked (here tallied)))

        pub walk_halt : {A : Type 0} (v : Result A Refusal) (d : Refusal) → IsErrAnd v (λ x. x ≡ d)
            → ((s : List ℕ) → Tally n t s → Tallied n u f s list (answer_of d))
            → Tallied n u f seen (walk_of l) (told v)
        walk_halt v d why tallied =
            let rest = walk_of (drop (suc j) l) in
            let stop = walked_stop f seen w (subs_of (get_or l j 0)) rest (here tallied).answer (refuses d) in
            rw (walk_split l j h, told_err v d why) stop

      pub walk_done : length l ≤ j → Tallied n t f seen (walk_of l) fine
      walk_done h = rw (take_all j l h) at (walked_all f seen w refl)

-- where test 2 passes, the subs of an element's subs can be walked
pub walkable : {m : Limits} (L : Listing) → Shaped m L → Incident L → (r i : ℕ) → i < count L r → {b : ℕ} {l : List ℕ}
    → b ≡ before L.counts (r - 1) → l ≡ subs L r i → Walkable L.ends L.inc b m.elements l
unfolding Incident
walkable L S I r i h p q =
    let sub : (s : ℕ) → In s (subs L r i) → s < count L (r - 1) = λ s k. ((I r i h).lower.each s k).1 in
    rw (p, q)
    record {
      there = λ s k. side_fits L S (r - 1) s 0 (sub s k) (omega arith);
      inside = λ s x k g.
          let b = ((I (r - 1) s (sub s k)).lower.each x g).1 in
          omega (arith, few_in_rank L S (r - 1 - 1));
    }

-- ---- the indices met once

module _ (W : Answer) (r i : ℕ) (t : List ℕ) (x n : ℕ)
    (e : W ≡ first_of (λ y. on (eqb (get_or t y 0) 1) (lone r i y)) x n) (h : x < n) (k : ℕ) (q : k ≡ x) where
  pub lone_stop : get_or t k 0 ≡ 1 → lone r i x ≡ W
  lone_stop c =
      let o : on (eqb (get_or t x 0) 1) (lone r i x) ≡ lone r i x = rw (eq-eqb (get_or t x 0) 1 (rw q at c)) in
      sym (of_stop W _ x n e h (stops (sym o) (λ z. omega arith)) ∙ o)

  pub lone_next : (get_or t k 0 ≡ 1 → ⊥)
      → W ≡ first_of (λ y. on (eqb (get_or t y 0) 1) (lone r i y)) (x + 1) n
  lone_next c = of_next W _ x n e h (on_off _ (lone r i x) (ne_eqb (get_or t x 0) 1 (rw q at c)))

-- the tally tells what was seen
pub lone_same : {n : ℕ} (f : ℕ → Answer) (t seen : List ℕ) (m : ℕ) → Tally n t seen → m ≤ n
    → lone_in f t m ≡ lone_test f seen m
unfolding lone_in lone_test
lone_same f t seen m T h =
    of_same _ _ 0 m (λ x _ k. ap (λ (c : ℕ). on (eqb c 1) (f x)) (T.counts x (omega arith)))

-- ---- an element's sections: the third occurrence, then the index met once

module _ (L : Listing) (r i : ℕ) where
  pub sections_stop : {a : Answer} → a ≡ third_test (third r i) [] (walk L r i) → (a.no ≡ 0 → ⊥)
      → a ≡ sections_test L r i
  unfolding sections_test
  sections_stop e h = then_stop _ e h

  pub sections_go : {a c : Answer} → a ≡ third_test (third r i) [] (walk L r i) → a.no ≡ 0
      → c ≡ lone_test (lone r i) (seen_after [] (walk L r i)) (count L (r - 2)) → c ≡ sections_test L r i
  unfolding sections_test
  sections_go e z f = then_go e z f

-- below rank 2 there are no sections
pub dyadic_low : (L : Listing) (h : ℕ) → h < 2 → fine ≡ dyadic_test L h
unfolding dyadic_test
dyadic_low L h k = sym (of_end _ _ 2 (h + 1) refl (omega arith))

-- ---- the ranks

-- rank 1 begins after rank 0
pub before_one : (counts : List ℕ) (n : ℕ) → n ≡ get_or counts 0 0 → n ≡ before counts (2 - 1)
before_one counts n e = omega (arith, e, before_next counts 0, before_zero counts)

-- the last rank passes
pub last_ok : (W : Answer) (f : ℕ → Answer) (i n : ℕ) → W ≡ first_of f i n → i < n → n ≤ i + 1 → fine ≡ f i → fine ≡ W
last_ok W f i n e h l z = of_over W f (i + 1) n (of_ok W f i n e h z) l

-- ---- for `using`

pub ruleset along_list = (inside_at, list_halt)

pub ruleset along_lists = (list_there, list_inside)

pub ruleset along_ranks = (all, dyadic_low, last_ok)
