-- The shape test's answer at each of its tests, and its exactness: it answers 0 exactly if the listing is Shaped.
-- Assumes nothing.
use mathlib.Core.Path.{◌≡◌, sym, ap, ◌∙◌}
use mathlib.Core.Bool.{Bool, true, false, ◌&&◌}
use mathlib.Core.List.{List, [], ◌∷◌}
use mathlib.Core.Logic.{◌↔◌}
use Prim.Native.Nat.{ℕ, zero, suc, ◌+◌, ◌*◌, ◌≤◌, ◌<◌}
use native.Mathlib.Nat.{le_of_suc-le-suc, not-suc-le-zero}
use native.Mathlib.Numerals.{add-one}
use native.Mathlib.Omega.{arith}
use borrow.Author.Tests.{eq-eqb, ne_eqb, lt-ltb, lt-leb, le-ltb, le-leb, eqb-true, eqb-false, leb-true, ltb-false, not-false}
use lib.Dec.{leb, eqb}
use lib.ListN.{length, get_or, drop, drop_of_length-le}
use lib.Seq.{drop-cons}
use Rattle.order.proofs.Tests.{and_true}
use Rattle.listing.specs.declared.Answer.{Answer}
use Rattle.listing.specs.Answers.{plain, fine, ◌or_else◌}
use Rattle.listing.specs.Refusals.{no_ranks, over_ranks, over_elements, wrong_ends, over_incidences, falling_ends}
use Rattle.listing.specs.Listing.{Listing, Limits, rank, start, Ends}
use Rattle.listing.specs.Shape.{fills, elements, shape_test, Shaped}
use Rattle.listing.proofs.Answers.{on_no, on_or_no}

-- ---- the ends, one at a time

pub fills_step : (l : List ℕ) (k : ℕ) → k < length l → (from n : ℕ)
    → fills from (drop k l) n ≡ leb from (get_or l k 0) && fills (get_or l k 0) (drop (k + 1) l) n
unfolding fills
fills_step l k h from n = rw (add-one, drop-cons l k 0 h)

pub fills_end : (l : List ℕ) (k : ℕ) → length l ≤ k → (from n : ℕ) → fills from (drop k l) n ≡ eqb from n
unfolding fills
fills_end l k h from n = ap (λ (t : List ℕ). fills from t n) (drop_of_length-le l h)

-- the same as a loop over the ends meets it, which keeps that the answer is that for the ends from k on
module _ (W : Bool) (from : ℕ) (l : List ℕ) (k n : ℕ) (e : W ≡ fills from (drop k l) n) where
  pub fill_halt : k < length l → get_or l k 0 < from → false ≡ W
  fill_halt h f = sym (e ∙ fills_step l k h from n ∙ rw (lt-leb _ _ f))

  pub fill_next : k < length l → from ≤ get_or l k 0 → W ≡ fills (get_or l k 0) (drop (k + 1) l) n
  fill_next h f = e ∙ fills_step l k h from n ∙ rw (le-leb _ _ f)

  pub fill_done : length l ≤ k → eqb from n ≡ W
  fill_done h = sym (e ∙ fills_end l k h from n)

pub ruleset filling = (fill_halt, fill_next, fill_done)

-- ---- the first test that fails decides

module _ (m : Limits) (L : Listing) where
  pub shape_1 : length L.counts ≡ 0 → shape_test m L ≡ plain no_ranks
  unfolding shape_test ◌or_else◌
  shape_1 h = rw (eq-eqb _ _ h)

  module _ (h1 : length L.counts ≡ 0 → ⊥) where
    pub shape_2 : m.ranks < length L.counts → shape_test m L ≡ plain over_ranks
    unfolding shape_test ◌or_else◌
    shape_2 h = rw (ne_eqb _ _ h1, lt-ltb _ _ h)

    module _ (h2 : length L.counts ≤ m.ranks) where
      pub shape_3 : m.elements < elements L → shape_test m L ≡ plain over_elements
      unfolding shape_test ◌or_else◌
      shape_3 h = rw (ne_eqb _ _ h1, le-ltb _ _ h2, lt-ltb _ _ h)

      module _ (h3 : elements L ≤ m.elements) where
        pub shape_4 : (length L.ends ≡ 2 * elements L → ⊥) → shape_test m L ≡ plain wrong_ends
        unfolding shape_test ◌or_else◌
        shape_4 h = rw (ne_eqb _ _ h1, le-ltb _ _ h2, le-ltb _ _ h3, ne_eqb _ _ h)

        module _ (h4 : length L.ends ≡ 2 * elements L) where
          pub shape_5 : m.incidences < length L.inc → shape_test m L ≡ plain over_incidences
          unfolding shape_test ◌or_else◌
          shape_5 h = rw (ne_eqb _ _ h1, le-ltb _ _ h2, le-ltb _ _ h3, eq-eqb _ _ h4, lt-ltb _ _ h)

          module _ (h5 : length L.inc ≤ m.incidences) where
            pub shape_6 : fills 0 L.ends (length L.inc) ≡ false → shape_test m L ≡ plain falling_ends
            unfolding shape_test ◌or_else◌
            shape_6 h = rw (ne_eqb _ _ h1, le-ltb _ _ h2, le-ltb _ _ h3, eq-eqb _ _ h4, le-ltb _ _ h5, h)

            pub shape_0 : fills 0 L.ends (length L.inc) ≡ true → shape_test m L ≡ fine
            unfolding shape_test ◌or_else◌
            shape_0 h = rw (ne_eqb _ _ h1, le-ltb _ _ h2, le-ltb _ _ h3, eq-eqb _ _ h4, le-ltb _ _ h5, h)

-- ---- the ends, said of each

fills_head : (from x : ℕ) (l : List ℕ) (n : ℕ) → fills from (x ∷ l) n ≡ true → (from ≤ x) × (fills x l n ≡ true)
unfolding fills
fills_head from x l n e = let p = and_true _ _ e in (leb-true from x p.0, p.1)

fills_rising : (from : ℕ) (l : List ℕ) (n : ℕ) → fills from l n ≡ true
    → (k : ℕ) → k < length l → get_or (from ∷ l) k 0 ≤ get_or l k 0
fills_rising from [] n e k h = absurd (not-suc-le-zero h)
fills_rising from (x ∷ l) n e zero h = (fills_head from x l n e).0
fills_rising from (x ∷ l) n e (suc k) h = fills_rising x l n (fills_head from x l n e).1 k (le_of_suc-le-suc h)

fills_full : (from : ℕ) (l : List ℕ) (n : ℕ) → fills from l n ≡ true → get_or (from ∷ l) (length l) 0 ≡ n
unfolding fills
fills_full from [] n e = eqb-true from n e
fills_full from (x ∷ l) n e = fills_full x l n (fills_head from x l n e).1

rising_fills : (from : ℕ) (l : List ℕ) (n : ℕ) → ((k : ℕ) → k < length l → get_or (from ∷ l) k 0 ≤ get_or l k 0)
    → get_or (from ∷ l) (length l) 0 ≡ n → fills from l n ≡ true
unfolding fills
rising_fills from [] n up e = eq-eqb from n e
rising_fills from (x ∷ l) n up e =
    rw (le-leb from x (up 0 (omega arith))) (rising_fills x l n (λ k h. up (suc k) (omega arith)) e)

-- the ends do not fall, begin at 0 or later, and come to n
pub fills_exact : (l : List ℕ) (n : ℕ) → fills 0 l n ≡ true
    ↔ (((k : ℕ) → k < length l → start l k ≤ get_or l k 0) × (start l (length l) ≡ n))
fills_exact l n = (λ e. (fills_rising 0 l n e, fills_full 0 l n e), λ p. rising_fills 0 l n p.0 p.1)

-- ---- exactness

pub shaped : (m : Limits) (L : Listing) → (shape_test m L).no ≡ 0 → Shaped m L
unfolding shape_test
shaped m L e =
    let p1 = on_or_no _ (plain no_ranks) _ (λ z. omega arith) e in
    let p2 = on_or_no _ (plain over_ranks) _ (λ z. omega arith) p1.1 in
    let p3 = on_or_no _ (plain over_elements) _ (λ z. omega arith) p2.1 in
    let p4 = on_or_no _ (plain wrong_ends) _ (λ z. omega arith) p3.1 in
    let p5 = on_or_no _ (plain over_incidences) _ (λ z. omega arith) p4.1 in
    let f = not-false _ (on_no _ (plain falling_ends) (λ z. omega arith) p5.1) in
    let h1 : length L.counts ≡ 0 → ⊥ = eqb-false _ _ p1.0 in
    record {
      some_rank = omega arith;
      few_ranks = ltb-false _ _ p2.0;
      few_elements = ltb-false _ _ p3.0;
      two_ends_each = eqb-true _ _ (not-false _ p4.0);
      few_incidences = ltb-false _ _ p5.0;
      rising = fills_rising 0 L.ends (length L.inc) f;
      full = fills_full 0 L.ends (length L.inc) f;
    }

unshaped : (m : Limits) (L : Listing) → Shaped m L → shape_test m L ≡ fine
unshaped m L s =
    shape_0 m L (λ e. omega (arith, s.some_rank))
    s.few_ranks s.few_elements s.two_ends_each s.few_incidences
    (rising_fills 0 L.ends (length L.inc) s.rising s.full)

-- The shape test answers 0 exactly if the listing is Shaped.
pub shape_exact : (m : Limits) (L : Listing) → (shape_test m L).no ≡ 0 ↔ Shaped m L
shape_exact m L = (shaped m L, λ s. ap (λ (a : Answer). a.no) (unshaped m L s))

-- ---- what code needs of a shaped listing's ends

rising_le : (from : ℕ) (l : List ℕ) → ((k : ℕ) → k < length l → get_or (from ∷ l) k 0 ≤ get_or l k 0)
    → (k : ℕ) → k ≤ length l → get_or (from ∷ l) k 0 ≤ get_or (from ∷ l) (length l) 0
rising_le from [] up zero h = omega arith
rising_le from [] up (suc k) h = absurd (omega arith)
rising_le from (x ∷ l) up zero h =
    let r = rising_le x l (λ k p. up (suc k) (omega arith)) zero (omega arith) in
    omega (arith, up 0 (omega arith))
rising_le from (x ∷ l) up (suc k) h = rising_le x l (λ j p. up (suc j) (omega arith)) k (omega arith)

-- the ranks of a shaped listing, and its ends
pub shaped_ranks : {m : Limits} (L : Listing) → Shaped m L → suc (rank L) ≡ length L.counts
shaped_ranks L s = omega (arith, s.some_rank)

pub shaped_ends : {m : Limits} (L : Listing) → Shaped m L → Ends L.ends L.inc
shaped_ends L s =
    record {
      rising = s.rising;
      inside = λ k h. omega (arith, rising_le 0 L.ends s.rising (suc k) h, s.full);
    }

-- each test is passed
pub shaped_by : (m : Limits) (L : Listing) → (length L.counts ≡ 0 → ⊥) → length L.counts ≤ m.ranks
    → elements L ≤ m.elements → length L.ends ≡ 2 * elements L → length L.inc ≤ m.incidences
    → fills 0 L.ends (length L.inc) ≡ true → Shaped m L
shaped_by m L h1 h2 h3 h4 h5 h = shaped m L (ap (λ (x : Answer). x.no) (shape_0 m L h1 h2 h3 h4 h5 h))

-- what the shape test answers, one law for each way through it
pub ruleset shape = (shape_1, shape_2, shape_3, shape_4, shape_5, shape_6, shape_0, shaped_by)
