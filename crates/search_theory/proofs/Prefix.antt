-- With less room the search is the same until it is full: it holds the first things that a search with more room finds.
-- Assumes nothing.
use mathlib.Core.Path.{◌≡◌, refl, sym, ap, ◌∙◌}
use mathlib.Core.Logic.{◌⊎◌, inl, inr, ⊎_elim}
use mathlib.Core.Bool.{Bool, true, false}
use mathlib.Core.List.{List, [], ◌∷◌}
use Prim.Native.Nat.{ℕ, suc, ◌≤◌, ◌<◌}
use native.Mathlib.Numerals.{add-one}
use native.Mathlib.Omega.{arith}
use lib.ListN.{length, take}
use lib.Seq.{take_all, take_at}
use Rattle.search_theory.specs.Search.{State, unbegun, overfull, meet, meet_all, work, run, search}
use Rattle.search_theory.specs.Search.{Neighbour, Decides, Proper}
use Rattle.search_theory.proofs.Step.{meet_stop, meet_again, meet_new, meet_cases, meets_overflow, meet_fits}
use Rattle.search_theory.proofs.Step.{meets_fits}
use Rattle.search_theory.proofs.Run.{run_next, run_stop, run_end, run_ends}
use Rattle.search_theory.proofs.Grown.{Grown, Grown-trans, meet_grown, meets_grown, work_grown}
use Rattle.search_theory.proofs.Proper.{search_proper}

-- s is full with n, and t came of the state before
record Cut {A : Type 0} (n : ℕ) (s t : State A) : Type 0 where
  before : State A
  is : s ≡ overfull before
  grown : Grown before t
  many : length before.found ≡ n

Cut-overflow : {A : Type 0} {n : ℕ} {s t : State A} → Cut n s t → s.overflow ≡ true
Cut-overflow c = ap (λ s. s.overflow) c.is

Cut-grown : {A : Type 0} {n : ℕ} {s t u : State A} → Cut n s t → Grown t u → Cut n s u
Cut-grown c g = record { before = c.before; is = c.is; grown = Grown-trans c.grown g; many = c.many }

-- two states with room for n and for more: they are the same, or the first is full
abbrev Ahead : {A : Type 0} → ℕ → State A → State A → Type 0
Ahead n s t = (s ≡ t) ⊎ Cut n s t

module _ {A : Type 0} (same : A → A → Bool) (n m : ℕ) (le : n ≤ m) where
  meet_ahead : (b : ℕ) (s : State A) (y : A) → length s.found ≤ n → Ahead n (meet same n b s y) (meet same m b s y)
  meet_ahead b s y h =
      meet_cases same n b s y (λ t. Ahead n t (meet same m b s y))
      (λ o. inl (sym (meet_stop same m b s y o)))
      (λ o i. inl (sym (meet_again same m b s y o i)))
      (λ o i r. inl (sym (meet_new same m b s y o i (omega arith))))
      (λ o i r. inr (record { before = s; is = refl; grown = meet_grown same m b s y; many = omega arith }))

  meets_ahead : (b : ℕ) (s : State A) (l : List A) → length s.found ≤ n
      → Ahead n (meet_all same n b s l) (meet_all same m b s l)
  unfolding meet_all
  meets_ahead b s [] h = inl refl
  meets_ahead b s (y ∷ l) h = go (meet_ahead b s y h) (meets_ahead b (meet same n b s y) l (meet_fits same n b s y h))
    where
      go : Ahead n (meet same n b s y) (meet same m b s y)
          → Ahead n (meet_all same n b (meet same n b s y) l) (meet_all same m b (meet same n b s y) l)
          → Ahead n (meet_all same n b s (y ∷ l)) (meet_all same m b s (y ∷ l))
      go (inl e) r = rw (← e) r
      go (inr c) r =
          rw (meets_overflow same n b (meet same n b s y) l (Cut-overflow c))
          (inr (Cut-grown c (meets_grown same m b (meet same m b s y) l)))

  module _ (nbrs : A → List A) (a : A) where
    abbrev W : State A
    W = search same n nbrs a

    -- while the search with room m has come to t: that with room n goes on from t, or is full
    abbrev Along : ℕ → State A → Type 0
    Along k t = ((length t.found ≤ n) × (W ≡ run same n nbrs a k t)) ⊎ Cut n W t

    -- it goes on from s, where t is ahead
    along : (k : ℕ) (s t : State A) → length s.found ≤ n → W ≡ run same n nbrs a k s → Ahead n s t → Along k t
    along k s t h e (inl q) = rw (← q) (inl (h, e))
    along k s t h e (inr c) = inr (rw (run_stop same n nbrs a W k s e (Cut-overflow c)) c)

    work_along : (k : ℕ) (t : State A) → t.overflow ≡ false → k < length t.found → Along k t
        → Along (suc k) (work same m nbrs a k t)
    unfolding work
    work_along k t o i (inl p) =
        along (suc k) (work same n nbrs a k t) (work same m nbrs a k t) (meets_fits same n _ t _ p.0)
        (rw add-one at (run_next same n nbrs a W k t p.1 o i p.0)) (meets_ahead _ t _ p.0)
    work_along k t o i (inr c) = inr (Cut-grown c (work_grown same m nbrs a k t))

    start_along : Along 0 (meet same m 0 unbegun a)
    unfolding search
    start_along =
        along 0 (meet same n 0 unbegun a) (meet same m 0 unbegun a) (meet_fits same n 0 unbegun a (omega arith)) refl
        (meet_ahead 0 unbegun a (omega arith))

    search_ahead : Ahead n W (search same m nbrs a)
    unfolding search
    search_ahead =
        let f = meet_fits same m 0 unbegun a (omega arith) in
        let r = run_ends same m nbrs a Along work_along 0 (meet same m 0 unbegun a) f start_along in
        go r.0 (search same m nbrs a) r.1 r.2 (search same m nbrs a).overflow refl
      where
        go : (k : ℕ) (t : State A) → Along k t → (t.overflow ≡ false → length t.found ≤ k) → (b : Bool)
            → t.overflow ≡ b
            → Ahead n W t
        go k t (inr c) d b o = inr c
        go k t (inl p) d true o = inl (run_stop same n nbrs a W k t p.1 o)
        go k t (inl p) d false o = inl (run_end same n nbrs a W k t p.1 (d o))

module _ {A : Type 0} (n : ℕ) (s t : State A) where
  -- the same states: all are the first n
  same_first : length s.found ≤ n → length s.bytes ≡ length s.found → s ≡ t
      → (s.found ≡ take n t.found) × (s.bytes ≡ take n t.bytes)
  same_first h p e = rw (← e) (sym (take_all n s.found h), sym (take_all n s.bytes (omega arith)))

  cut_first : length s.bytes ≡ length s.found → Cut n s t
      → (s.found ≡ take n t.found) × (s.bytes ≡ take n t.bytes)
  cut_first p c = (
    rw u.found (f ∙ sym (take_at c.before.found u.more n c.many)),
    rw u.bytes (b ∙ sym (take_at c.before.bytes u.tail n (sym (ap length b) ∙ p ∙ ap length f ∙ c.many))),
  )
    where
      u : Grown c.before t
      u = c.grown

      f : s.found ≡ c.before.found
      f = ap (λ v. v.found) c.is

      b : s.bytes ≡ c.before.bytes
      b = ap (λ v. v.bytes) c.is

-- The search with room for n finds the first n, with their bytes, that a search with more room finds.
pub prefix : {A : Type 0} (same : A → A → Bool) (decides : Decides same) (n m : ℕ) → n ≤ m → (nbrs : A → List A) (a : A)
    → ((search same n nbrs a).found ≡ take n (search same m nbrs a).found)
    × ((search same n nbrs a).bytes ≡ take n (search same m nbrs a).bytes)
prefix same decides n m le nbrs a =
    ⊎_elim (same_first n (search same n nbrs a) (search same m nbrs a) k.fits k.paired)
    (cut_first n (search same n nbrs a) (search same m nbrs a) k.paired) (search_ahead same n m le nbrs a)
  where
    k : Proper n (Neighbour nbrs) a (search same n nbrs a)
    k = search_proper same decides n nbrs a
