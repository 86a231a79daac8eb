-- Those found are worked in order. A loop keeps `W ≡ the state after what is left`: -next is a turn, -stop its end
-- once there was an overflow, -end its end at the last.
-- Assumes nothing.
use mathlib.Core.Path.{◌≡◌, refl, sym, ap, ◌∙◌}
use mathlib.Core.Bool.{Bool, true, false, not, and-false, true≢false}
use mathlib.Core.List.{List}
use Prim.Native.Nat.{ℕ, zero, suc, ◌+◌, ◌-◌, ◌≤◌, ◌<◌}
use native.Mathlib.Numerals.{add-one}
use native.Mathlib.Omega.{arith}
use borrow.Author.Tests.{lt-ltb, le-ltb, ltb-true, ltb-false}
use lib.ListN.{length}
use Rattle.search_theory.specs.Search.{State, unbegun, add, overfull, work, waits, run_for, run, search}
use Rattle.search_theory.proofs.Step.{meet_new, meet_full, meets_fits}

module _ {A : Type 0} (k : ℕ) (s : State A) where
  waits_yes : s.overflow ≡ false → k < length s.found → waits k s ≡ true
  unfolding waits
  waits_yes o h = rw (o, lt-ltb _ _ h)

  waits_overflow : s.overflow ≡ true → waits k s ≡ false
  unfolding waits
  waits_overflow o = rw o

  waits_past : length s.found ≤ k → waits k s ≡ false
  unfolding waits
  waits_past h = rw (le-ltb _ _ h) (and-false (not s.overflow))

  waiting : waits k s ≡ true → (s.overflow ≡ false) × (k < length s.found)
  unfolding waits
  waiting w = go s.overflow refl
    where
      go : (b : Bool) → s.overflow ≡ b → (s.overflow ≡ false) × (k < length s.found)
      go true o = absurd (true≢false (sym w ∙ waits_overflow o))
      go false o = (o, ltb-true _ _ (rw o at w))

  past : waits k s ≡ false → s.overflow ≡ false → length s.found ≤ k
  unfolding waits
  past w o = ltb-false _ _ (rw o at w)

module _ {A : Type 0} (same : A → A → Bool) (room : ℕ) (nbrs : A → List A) (a : A) where
  work_fits : (k : ℕ) (s : State A) → length s.found ≤ room → length (work same room nbrs a k s).found ≤ room
  unfolding work
  work_fits k s h = meets_fits same room _ s _ h

  for_yes : (d k : ℕ) (s : State A) → waits k s ≡ true
      → run_for same room nbrs a (suc d) k s ≡ run_for same room nbrs a d (suc k) (work same room nbrs a k s)
  unfolding run_for
  for_yes d k s e = rw (e, run_for)

  for_no : (d k : ℕ) (s : State A) → waits k s ≡ false → run_for same room nbrs a d k s ≡ s
  unfolding run_for
  for_no zero k s e = refl
  for_no (suc d) k s e = rw (e, run_for)

  -- ---- to the end

  module _ (W : State A) (k : ℕ) (s : State A) (e : W ≡ run same room nbrs a k s) where
    pub run_next : s.overflow ≡ false → k < length s.found → length s.found ≤ room
        → W ≡ run same room nbrs a (k + 1) (work same room nbrs a k s)
    unfolding run
    run_next o h f =
        let d : room - k ≡ suc (room - (k + 1)) = omega arith in
        e ∙ rw (d, for_yes (room - (k + 1)) k s (waits_yes k s o h), add-one)

    pub run_stop : s.overflow ≡ true → W ≡ s
    unfolding run
    run_stop o = e ∙ for_no (room - k) k s (waits_overflow k s o)

    pub run_end : length s.found ≤ k → W ≡ s
    unfolding run
    run_end h = e ∙ for_no (room - k) k s (waits_past k s h)

  -- ---- the start

  pub search_full : room ≡ 0 → search same room nbrs a ≡ overfull unbegun
  unfolding search
  search_full z =
      let e = meet_full same room 0 unbegun a refl (omega arith) (omega arith) in
      run_stop (search same room nbrs a) 0 (overfull unbegun) (ap (run same room nbrs a 0) e) refl

  pub search_start : 0 < room → search same room nbrs a ≡ run same room nbrs a 0 (add 0 unbegun a)
  unfolding search
  search_start h = ap (run same room nbrs a 0) (meet_new same room 0 unbegun a refl (omega arith) h)

  -- ---- what each turn keeps holds at the end, where none is left to work

  module _ (P : ℕ → State A → Type 0)
      (turn : (k : ℕ) (s : State A) → s.overflow ≡ false → k < length s.found → P k s
      → P (suc k) (work same room nbrs a k s)) where
    abbrev Done : State A → Type 0
    Done s = (k : ℕ) × P k s × (s.overflow ≡ false → length s.found ≤ k)

    for_ends : (d k : ℕ) (s : State A) → length s.found ≤ room → room ≤ k + d → P k s
        → Done (run_for same room nbrs a d k s)
    unfolding run_for
    for_ends zero k s h p q = (k, q, λ o. omega arith)
    for_ends (suc d) k s h p q =
        go (waits k s) refl (λ t. for_ends d (suc k) (work same room nbrs a k s) (work_fits k s h) (omega arith) t)
      where
        T : State A
        T = work same room nbrs a k s

        go : (b : Bool) → waits k s ≡ b → (P (suc k) T → Done (run_for same room nbrs a d (suc k) T))
            → Done (run_for same room nbrs a (suc d) k s)
        go true w ih = let y = waiting k s w in rw (for_yes d k s w) (ih (turn k s y.0 y.1 q))
        go false w ih = rw (for_no (suc d) k s w) (k, q, past k s w)

    pub run_ends : (k : ℕ) (s : State A) → length s.found ≤ room → P k s → Done (run same room nbrs a k s)
    unfolding run
    run_ends k s h q = for_ends (room - k) k s h (omega arith) q
