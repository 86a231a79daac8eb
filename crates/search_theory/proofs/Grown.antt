-- A state grows: what was found stays at its index with its byte, and neither a place nor an end is taken back.
-- Assumes nothing.
use mathlib.Core.Path.{◌≡◌, refl, sym, ap, ◌∙◌}
use mathlib.Core.Bool.{Bool, false, true≢false}
use mathlib.Core.List.{List, [], ◌∷◌, ◌++◌, append_assoc, append-nil}
use Prim.Native.Nat.{ℕ, ◌≤◌, ◌<◌}
use native.Mathlib.Decide.{ℕ_discrete}
use native.Mathlib.Omega.{arith}
use lib.ListN.{length, get_or, length-append, get_or-append}
use Rattle.search_theory.specs.Search.{State, unbegun, add, overfull, place_after, again, index_in, meet, meet_all}
use Rattle.search_theory.specs.Search.{work, run, search}
use Rattle.search_theory.proofs.Step.{place_kept, meet_cases}
use Rattle.search_theory.proofs.Run.{search_start, run_ends}

-- t is s, or came of it
pub record Grown {A : Type 0} (s t : State A) : Type 0 where
  pub more : List A
  pub found : t.found ≡ s.found ++ more
  pub tail : List ℕ
  pub bytes : t.bytes ≡ s.bytes ++ tail
  pub place : t.place ≡ 0 → s.place ≡ 0
  pub overflow : t.overflow ≡ false → s.overflow ≡ false

module _ {A : Type 0} where
  -- nothing is added
  grown_none : (s t : State A) → t.found ≡ s.found → t.bytes ≡ s.bytes → (t.place ≡ 0 → s.place ≡ 0)
      → (t.overflow ≡ false → s.overflow ≡ false) → Grown s t
  grown_none s t f b p o = record {
    more = [];
    found = f ∙ sym (append-nil s.found);
    tail = [];
    bytes = b ∙ sym (append-nil s.bytes);
    place = p;
    overflow = o;
  }

  Grown-refl : (s : State A) → Grown s s
  Grown-refl s = grown_none s s refl refl (λ e. e) (λ e. e)

  pub Grown-trans : {s t u : State A} → Grown s t → Grown t u → Grown s u
  Grown-trans {s} g h = record {
    more = g.more ++ h.more;
    found = h.found ∙ ap (λ l. l ++ h.more) g.found ∙ append_assoc s.found g.more h.more;
    tail = g.tail ++ h.tail;
    bytes = h.bytes ∙ ap (λ l. l ++ h.tail) g.bytes ∙ append_assoc s.bytes g.tail h.tail;
    place = λ e. g.place (h.place e);
    overflow = λ e. g.overflow (h.overflow e);
  }

  pub Grown-length : {s t : State A} → Grown s t → length s.found ≤ length t.found
  Grown-length {s} {t} g = omega (arith, ap length g.found, length-append s.found g.more)

  pub Grown-found : {s t : State A} → Grown s t → (d : A) (k : ℕ) → k < length s.found
      → get_or t.found k d ≡ get_or s.found k d
  Grown-found {s} g d k h = ap (λ l. get_or l k d) g.found ∙ get_or-append s.found g.more d k h

  pub Grown-byte : {s t : State A} → Grown s t → (k : ℕ) → k < length s.bytes
      → get_or t.bytes k 0 ≡ get_or s.bytes k 0
  Grown-byte {s} g k h = ap (λ l. get_or l k 0) g.bytes ∙ get_or-append s.bytes g.tail 0 k h

  pub again_grown : (b : ℕ) (s : State A) (i : ℕ) → Grown s (again b s i)
  again_grown b s i = grown_none s (again b s i) refl refl (λ e. go e (ℕ_discrete s.place 0)) (λ e. e)
    where
      go : place_after b s i ≡ 0 → Dec (s.place ≡ 0) → s.place ≡ 0
      go e (yes z) = z
      go e (no h) = sym (place_kept b s i h) ∙ e

  pub add_grown : (b : ℕ) (s : State A) (y : A) → Grown s (add b s y)
  add_grown b s y =
      record { more = y ∷ []; found = refl; tail = b ∷ []; bytes = refl; place = λ e. e; overflow = λ e. e }

  overfull_grown : (s : State A) → Grown s (overfull s)
  overfull_grown s = grown_none s (overfull s) refl refl (λ e. e) (λ e. absurd (true≢false e))

module _ {A : Type 0} (same : A → A → Bool) (room : ℕ) where
  pub meet_grown : (b : ℕ) (s : State A) (y : A) → Grown s (meet same room b s y)
  meet_grown b s y =
      meet_cases same room b s y (Grown s) (λ o. Grown-refl s) (λ o i. again_grown b s (index_in same s.found y))
      (λ o i r. add_grown b s y) (λ o i r. overfull_grown s)

  pub meets_grown : (b : ℕ) (s : State A) (l : List A) → Grown s (meet_all same room b s l)
  unfolding meet_all
  meets_grown b s [] = Grown-refl s
  meets_grown b s (y ∷ l) = Grown-trans (meet_grown b s y) (meets_grown b (meet same room b s y) l)

  module _ (nbrs : A → List A) (a : A) where
    pub work_grown : (k : ℕ) (s : State A) → Grown s (work same room nbrs a k s)
    unfolding work
    work_grown k s = meets_grown _ s _

    run_grown : (k : ℕ) (s : State A) → length s.found ≤ room → Grown s (run same room nbrs a k s)
    run_grown k s h =
        (run_ends same room nbrs a (λ j. Grown s) (λ j t o i g. Grown-trans g (work_grown j t)) k s h (Grown-refl s)).1

    -- with room for it the start is found first, and even
    start_grown : 0 < room → Grown (add 0 unbegun a) (search same room nbrs a)
    start_grown h = rw (search_start same room nbrs a h) (run_grown 0 (add 0 unbegun a) h)

    pub start_even : 0 < room → (l : List ℕ) × ((search same room nbrs a).bytes ≡ 0 ∷ l)
    start_even h = ((start_grown h).tail, (start_grown h).bytes)

    pub start_first : 0 < room → (l : List A) × ((search same room nbrs a).found ≡ a ∷ l)
    start_first h = ((start_grown h).more, (start_grown h).found)
