-- A search among coloured things: each thing found gets the byte of its colour, so that no place is given.
-- Assumes nothing.
use mathlib.Core.Path.{◌≡◌, refl, sym, ap, ◌∙◌}
use mathlib.Core.Bool.{Bool, true, false, not}
use mathlib.Core.List.{List, [], ◌∷◌, Memᴰ}
use Prim.Native.Nat.{ℕ, ◌-◌, ◌<◌}
use native.Mathlib.Decide.{dec_lt}
use native.Mathlib.Omega.{arith}
use lib.ListN.{length, get_or, get_or-append}
use lib.Seq.{get_or_at}
use Rattle.search_theory.specs.Search.{State, unbegun, add, again, index_in, meet, meet_all, work, search}
use Rattle.search_theory.specs.Search.{Neighbour, Decides, Proper, Colouring, tone}
use Rattle.search_theory.proofs.Once.{length_snoc, mem_at}
use Rattle.search_theory.proofs.Lookup.{index_at}
use Rattle.search_theory.proofs.Step.{place_same, meet_cases}
use Rattle.search_theory.proofs.Run.{run_ends}
use Rattle.search_theory.proofs.Proper.{work_proper, start_proper}

tone_start : (c : Bool) → 0 ≡ tone c c
unfolding tone
tone_start true = refl
tone_start false = refl

tone_flip : (c p q : Bool) → q ≡ not p → 1 - tone c p ≡ tone c q
unfolding tone
tone_flip true true q e = rw e
tone_flip true false q e = rw e
tone_flip false true q e = rw e
tone_flip false false q e = rw e

-- no place was given, and each byte is that of the thing's colour
record Toned {A : Type 0} (byte : A → ℕ) (d : A) (s : State A) : Type 0 where
  paired : length s.bytes ≡ length s.found
  still : s.place ≡ 0
  toned : (k : ℕ) → k < length s.found → get_or s.bytes k 0 ≡ byte (get_or s.found k d)

module _ {A : Type 0} (byte : A → ℕ) (d : A) (b : ℕ) (s : State A) (h : Toned byte d s) where
  again_toned : (i : ℕ) → get_or s.bytes i 0 ≡ b → Toned byte d (again b s i)
  again_toned i e = record { paired = h.paired; still = place_same b s i e ∙ h.still; toned = h.toned }

  add_toned : (y : A) → b ≡ byte y → Toned byte d (add b s y)
  add_toned y e = record {
    paired = omega (arith, length_snoc s.found y, length_snoc s.bytes b, h.paired);
    still = h.still;
    toned = λ k m. go k m (dec_lt k (length s.found));
  }
    where
      go : (k : ℕ) → k < length (add b s y).found → Dec (k < length s.found)
          → get_or (add b s y).bytes k 0 ≡ byte (get_or (add b s y).found k d)
      go k m (yes l) =
          get_or-append s.bytes (b ∷ []) 0 k (omega (arith, h.paired)) ∙ h.toned k l
          ∙ ap byte (sym (get_or-append s.found (y ∷ []) d k l))
      go k m (no l) =
          let i : length s.found ≡ k = omega (arith, length_snoc s.found y) in
          get_or_at s.bytes b [] 0 k (h.paired ∙ i) ∙ e ∙ ap byte (sym (get_or_at s.found y [] d k i))

module _ {A : Type 0} (same : A → A → Bool) (decides : Decides same) (room : ℕ) (byte : A → ℕ) (d : A) (b : ℕ) where
  -- a thing is met with the byte of its colour
  meet_toned : (s : State A) (y : A) → b ≡ byte y → Toned byte d s → Toned byte d (meet same room b s y)
  meet_toned s y e h =
      meet_cases same room b s y (Toned byte d) (λ o. h)
      (λ o i. again_toned byte d b s h (index_in same s.found y) (known i))
      (λ o i r. add_toned byte d b s h y e) (λ o i r. record { paired = h.paired; still = h.still; toned = h.toned })
    where
      known : index_in same s.found y < length s.found → get_or s.bytes (index_in same s.found y) 0 ≡ b
      known i = h.toned (index_in same s.found y) i ∙ ap byte (index_at same decides s.found d y i) ∙ sym e

  meets_toned : (s : State A) (l : List A) → ((y : A) → Memᴰ y l → b ≡ byte y) → Toned byte d s
      → Toned byte d (meet_all same room b s l)
  unfolding meet_all
  meets_toned s [] q h = h
  meets_toned s (y ∷ l) q h =
      meets_toned (meet same room b s y) l (λ z m. q z (Memᴰ.tail m))
      (meet_toned s y (q y (Memᴰ.head refl)) h)

module _ {A : Type 0} (same : A → A → Bool) (decides : Decides same) (room : ℕ) (nbrs : A → List A) (a : A)
    (c : Colouring (Neighbour nbrs) a) where
  abbrev byte : A → ℕ
  byte y = tone (c.colour a) (c.colour y)

  work_toned : (k : ℕ) (s : State A) → k < length s.found → Proper room (Neighbour nbrs) a s → Toned byte a s
      → Toned byte a (work same room nbrs a k s)
  unfolding work
  work_toned k s i f h = meets_toned same decides room byte a _ s _ go h
    where
      x : A
      x = get_or s.found k a

      go : (y : A) → Neighbour nbrs x y → 1 - get_or s.bytes k 0 ≡ byte y
      go y n =
          let r = f.reached x (mem_at s.found a k i) in
          rw (h.toned k i) (tone_flip (c.colour a) (c.colour x) (c.colour y) (c.flips x y r n))

  unbegun_toned : Toned byte a unbegun
  unbegun_toned = record { paired = refl; still = refl; toned = λ k h. absurd (omega arith) }

  search_toned : Toned byte a (search same room nbrs a)
  unfolding search
  search_toned =
      (run_ends same room nbrs a (λ k s. Proper room (Neighbour nbrs) a s × Toned byte a s)
      (λ k s o i h. (work_proper same decides room nbrs a k s i h.0, work_toned k s i h.0 h.1)) 0
      (meet same room 0 unbegun a) f.fits
      (f, meet_toned same decides room byte a 0 unbegun a (tone_start (c.colour a)) unbegun_toned)).1.1
    where
      f : Proper room (Neighbour nbrs) a (meet same room 0 unbegun a)
      f = start_proper same decides room nbrs a

  -- There is a colouring: no place is given, whether or not there is room.
  pub coloured_still : (search same room nbrs a).place ≡ 0
  coloured_still = search_toned.still

  -- And each thing found has the byte of its colour.
  pub coloured_bytes : (k : ℕ) → k < length (search same room nbrs a).found
      → get_or (search same room nbrs a).bytes k 0
      ≡ tone (c.colour a) (c.colour (get_or (search same room nbrs a).found k a))
  coloured_bytes = search_toned.toned
