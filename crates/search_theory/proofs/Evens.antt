-- The even ones of those found: where they stand, one more, and that of coloured things they are those with the colour
-- of the start.
-- Assumes nothing.
use mathlib.Core.Path.{◌≡◌, refl, sym, ap}
use mathlib.Core.Logic.{◌↔◌, ⊎_elim}
use mathlib.Core.Bool.{Bool, true, false, cond}
use mathlib.Core.List.Memᴰ
use mathlib.Core.List.{List, [], ◌∷◌, ◌++◌, Memᴰ}
use Prim.Native.Nat.{ℕ, zero, suc, ◌≤◌, ◌<◌}
use native.Mathlib.Omega.{arith}
use borrow.Author.Tests.{eq-eqb, eqb-true}
use lib.Dec.{eqb}
use lib.ListN.{length, get_or}
use Rattle.order.specs.Steps.{Reach}
use Rattle.search_theory.specs.Search.{State, search, Neighbour, Decides, Once, Proper, Colouring, tone, evens}
use Rattle.search_theory.proofs.Once.{mem_at, at_in}
use Rattle.search_theory.proofs.Proper.{search_proper}
use Rattle.search_theory.proofs.Found.{found_exact}
use Rattle.search_theory.proofs.Coloured.{coloured_bytes}

module _ {A : Type 0} where
  -- ---- where they stand

  -- the kth is among them if its byte is 0
  even_at : (l : List A) (bytes : List ℕ) (d : A) (k : ℕ) → k < length l → k < length bytes
      → get_or bytes k 0 ≡ 0 → Memᴰ (get_or l k d) (evens l bytes)
  unfolding evens
  even_at [] bytes d k h i e = absurd (omega arith)
  even_at (x ∷ l) [] d k h i e = absurd (omega arith)
  even_at (x ∷ l) (b ∷ bytes) d zero h i e = rw (eq-eqb b 0 e) (Memᴰ.head refl)
  even_at (x ∷ l) (b ∷ bytes) d (suc k) h i e = go (eqb b 0) (even_at l bytes d k (omega arith) (omega arith) e)
    where
      go : (q : Bool) → Memᴰ (get_or l k d) (evens l bytes)
          → Memᴰ (get_or l k d) (cond q (x ∷ evens l bytes) (evens l bytes))
      go true m = Memᴰ.tail m
      go false m = m

  -- it stands at a place with the byte 0
  record EvenAt (l : List A) (bytes : List ℕ) (d y : A) : Type 0 where
    index : ℕ
    below : index < length l
    is : get_or l index d ≡ y
    even : get_or bytes index 0 ≡ 0

  at_even : (l : List A) (bytes : List ℕ) (d y : A) → Memᴰ y (evens l bytes) → EvenAt l bytes d y
  unfolding evens
  at_even [] bytes d y m = absurd (Memᴰ.not-nil m)
  at_even (x ∷ l) [] d y m = absurd (Memᴰ.not-nil m)
  at_even (x ∷ l) (b ∷ bytes) d y m = go (at_even l bytes d y) (eqb b 0) refl m
    where
      later : EvenAt l bytes d y → EvenAt (x ∷ l) (b ∷ bytes) d y
      later p = record { index = suc p.index; below = omega (arith, p.below); is = p.is; even = p.even }

      go : (Memᴰ y (evens l bytes) → EvenAt l bytes d y) → (q : Bool) → eqb b 0 ≡ q
          → Memᴰ y (cond q (x ∷ evens l bytes) (evens l bytes)) → EvenAt (x ∷ l) (b ∷ bytes) d y
      go ih true e n =
          ⊎_elim (λ w. record { index = 0; below = omega arith; is = sym w; even = eqb-true b 0 e })
          (λ h. later (ih h)) (Memᴰ.cases_cons n)
      go ih false e n = later (ih n)

  -- none stands twice
  pub evens_once : (l : List A) (bytes : List ℕ) → Once l → Once (evens l bytes)
  unfolding Once evens
  evens_once [] bytes o = tt
  evens_once (x ∷ l) [] o = tt
  evens_once (x ∷ l) (b ∷ bytes) o = go (eqb b 0) (evens_once l bytes o.1)
    where
      later : ¬ Memᴰ x (evens l bytes)
      later m = let p = at_even l bytes x x m in o.0 (Memᴰ.cast (sym p.is) (mem_at l x p.index p.below))

      go : (q : Bool) → Once (evens l bytes) → Once (cond q (x ∷ evens l bytes) (evens l bytes))
      go true p = (later, p)
      go false p = p

  -- there are no more than were found
  pub evens_few : (l : List A) (bytes : List ℕ) → length (evens l bytes) ≤ length l
  unfolding evens
  evens_few [] bytes = omega arith
  evens_few (x ∷ l) [] = omega arith
  evens_few (x ∷ l) (b ∷ bytes) = go (eqb b 0) (evens_few l bytes)
    where
      go : (q : Bool) → length (evens l bytes) ≤ length l
          → length (cond q (x ∷ evens l bytes) (evens l bytes)) ≤ suc (length l)
      go true h = omega arith
      go false h = omega arith

  -- ---- more bytes, and one more thing

  pub evens_over : (l : List A) (bytes more : List ℕ) → length l ≤ length bytes
      → evens l (bytes ++ more) ≡ evens l bytes
  unfolding evens
  evens_over [] bytes more h = refl
  evens_over (x ∷ l) [] more h = absurd (omega arith)
  evens_over (x ∷ l) (b ∷ bytes) more h = rw (evens_over l bytes more (omega arith))

  pub evens_snoc : (l : List A) (bytes : List ℕ) (x : A) → length l < length bytes
      → evens (l ++ (x ∷ [])) bytes ≡ evens l bytes ++ cond (eqb (get_or bytes (length l) 0) 0) (x ∷ []) []
  unfolding evens
  evens_snoc [] [] x h = absurd (omega arith)
  evens_snoc [] (b ∷ bytes) x h = refl
  evens_snoc (y ∷ l) [] x h = absurd (omega arith)
  evens_snoc (y ∷ l) (b ∷ bytes) x h = go (eqb b 0) (evens_snoc l bytes x (omega arith))
    where
      last : List A
      last = cond (eqb (get_or bytes (length l) 0) 0) (x ∷ []) []

      go : (q : Bool) → evens (l ++ (x ∷ [])) bytes ≡ evens l bytes ++ last
          → cond q (y ∷ evens (l ++ (x ∷ [])) bytes) (evens (l ++ (x ∷ [])) bytes)
          ≡ cond q (y ∷ evens l bytes) (evens l bytes) ++ last
      go true e = ap (λ t. y ∷ t) e
      go false e = e

-- ---- of a search among coloured things

tone_even : (c p : Bool) → (tone c p ≡ 0) ↔ (p ≡ c)
unfolding tone
tone_even true true = (λ e. refl, λ e. refl)
tone_even true false = (λ e. cc, λ e. cc)
tone_even false true = (λ e. cc, λ e. cc)
tone_even false false = (λ e. refl, λ e. refl)

module _ {A : Type 0} (same : A → A → Bool) (decides : Decides same) (room : ℕ) (nbrs : A → List A) (a : A)
    (o : (search same room nbrs a).overflow ≡ false) (c : Colouring (Neighbour nbrs) a) where
  abbrev S : State A
  S = search same room nbrs a

  facts : Proper room (Neighbour nbrs) a S
  facts = search_proper same decides room nbrs a

  -- the byte of the kth is 0 exactly if it has the colour of the start
  even_colour : (k : ℕ) → k < length S.found
      → (get_or S.bytes k 0 ≡ 0) ↔ (c.colour (get_or S.found k a) ≡ c.colour a)
  even_colour k h = rw (coloured_bytes same decides room nbrs a c k h) (tone_even (c.colour a) _)

  -- The even ones are what is reachable with the colour of the start.
  pub evens_exact : (y : A) → Memᴰ y (evens S.found S.bytes)
      ↔ (Reach (Neighbour nbrs) a y × (c.colour y ≡ c.colour a))
  evens_exact y = (
    λ m.
        let p = at_even S.found S.bytes a y m in (
          facts.reached y (Memᴰ.cast (sym p.is) (mem_at S.found a p.index p.below)),
          rw p.is at ((even_colour p.index p.below).0 p.even),
        ),
    λ q.
        let p = at_in S.found a y ((found_exact same decides room nbrs a o y).1 q.0) in
        Memᴰ.cast (sym p.2)
        (even_at S.found S.bytes a p.0 p.1 (omega (arith, facts.paired))
        ((even_colour p.0 p.1).1 (rw p.2 q.1))),
  )

  pub found_evens_once : Once (evens S.found S.bytes)
  found_evens_once = evens_once S.found S.bytes facts.once
