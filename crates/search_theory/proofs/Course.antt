-- The course of a search: how each thing came to be found, and the repeat at which a place was given.
-- Assumes nothing.
use mathlib.Core.Path.{◌≡◌, refl, sym, ap, ◌∙◌}
use mathlib.Core.Logic.{◌≢◌, ◌⊎◌, inl, inr}
use mathlib.Core.Bool.{Bool, true, false, true≢false}
use mathlib.Core.List.{List, [], ◌∷◌, ◌++◌, append_assoc, append-nil}
use Prim.Native.Nat.{ℕ, suc, ◌-◌, ◌≤◌, ◌<◌}
use native.Mathlib.Decide.{ℕ_discrete, dec_lt}
use native.Mathlib.Omega.{arith}
use lib.ListN.{length, get_or, length-append}
use lib.Seq.{get_or_at}
use Rattle.order.specs.Lists.{Earlier}
use Rattle.order.proofs.Earlier.{earlier_le, earlier_up, earlier_split}
use Rattle.search_theory.specs.Search.{State, unbegun, add, overfull, place_after, again, index_in, meet, meet_all}
use Rattle.search_theory.specs.Search.{work}
use Rattle.search_theory.specs.Search.{search, Decides}
use Rattle.search_theory.specs.Course.{HasNeighbour, nbr, Came, Clash}
use Rattle.search_theory.proofs.Once.{length_snoc}
use Rattle.search_theory.proofs.Lookup.{index_at}
use Rattle.search_theory.proofs.Step.{place_kept, place_same, place_first, meet_cases, meet_paired, meet_fits}
use Rattle.search_theory.proofs.Run.{run_ends}
use Rattle.search_theory.proofs.Grown.{Grown, Grown-length, Grown-found, Grown-byte, again_grown, add_grown}
use Rattle.search_theory.proofs.Grown.{meet_grown, work_grown}
use Rattle.search_theory.proofs.Proper.{place_le}
use Rattle.search_theory.proofs.Alike.{came_alike, clash_alike}
use Rattle.search_theory.proofs.Stored.{Stored, Stored-grown, again_stored, add_stored}

-- ---- along the search

abbrev row_in : {A : Type 0} → A → State A → ℕ → A
row_in d s k = get_or s.found k d

abbrev byte_in : {A : Type 0} → State A → ℕ → ℕ
byte_in s k = get_or s.bytes k 0

module _ {A : Type 0} (nbrs : A → List A) (d : A) where
  -- the first k were worked, and i neighbours of the next were met
  record Course (k i : ℕ) (s : State A) : Type 0 where
    paired : length s.bytes ≡ length s.found
    placed : s.place ≤ length s.found
    came : (n : ℕ) → 0 < n → n < length s.found
        → (p : ℕ) × (q : ℕ) × Came nbrs d (row_in d s) (byte_in s) p q n × Earlier p q k i
    met : s.overflow ≡ false → (j q : ℕ) → Earlier j q k i → HasNeighbour nbrs d (row_in d s) j q
        → Stored d (1 - byte_in s j) (nbr nbrs d (row_in d s) j q) s
    clash : 0 < s.place → Clash nbrs d (row_in d s) (byte_in s) s.place

  -- y, neighbour i of the kth, is met next, as one that should have the byte b
  record Next (k i b : ℕ) (s : State A) (y : A) : Type 0 where
    known : k < length s.found
    there : HasNeighbour nbrs d (row_in d s) k i
    is : nbr nbrs d (row_in d s) k i ≡ y
    turned : b ≡ 1 - byte_in s k
    course : Course k i s

module _ {A : Type 0} {nbrs : A → List A} {d : A} {k i b : ℕ} {s : State A} {y : A} (x : Next nbrs d k i b s y) where
  abbrev c : Course nbrs d k i s
  c = x.course

  came_up : (n : ℕ) → 0 < n → n < length s.found
      → (p : ℕ) × (q : ℕ) × Came nbrs d (row_in d s) (byte_in s) p q n × Earlier p q k (suc i)
  came_up n z m = let t = c.came n z m in (t.0, t.1, t.2, earlier_up t.3)

  overflow_course : (t : State A) → t.found ≡ s.found → t.bytes ≡ s.bytes → t.place ≡ s.place
      → t.overflow ≡ true → Course nbrs d k (suc i) t
  overflow_course t f w p o = record {
    paired = rw (f, w) c.paired;
    placed = rw (f, p) c.placed;
    came = rw (f, w) came_up;
    met = λ z. absurd (true≢false (sym o ∙ z));
    clash = rw (f, w, p) c.clash;
  }

  -- ---- it is known: the pth

  module _ (o : s.overflow ≡ false) (p : ℕ) (l : p < length s.found) (w : row_in d s p ≡ y) where
    -- the first repeat with another byte
    first_clash : s.place ≡ 0 → byte_in s p ≢ b → Clash nbrs d (row_in d s) (byte_in s) (length s.found)
    first_clash z n = record {
      from = k;
      at = i;
      known = x.known;
      there = x.there;
      index = p;
      below = l;
      is = w ∙ sym x.is;
      apart = rw (← x.turned) n;
      met = λ j q m v.
          let t = c.met o j q m v in
          record { index = t.index; below = t.known; is = t.stands; with = t.byte z };
      few = λ a v m. let t = c.came a v m in (t.0, t.1, t.3, t.2.there, t.2.is);
    }

    again_met : (j q : ℕ) → HasNeighbour nbrs d (row_in d s) j q → Earlier j q k i ⊎ ((j ≡ k) × (q ≡ i))
        → Stored d (1 - byte_in s j) (nbr nbrs d (row_in d s) j q) (again b s p)
    again_met j q n (inl m) = Stored-grown d _ _ (again_grown b s p) c.paired (c.met o j q m n)
    again_met j q n (inr m) = rw (m.0, m.1, x.is, ← x.turned) (again_stored d b y s p l w)

    again_clash : Dec (s.place ≡ 0) → Dec (byte_in s p ≡ b) → 0 < place_after b s p
        → Clash nbrs d (row_in d s) (byte_in s) (place_after b s p)
    again_clash (no z) t h = rw (place_kept b s p z) (c.clash (omega arith))
    again_clash (yes z) (yes t) h = absurd (omega (arith, place_same b s p t))
    again_clash (yes z) (no t) h = rw (place_first b s p z t) (first_clash z t)

    again_course : Course nbrs d k (suc i) (again b s p)
    again_course = record {
      paired = c.paired;
      placed = place_le b s p c.placed;
      came = came_up;
      met = λ v j q m n. again_met j q n (earlier_split m);
      clash = again_clash (ℕ_discrete s.place 0) (ℕ_discrete (byte_in s p) b);
    }

  -- ---- it is new

  add_row : (n : ℕ) → n < length s.found → row_in d (add b s y) n ≡ row_in d s n
  add_row n l = Grown-found (add_grown b s y) d n l

  add_byte : (n : ℕ) → n < length s.found → byte_in (add b s y) n ≡ byte_in s n
  add_byte n l = Grown-byte (add_grown b s y) n (omega (arith, c.paired))

  module _ (o : s.overflow ≡ false) where
    add_met : (j q : ℕ) → HasNeighbour nbrs d (row_in d s) j q → Earlier j q k i ⊎ ((j ≡ k) × (q ≡ i))
        → Stored d (1 - byte_in s j) (nbr nbrs d (row_in d s) j q) (add b s y)
    add_met j q n (inl m) = Stored-grown d _ _ (add_grown b s y) c.paired (c.met o j q m n)
    add_met j q n (inr m) = rw (m.0, m.1, x.is, ← x.turned) (add_stored d b y s c.paired)

    -- how it came
    add_came : Came nbrs d (row_in d (add b s y)) (byte_in (add b s y)) k i (length s.found)
    add_came = record {
      earlier = x.known;
      there = rw (add_row k x.known) x.there;
      is = rw (add_row k x.known) (get_or_at s.found y [] d (length s.found) refl ∙ sym x.is);
      turned = rw (add_byte k x.known) (get_or_at s.bytes b [] 0 (length s.found) c.paired ∙ x.turned);
      first = λ j q m n.
          let l : j < length s.found = omega (arith, earlier_le m, x.known) in
          let z = c.met o j q m (rw (add_row j l) at n) in
          rw (add_row j l)
          (record { index = z.index; below = z.known; is = add_row z.index z.known ∙ z.stands });
    }

    came_more : (n : ℕ) → 0 < n → n < length (add b s y).found → Dec (n < length s.found)
        → (p : ℕ) × (q : ℕ) × Came nbrs d (row_in d (add b s y)) (byte_in (add b s y)) p q n × Earlier p q k (suc i)
    came_more n z m (yes l) =
        let w = came_up n z l in
        (w.0, w.1, came_alike nbrs d _ _ _ _ _ add_row add_byte w.0 w.1 n l w.2, w.3)
    came_more n z m (no l) =
        let w : n ≡ length s.found = omega (arith, length_snoc s.found y) in
        (k, i, rw w add_came, inr (refl, omega arith))

    add_course : Course nbrs d k (suc i) (add b s y)
    add_course = record {
      paired = omega (arith, length_snoc s.found y, length_snoc s.bytes b, c.paired);
      placed = omega (arith, length_snoc s.found y, c.placed);
      came = λ n z m. came_more n z m (dec_lt n (length s.found));
      met = λ v j q m n.
          let l : j < length s.found = omega (arith, earlier_le m, x.known) in
          rw (add_row j l, add_byte j l) (add_met j q (rw (add_row j l) at n) (earlier_split m));
      clash = λ p. clash_alike nbrs d _ _ _ _ _ add_row add_byte s.place c.placed (c.clash p);
    }

module _ {A : Type 0} (nbrs : A → List A) (d : A) where
  module _ (same : A → A → Bool) (decides : Decides same) (room : ℕ) where
    meet_course : {k i b : ℕ} {s : State A} {y : A} → Next nbrs d k i b s y
        → Course nbrs d k (suc i) (meet same room b s y)
    meet_course {k} {i} {b} {s} {y} x =
        meet_cases same room b s y (Course nbrs d k (suc i))
        (λ o. overflow_course x s refl refl refl o)
        (λ o l. again_course x o (index_in same s.found y) l (index_at same decides s.found d y l))
        (λ o l r. add_course x o)
        (λ o l r. overflow_course x (overfull s) refl refl refl refl)

    -- the neighbours of x, the kth, are met; those in `before` were
    meets_course : (k b : ℕ) (s : State A) (x : A) (before l : List A) → nbrs x ≡ before ++ l → k < length s.found
        → row_in d s k ≡ x → b ≡ 1 - byte_in s k → Course nbrs d k (length before) s
        → Course nbrs d k (length (nbrs x)) (meet_all same room b s l)
    unfolding meet_all
    meets_course k b s x before [] n h e g c =
        let z : length (nbrs x) ≡ length before = ap length (n ∙ append-nil before) in
        rw z c
    meets_course k b s x before (y ∷ l) n h e g c =
        meets_course k b (meet same room b s y) x (before ++ (y ∷ [])) l (n ∙ sym (append_assoc before (y ∷ []) l))
        (omega (arith, Grown-length r)) (Grown-found r d k h ∙ e)
        (g ∙ ap (λ z. 1 - z) (sym (Grown-byte r k (omega (arith, c.paired)))))
        (rw (length_snoc before y) (meet_course (record {
          known = h;
          there = rw (e, n) (omega (arith, length-append before (y ∷ l)));
          is = rw (e, n) (get_or_at before y l d (length before) refl);
          turned = g;
          course = c;
        })))
      where
        r : Grown s (meet same room b s y)
        r = meet_grown same room b s y

  -- all neighbours of the kth were met
  next_course : (k : ℕ) (s : State A) → Course nbrs d k (length (nbrs (row_in d s k))) s → Course nbrs d (suc k) 0 s
  next_course k s c = record {
    paired = c.paired;
    placed = c.placed;
    came = λ n z m. let t = c.came n z m in (t.0, t.1, t.2, inl (omega (arith, earlier_le t.3)));
    met = λ o j q m n. c.met o j q (back j q n m) n;
    clash = c.clash;
  }
    where
      back : (j q : ℕ) → HasNeighbour nbrs d (row_in d s) j q → Earlier j q (suc k) 0
          → Earlier j q k (length (nbrs (row_in d s k)))
      back j q n (inr m) = absurd (omega (arith, m.1))
      back j q n (inl m) = go (dec_lt j k)
        where
          go : Dec (j < k) → Earlier j q k (length (nbrs (row_in d s k)))
          go (yes l) = inl l
          go (no l) =
              let z : j ≡ k = omega arith in
              inr (z, rw z at n)

module _ {A : Type 0} (same : A → A → Bool) (decides : Decides same) (room : ℕ) (nbrs : A → List A) (a : A) where
  abbrev S : State A
  S = search same room nbrs a

  work_course : (k : ℕ) (s : State A) → k < length s.found → Course nbrs a k 0 s
      → Course nbrs a (suc k) 0 (work same room nbrs a k s)
  unfolding work
  work_course k s h c =
      next_course nbrs a k _
      (rw (Grown-found (work_grown same room nbrs a k s) a k h)
      (meets_course nbrs a same decides room k _ s (get_or s.found k a) [] _ refl h refl refl c))

  start_course : Course nbrs a 0 0 (meet same room 0 unbegun a)
  start_course = record {
    paired = meet_paired same room 0 unbegun a refl;
    placed = rw still (omega arith);
    came = λ n z m. absurd (omega (arith, few));
    met = λ o j q m. absurd (none m);
    clash = λ p. absurd (omega (arith, still));
  }
    where
      still : (meet same room 0 unbegun a).place ≡ 0
      still =
          meet_cases same room 0 unbegun a (λ t. t.place ≡ 0) (λ o. refl) (λ o i. absurd (omega arith)) (λ o i r. refl)
          (λ o i r. refl)

      few : length (meet same room 0 unbegun a).found ≤ 1
      few =
          meet_cases same room 0 unbegun a (λ t. length t.found ≤ 1) (λ o. omega arith) (λ o i. omega arith)
          (λ o i r. omega arith) (λ o i r. omega arith)

      none : {j q : ℕ} → Earlier j q 0 0 → ⊥
      none (inl m) = omega arith
      none (inr m) = omega (arith, m.1)

  search_course : (k : ℕ) × Course nbrs a k 0 S × (S.overflow ≡ false → length S.found ≤ k)
  unfolding search
  search_course =
      run_ends same room nbrs a (λ k. Course nbrs a k 0) (λ k s o i c. work_course k s i c) 0
      (meet same room 0 unbegun a) (meet_fits same room 0 unbegun a (omega arith)) start_course

  -- Each thing but the first came as a neighbour of one before it, and all that was met before stands before it.
  pub search_came : (n : ℕ) → 0 < n → n < length S.found
      → (j : ℕ) × (i : ℕ) × Came nbrs a (λ k. get_or S.found k a) (λ k. get_or S.bytes k 0) j i n
  search_came n z m = let t = search_course.1.came n z m in (t.0, t.1, t.2)

  -- A place was given at the first repeat with another byte than stored, and says how many were known then.
  pub search_clash : 0 < S.place → Clash nbrs a (λ k. get_or S.found k a) (λ k. get_or S.bytes k 0) S.place
  search_clash = search_course.1.clash
