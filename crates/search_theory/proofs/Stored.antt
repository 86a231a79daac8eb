-- Each thing that was met is stored, and with the byte that it should have as long as there was no place.
-- Assumes nothing.
use mathlib.Core.Path.{◌≡◌, refl, sym, ◌∙◌}
use mathlib.Core.Bool.{Bool, false, true≢false}
use mathlib.Core.List.{List, [], Memᴰ}
use Prim.Native.Nat.{ℕ, suc, ◌-◌, ◌≤◌, ◌<◌}
use native.Mathlib.Decide.{ℕ_discrete, dec_lt}
use native.Mathlib.Omega.{arith}
use lib.ListN.{length, get_or}
use lib.Seq.{get_or_at}
use Rattle.search_theory.specs.Search.{State, unbegun, add, place_after, again, index_in, meet, meet_all, work}
use Rattle.search_theory.specs.Search.{search, Neighbour, Decides, Proper}
use Rattle.search_theory.proofs.Once.{length_snoc}
use Rattle.search_theory.proofs.Lookup.{index_at}
use Rattle.search_theory.proofs.Step.{place_first, meet_cases, meet_paired}
use Rattle.search_theory.proofs.Run.{run_ends}
use Rattle.search_theory.proofs.Grown.{Grown, Grown-length, Grown-found, Grown-byte, again_grown}
use Rattle.search_theory.proofs.Grown.{meets_grown, work_grown}
use Rattle.search_theory.proofs.Proper.{work_proper, start_proper}

-- y stands at an index, and its byte is b as long as there was no place
pub record Stored {A : Type 0} (d : A) (b : ℕ) (y : A) (s : State A) : Type 0 where
  pub index : ℕ
  pub known : index < length s.found
  pub stands : get_or s.found index d ≡ y
  pub byte : s.place ≡ 0 → get_or s.bytes index 0 ≡ b

module _ {A : Type 0} (d : A) (b : ℕ) (y : A) where
  pub Stored-grown : {s t : State A} → Grown s t → length s.bytes ≡ length s.found → Stored d b y s
      → Stored d b y t
  Stored-grown g p r = record {
    index = r.index;
    known = omega (arith, Grown-length g, r.known);
    stands = Grown-found g d r.index r.known ∙ r.stands;
    byte = λ z. Grown-byte g r.index (omega (arith, r.known)) ∙ r.byte (g.place z);
  }

  pub again_stored : (s : State A) (i : ℕ) → i < length s.found → get_or s.found i d ≡ y
      → Stored d b y (again b s i)
  again_stored s i h e =
      record { index = i; known = h; stands = e; byte = λ z. go z (ℕ_discrete (get_or s.bytes i 0) b) }
    where
      go : place_after b s i ≡ 0 → Dec (get_or s.bytes i 0 ≡ b) → get_or s.bytes i 0 ≡ b
      go z (yes q) = q
      go z (no q) = absurd (omega (arith, place_first b s i ((again_grown b s i).place z) q))

  pub add_stored : (s : State A) → length s.bytes ≡ length s.found → Stored d b y (add b s y)
  add_stored s p = record {
    index = length s.found;
    known = omega (arith, length_snoc s.found y);
    stands = get_or_at s.found y [] d (length s.found) refl;
    byte = λ z. get_or_at s.bytes b [] 0 (length s.found) p;
  }

module _ {A : Type 0} (same : A → A → Bool) (decides : Decides same) (room : ℕ) where
  meet_stored : (d : A) (b : ℕ) (s : State A) (y : A) → length s.bytes ≡ length s.found
      → (meet same room b s y).overflow ≡ false → Stored d b y (meet same room b s y)
  meet_stored d b s y p =
      meet_cases same room b s y (λ t. t.overflow ≡ false → Stored d b y t)
      (λ o e. absurd (true≢false (sym o ∙ e)))
      (λ o i e. again_stored d b y s (index_in same s.found y) i (index_at same decides s.found d y i))
      (λ o i r e. add_stored d b y s p)
      (λ o i r e. absurd (true≢false e))

  -- no overflow: each of those that were met is stored
  meets_stored : (d : A) (b : ℕ) (s : State A) (l : List A) (y : A) → Memᴰ y l
      → length s.bytes ≡ length s.found → (meet_all same room b s l).overflow ≡ false
      → Stored d b y (meet_all same room b s l)
  unfolding meet_all
  meets_stored d b s l y n p o = go s l n p o
    where
      go : (s : State A) (l : List A) → Memᴰ y l → length s.bytes ≡ length s.found
          → (meet_all same room b s l).overflow ≡ false → Stored d b y (meet_all same room b s l)
      go s l (Memᴰ.head {x = x} {xs = m} e) p o =
          let g = meets_grown same room b (meet same room b s x) m in
          rw e (Stored-grown d b x g (meet_paired same room b s x p) (meet_stored d b s x p (g.overflow o)))
      go s l (Memᴰ.tail {x = x} {xs = m} n) p o = go (meet same room b s x) m n (meet_paired same room b s x p) o

  module _ (nbrs : A → List A) (a : A) where
    -- the first k were worked: all their neighbours are stored
    record Worked (k : ℕ) (s : State A) : Type 0 where
      proper : Proper room (Neighbour nbrs) a s
      some : k ≤ length s.found
      done : s.overflow ≡ false → (j : ℕ) → j < k → (y : A) → Neighbour nbrs (get_or s.found j a) y
          → Stored a (1 - get_or s.bytes j 0) y s

    work_stored : (k : ℕ) (s : State A) → length s.bytes ≡ length s.found
        → (work same room nbrs a k s).overflow ≡ false → (y : A) → Neighbour nbrs (get_or s.found k a) y
        → Stored a (1 - get_or s.bytes k 0) y (work same room nbrs a k s)
    unfolding work
    work_stored k s p o y n = meets_stored a _ s _ y n p o

    work_worked : (k : ℕ) (s : State A) → k < length s.found → Worked k s
        → Worked (suc k) (work same room nbrs a k s)
    work_worked k s i w = record {
      proper = work_proper same decides room nbrs a k s i w.proper;
      some = omega (arith, Grown-length g);
      done = λ o j m y n.
          rw (Grown-byte g j (omega (arith, w.proper.paired)))
          (go o j m y (rw (Grown-found g a j (omega arith)) at n) (dec_lt j k));
    }
      where
        g : Grown s (work same room nbrs a k s)
        g = work_grown same room nbrs a k s

        go : (work same room nbrs a k s).overflow ≡ false → (j : ℕ) → j < suc k → (y : A)
            → Neighbour nbrs (get_or s.found j a) y → Dec (j < k)
            → Stored a (1 - get_or s.bytes j 0) y (work same room nbrs a k s)
        go o j m y n (yes l) =
            Stored-grown a (1 - get_or s.bytes j 0) y g w.proper.paired (w.done (g.overflow o) j l y n)
        go o j m y n (no l) =
            let e : j ≡ k = omega arith in
            rw e (work_stored k s w.proper.paired o y (rw e at n))

    search_worked : (k : ℕ) × Worked k (search same room nbrs a)
        × ((search same room nbrs a).overflow ≡ false → length (search same room nbrs a).found ≤ k)
    unfolding search
    search_worked =
        run_ends same room nbrs a Worked (λ k s o i w. work_worked k s i w) 0 (meet same room 0 unbegun a) k.fits
        (record { proper = k; some = omega arith; done = λ o j m. absurd (omega arith) })
      where
        k : Proper room (Neighbour nbrs) a (meet same room 0 unbegun a)
        k = start_proper same decides room nbrs a

    -- no overflow: each neighbour of the kth is stored with the byte that the kth does not have
    pub search_stored : (search same room nbrs a).overflow ≡ false → (k : ℕ)
        → k < length (search same room nbrs a).found
        → (y : A) → Neighbour nbrs (get_or (search same room nbrs a).found k a) y
        → Stored a (1 - get_or (search same room nbrs a).bytes k 0) y (search same room nbrs a)
    search_stored o k i =
        let w = search_worked in
        w.1.done o k (omega (arith, w.2 o))
