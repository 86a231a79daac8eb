-- The sups of all ranks filled in: rank by rank, each reading the subs of the rank above as they were.
-- Assumes nothing.
use mathlib.Core.Path.{◌≡◌, refl, ap, ◌∙◌}
use mathlib.Core.List.{List}
use Prim.Native.Nat.{ℕ, suc, ◌+◌, ◌*◌, ◌≤◌, ◌<◌}
use native.Mathlib.Decide.{dec_lt}
use native.Mathlib.Numerals.{add-one}
use native.Mathlib.Omega.{arith}
use lib.ListN.{length, get_or, get_or-eq_default}
use Rattle.std.specs.declared.slice.Windows.{Windows}
use Rattle.listing.specs.Listing.{Listing, count, before, start, entries, subs_at}
use Rattle.listing.specs.Shape.{elements}
use Rattle.listing.specs.Layers.{layers, gather, derived}
use Rattle.listing.proofs.Listing.{before_next, before_all, before_le, before_lt}
use Rattle.listing.proofs.Layers.{gather_same}
use Rattle.listing_sups.specs.Sups.{Strewn, Apart, sups_at, Fillable, SupsFilled}
use Rattle.listing_sups.proofs.Gathering.{gather_none, span_same, start_le}
use Rattle.listing_sups.proofs.Pairs.{rank_of, Pair}

-- ---- where lists stand

module _ (L : Listing) (ready : Fillable L) where
  -- the lists of one element end before those of the next begin
  ends_before : (e e' : ℕ) → e < e' → e' ≤ elements L → get_or L.ends (2 * e + 1) 0 ≤ start L.ends (2 * e')
  ends_before e e' h l =
      let u : suc (2 * e + 1) ≡ 2 * (e + 1) = omega arith in
      start_le L.ends L.inc ready.lists (suc (2 * e + 1)) (2 * e') (omega arith)
      (omega (arith, ready.two_each))

  -- the subs of an element end where its sups begin
  subs_sups : (e : ℕ) → e < elements L → start L.ends (2 * e) ≤ get_or L.ends (2 * e) 0
  subs_sups e h = ready.lists.rising (2 * e) (omega (arith, ready.two_each))

  -- the subs of an element are not among the sups of any
  not_subs : (e e' p j : ℕ) → e < elements L → e' < elements L → start L.ends (2 * e') ≤ p
      → p < get_or L.ends (2 * e') 0 → p ≡ get_or L.ends (2 * e) 0 + j
      → get_or L.ends (2 * e) 0 + j < get_or L.ends (2 * e + 1) 0 → ⊥
  not_subs e e' p j he he' h l q r = go (dec_lt e e')
    where
      go : Dec (e < e') → ⊥
      go (yes a) = omega (arith, ends_before e e' a (omega arith))
      go (no a) =
          let m : start L.ends (suc (2 * e')) ≤ start L.ends (suc (2 * e)) =
          start_le L.ends L.inc ready.lists (suc (2 * e')) (suc (2 * e)) (omega arith)
          (omega (arith, ready.two_each)) in
          omega arith

  -- with the sups of the ranks below r filled in, the subs stand as they were
  subs_stay : (r : ℕ) (inc' : List ℕ) → SupsFilled L r inc' → (e : ℕ) → e < elements L
      → entries L.ends inc' (2 * e + 0) ≡ entries L.ends L.inc (2 * e + 0)
  unfolding entries
  subs_stay r inc' v e h =
      let z : 2 * e + 0 ≡ 2 * e = omega arith in
      rw z
      (span_same (start L.ends (2 * e)) (get_or L.ends (2 * e) 0) L.inc inc' v.same_length
      (λ p a b. v.rest p (λ i x j hi hx hj q.
      not_subs (before L.counts i + x) e p j (before_lt L.counts i x hx) h a b q
      (omega (arith, ready.room i x hx)))))

-- ---- one rank more

-- what the code has in hand when rank r has its turn: where its n elements begin, where the m over them do, and cursors
-- that stand where the sups begin
pub record Turn (L : Listing) (r from n here m : ℕ) (next inc' : List ℕ) : Type 0 where
  pub ready : Fillable L
  pub filled : SupsFilled L r inc'
  pub from_is : from ≡ before L.counts r
  pub n_is : n ≡ count L r
  pub here_is : here ≡ before L.counts (r + 1)
  pub m_is : m ≡ count L (r + 1)
  pub cursors : (e : ℕ) → before L.counts r ≤ e → e < elements L → get_or next e 0 ≡ get_or L.ends (2 * e) 0

-- the turn of a pair of counts that was read
pub turn : (L : Listing) (s t : Windows ℕ) (from n m : ℕ) (next inc' : List ℕ) → Fillable L
    → from ≡ before L.counts (rank_of L.counts s)
    → ((e : ℕ) → before L.counts (rank_of L.counts s) ≤ e → e < elements L → get_or next e 0 ≡ get_or L.ends (2 * e) 0)
    → SupsFilled L (rank_of L.counts s) inc' → Pair L.counts s t from n m
    → Turn L (rank_of L.counts s) from n (from + n) m next inc'
turn L s t from n m next inc' ready from_is cursors filled p = record {
  ready = ready;
  filled = filled;
  from_is = from_is;
  n_is = p.n_is;
  here_is = p.here_is;
  m_is = p.m_is;
  cursors = cursors;
}

module _ {L : Listing} {r from n here m : ℕ} {next inc' : List ℕ} (t : Turn L r from n here m next inc') where
  abbrev c : List ℕ
  c = L.counts

  -- what is gathered
  abbrev sups : ℕ → List ℕ
  sups x = gather (subs_at L.ends inc' here) x m

  -- are the derived sups
  sups_are : (x : ℕ) → sups x ≡ derived (layers L) r x
  unfolding derived
  sups_are x =
      rw (t.here_is, t.m_is, add-one r)
      (gather_same _ _ x (count L (suc r))
      (λ k h. subs_stay L t.ready r inc' t.filled (before c (suc r) + k) (before_lt c (suc r) k h)))

  there : (x : ℕ) → x < n → from + x < elements L
  there x h = omega (arith, t.from_is, t.n_is, before_lt c r x (omega (arith, t.n_is)))

  cursor : (x : ℕ) → x < n → get_or next (from + x) 0 ≡ sups_at L r x
  cursor x h = rw (← t.from_is) (t.cursors (from + x) (omega (arith, t.from_is)) (there x h))

  -- there is room for the sups of an element
  fits : (x : ℕ) → x < n → get_or next (from + x) 0 + length (sups x) ≤ get_or L.ends (2 * (from + x) + 1) 0
  fits x h =
      let o = t.ready.room r x (omega (arith, t.n_is)) in
      rw (cursor x h, sups_are x, t.from_is) o

  pub rank_ready : Apart from n (λ x. length (sups x)) (start L.ends (2 * here)) next
  rank_ready = record {
    order = λ x y h l.
        omega (
          arith,
          fits x (omega arith),
          ends_before L t.ready (from + x) (from + y) (omega arith) (omega (arith, there y l)),
          subs_sups L t.ready (from + y) (there y l),
          t.cursors (from + y) (omega (arith, t.from_is)) (there y l),
        );
    below = λ x h.
        omega (
          arith,
          fits x h,
          ends_before L t.ready (from + x) here (omega (arith, before_next c r, t.here_is, t.from_is, t.n_is))
              (omega (arith, before_all c (r + 1), t.here_is)),
        );
  }

-- with its sups written
module _ {L : Listing} {r from n here m : ℕ} {next inc' : List ℕ} (t : Turn L r from n here m next inc')
    (inc'' : List ℕ) (s : Strewn from n (λ x. gather (subs_at L.ends inc' here) x m) next inc' inc'') where
  -- what was filled in before stays
  earlier : (i x j : ℕ) → i < r → x < count L i → j < length (derived (layers L) i x)
      → get_or inc'' (sups_at L i x + j) 0 ≡ get_or inc' (sups_at L i x + j) 0
  earlier i x j hi hx hj =
      let k = t.ready in
      s.rest _ (λ y q hy hq e.
      omega (
        arith,
        k.room i x hx,
        ends_before L k (before L.counts i + x) (from + y)
            (omega (arith, t.from_is, before_next L.counts i, before_le L.counts (i + 1) r (omega arith)))
            (omega (arith, there t y hy)),
        subs_sups L k (from + y) (there t y hy),
        t.cursors (from + y) (omega (arith, t.from_is)) (there t y hy),
      ))

  latest : (x j : ℕ) → x < count L r → j < length (derived (layers L) r x)
      → get_or inc'' (sups_at L r x + j) 0 ≡ get_or (derived (layers L) r x) j 0
  latest x j hx hj =
      let h : x < n = omega (arith, t.n_is) in
      rw (← cursor t x h, ← sups_are t x) (s.at x j h (rw (sups_are t x) hj))

  next_at : (i x j : ℕ) → i < r + 1 → x < count L i → j < length (derived (layers L) i x)
      → get_or inc'' (sups_at L i x + j) 0 ≡ get_or (derived (layers L) i x) j 0
  next_at i x j hi hx hj = go (dec_lt i r)
    where
      go : Dec (i < r) → get_or inc'' (sups_at L i x + j) 0 ≡ get_or (derived (layers L) i x) j 0
      go (yes a) = earlier i x j a hx hj ∙ t.filled.at i x j a hx hj
      go (no a) =
          let e : i ≡ r = omega arith in
          rw e (latest x j (rw e at hx) (rw e at hj))

  pub filled_next : SupsFilled L (r + 1) inc''
  filled_next = record {
    same_length = s.same_length ∙ t.filled.same_length;
    at = next_at;
    rest = λ p out.
        s.rest p (λ x j hx hj q.
        out r x j (omega arith) (omega (arith, t.n_is)) (rw (← sups_are t x) hj)
        (q ∙ ap (λ (k : ℕ). k + j) (cursor t x hx)))
        ∙ t.filled.rest p (λ i x j hi hx hj q. out i x j (omega arith) hx hj q);
  }

-- ---- none, and all

pub filled_none : (L : Listing) → SupsFilled L 0 L.inc
filled_none L = record {
  same_length = refl;
  at = λ i x j h. absurd (omega arith);
  rest = λ p out. refl;
}

-- over the highest rank nothing is derived
none_over : (L : Listing) (r x : ℕ) → length L.counts ≤ r + 1 → length (derived (layers L) r x) ≡ 0
unfolding derived
none_over L r x h = rw (get_or-eq_default L.counts 0 {n = suc r} (omega arith)) (gather_none _ x)

pub filled_all : (L : Listing) (r : ℕ) (inc' : List ℕ) → r ≤ length L.counts → length L.counts ≤ r + 1
    → SupsFilled L r inc' → SupsFilled L (length L.counts) inc'
filled_all L r inc' h l v = record {
  same_length = v.same_length;
  at = λ i x j hi hx hj. go i x j hx hj (dec_lt i r);
  rest = λ p out. v.rest p (λ i x j hi hx hj q. out i x j (omega arith) hx hj q);
}
  where
    go : (i x j : ℕ) → x < count L i → j < length (derived (layers L) i x) → Dec (i < r)
        → get_or inc' (sups_at L i x + j) 0 ≡ get_or (derived (layers L) i x) j 0
    go i x j hx hj (yes a) = v.at i x j a hx hj
    go i x j hx hj (no a) = absurd (omega (arith, none_over L i x (omega arith)))
