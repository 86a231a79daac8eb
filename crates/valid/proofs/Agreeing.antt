-- The quick look: cursors that go along sups, subs that are looked at one after another, and a rank whose cursors have
-- all come to the end.
-- Assumes nothing.
use mathlib.Core.Path.{◌≡◌, refl, sym, ap, ◌∙◌}
use mathlib.Core.Logic.{◌⊎◌, inl, inr}
use mathlib.Core.List.{List, [], ◌∷◌, ◌++◌}
use Prim.Native.Nat.{ℕ, suc, ◌+◌, ◌-◌, ◌*◌, ◌≤◌, ◌<◌}
use native.Mathlib.Decide.{dec_lt, ℕ_discrete}
use native.Mathlib.Numerals.{add-one}
use native.Mathlib.Omega.{arith}
use lib.ListN.{length, get_or, set, take, drop, replicate, length-set, length-append, length-replicate, get_or-append}
use lib.ListN.{replicate-append-replicate}
use lib.Seq.{take-suc, get_or-take, get_or-drop, get_or-set_same, get_or-set_other, get_or-append-add, ext_get_or}
use Rattle.order.specs.Lists.{In, Ascending, occurs}
use Rattle.order.proofs.Lists.{append_in, ascending_append, occurs_nil, occurs_append, occurs_own, occurs_apart}
use Rattle.listing.specs.declared.Slices.{Slices}
use Rattle.listing.specs.Listing.{Listing, held, limits, rank, count, before, start, entries, subs, sups, Ends, subs_at}
use Rattle.listing.specs.Laid.{Laid}
use Rattle.listing.specs.Layers.{layers, gather, derived}
use Rattle.listing.specs.Shape.{Shaped}
use Rattle.listing.proofs.Entries.{entries_length}
use Rattle.listing.proofs.Listing.{before_zero, before_next, rank_there}
use Rattle.listing.proofs.Places.{rank_fits, side_fits, few_before, few_in_rank}
use Rattle.listing.proofs.ShapeExact.{shaped_ends}
use Rattle.valid.specs.Agreement.{Agrees, AgreesAt, Cursors, AscendsBelow, AllBelow, Met, AllMet, SomeSups}

-- what holds of all below n and of n holds of all below n + 1
pub each_next : (P : ℕ → Type 0) (n : ℕ) → ((s : ℕ) → s < n → P s) → P n → (s : ℕ) → s < n + 1 → P s
each_next P n h p s l = go (ℕ_discrete s n)
  where
    go : Dec (s ≡ n) → P s
    go (yes e) = rw e p
    go (no d) = h s (omega arith)

-- ---- cursors

-- one that stands before the end of its sups
pub cursor_inside : (L : Listing) → Shaped limits L → {place n : ℕ} {next : List ℕ} → Cursors L.ends place n next
    → {s at c d : ℕ} → s < n → at ≡ s → c < get_or L.ends (2 * (place + at) + 1) 0 → d ≡ c → d < length L.inc
cursor_inside L S {place} k {at = at} h a f e =
    let good = shaped_ends L S in
    omega (arith, good.inside (2 * (place + at) + 1) (omega (arith, k)))

module _ (inc : List ℕ) (n : ℕ) where
  -- none has moved
  pub met_none : (so : ℕ → List ℕ) (next : List ℕ) → ((s : ℕ) → length (so s) ≡ 0) → Met inc n so next next
  met_none so next z = record {
    same_length = refl;
    moved = λ s h. omega (arith, z s);
    stand = λ s j h l. absurd (omega (arith, z s));
  }

  -- that of s has met x
  module _ (s x : ℕ) (next : List ℕ) (h : s < length next) where
    abbrev one : ℕ → List ℕ
    one y = replicate (occurs y (s ∷ [])) x

    abbrev next' : List ℕ
    next' = set next s (get_or next s 0 + 1)

    size : (y : ℕ) → length (one y) ≡ occurs y (s ∷ [])
    size y = length-replicate (occurs y (s ∷ [])) x

    one_moved : (y : ℕ) → Dec (s ≡ y) → get_or next' y 0 ≡ get_or next y 0 + length (one y)
    one_moved y (yes d) = rw (← d) (get_or-set_same next s _ 0 h ∙ omega (arith, size s, occurs_own s))
    one_moved y (no d) =
        get_or-set_other next s y _ 0 (λ w. d (omega arith)) ∙ omega (arith, size y, occurs_apart y s d)

    one_stands : get_or inc (get_or next s 0) 0 ≡ x → (y j : ℕ) → j < length (one y) → Dec (s ≡ y)
        → get_or inc (get_or next y 0 + j) 0 ≡ get_or (one y) j 0
    one_stands e y j l (no d) = absurd (omega (arith, size y, occurs_apart y s d))
    one_stands e y j l (yes d) =
        let z : j ≡ 0 = omega (arith, size y, occurs_own s, ap (λ (t : ℕ). occurs t (s ∷ [])) d) in
        let q : get_or next s 0 + 0 ≡ get_or next s 0 = omega arith in
        rw (← d, z, q, occurs_own s) e

    met_one : get_or inc (get_or next s 0) 0 ≡ x → Met inc n one next next'
    met_one e = record {
      same_length = length-set next s (get_or next s 0 + 1);
      moved = λ y l. one_moved y (ℕ_discrete s y);
      stand = λ y j k l. one_stands e y j l (ℕ_discrete s y);
    }

  -- the same, where s and the cursor were widened
  pub met_at : {ends : List ℕ} {place : ℕ} {next : List ℕ} → Cursors ends place n next → {s x at c : ℕ} → s < n
      → at ≡ s → c ≡ get_or next at 0 → get_or inc c 0 ≡ x
      → Met inc n (λ y. replicate (occurs y (s ∷ [])) x) next (set next at (get_or next at 0 + 1))
  met_at {next = next} k {s} {x} h a e f = rw a (met_one s x next (omega (arith, k)) (rw (e, a) at f))

  -- some numbers, and others behind them
  module _ (so so' all : ℕ → List ℕ) (next next' next'' : List ℕ) (m : Met inc n so next next')
      (m' : Met inc n so' next' next'') (e : (s : ℕ) → all s ≡ so s ++ so' s) where
    total : (s : ℕ) → length (all s) ≡ length (so s) + length (so' s)
    total s = ap length (e s) ∙ length-append (so s) (so' s)

    then_stands : (s j : ℕ) → s < n → j < length (all s) → Dec (j < length (so s))
        → get_or inc (get_or next s 0 + j) 0 ≡ get_or (all s) j 0
    then_stands s j h l (yes a) = m.stand s j h a ∙ sym (rw (e s) (get_or-append (so s) (so' s) 0 j a))
    then_stands s j h l (no a) =
        let i = j - length (so s) in
        let p : get_or next s 0 + j ≡ get_or next' s 0 + i = omega (arith, m.moved s h) in
        let f : length (so s) + i ≡ j = omega arith in
        ap (λ (t : ℕ). get_or inc t 0) p ∙ m'.stand s i h (omega (arith, total s))
        ∙ sym (rw (e s) (rw f at (get_or-append-add (so s) (so' s) i 0)))

    pub met_then : Met inc n all next next''
    met_then = record {
      same_length = m'.same_length ∙ m.same_length;
      moved = λ s h. omega (arith, m.moved s h, m'.moved s h, total s);
      stand = λ s j h l. then_stands s j h l (dec_lt j (length (so s)));
    }

-- ---- the numbers of a list, one after another

-- one more has been looked at
taken_next : (l : List ℕ) (j x : ℕ) → j < length l → x ≡ get_or l j 0 → take (j + 1) l ≡ take j l ++ (x ∷ [])
taken_next l j x h e = rw (add-one j, e) (take-suc l j 0 h)

module _ (l : List ℕ) (j s : ℕ) (h : j < length l) (e : s ≡ get_or l j 0) where
  met_taken : (y x : ℕ) → replicate (occurs y (take (j + 1) l)) x
      ≡ replicate (occurs y (take j l)) x ++ replicate (occurs y (s ∷ [])) x
  met_taken y x =
      rw (taken_next l j s h e, occurs_append y (take j l) (s ∷ []))
      (sym (replicate-append-replicate (occurs y (take j l)) (occurs y (s ∷ [])) x))

  -- whose cursor has met x
  pub met_next : (inc : List ℕ) (n x : ℕ) (next next' next'' : List ℕ)
      → Met inc n (λ y. replicate (occurs y (take j l)) x) next next'
      → Met inc n (λ y. replicate (occurs y (s ∷ [])) x) next' next''
      → Met inc n (λ y. replicate (occurs y (take (j + 1) l)) x) next next''
  met_next inc n x next next' next'' m m' =
      met_then inc n _ _ _ next next' next'' m m' (λ y. met_taken y x)

  -- and that comes behind those before it
  module _ (from : ℕ) (b : (x : ℕ) → In x (take j l) → x < from) (f : from ≤ s) where
    alone : (x : ℕ) → In x (s ∷ []) → x ≡ s
    unfolding In
    alone x (inl d) = d
    alone x (inr m) = absurd m

    pub below_next : (x : ℕ) → In x (take (j + 1) l) → x < s + 1
    below_next x m = go (append_in x (take j l) (s ∷ []) (rw (taken_next l j s h e) at m))
      where
        go : In x (take j l) ⊎ In x (s ∷ []) → x < s + 1
        go (inl a) = omega (arith, b x a)
        go (inr a) = omega (arith, alone x a)

    pub subs_next : (n : ℕ) → s < n → AscendsBelow n (take j l) → AscendsBelow n (take (j + 1) l)
    unfolding Ascending In
    subs_next n k o = rw (taken_next l j s h e) record {
      ascending =
          ascending_append (take j l) (s ∷ []) o.ascending (λ y m. absurd m, tt)
          (λ x y a c. omega (arith, b x a, alone y c));
      there = λ x m. go x (append_in x (take j l) (s ∷ []) m);
    }
      where
        go : (x : ℕ) → In x (take j l) ⊎ In x (s ∷ []) → x < n
        go x (inl a) = o.there x a
        go x (inr a) = omega (arith, alone x a)

-- none has been looked at
pub met_nil : (y x : ℕ) → length (replicate (occurs y []) x) ≡ 0
met_nil y x = length-replicate (occurs y []) x ∙ occurs_nil y

pub none_below : (n x : ℕ) → In x [] → x < n
unfolding In
none_below n x m = absurd m

pub subs_none : (n : ℕ) → AscendsBelow n []
unfolding Ascending
subs_none n = record { ascending = tt; there = none_below n }

-- ---- the lists of a rank, one after another

pub gather_none : (f : ℕ → List ℕ) (y : ℕ) → length (gather f y 0) ≡ 0
unfolding gather
gather_none f y = refl

-- one more, l, has been looked at
module _ (n : ℕ) (f : ℕ → List ℕ) (x : ℕ) (l : List ℕ) (e : l ≡ f x) where
  pub all_below_next : AllBelow n f x → 0 < length l → AscendsBelow n l → AllBelow n f (x + 1)
  all_below_next a h o = each_next _ x a (omega (arith, ap length e), rw e at o)

  gather_next : (y : ℕ) → gather f y (x + 1) ≡ gather f y x ++ replicate (occurs y l) x
  unfolding gather
  gather_next y = rw (add-one x, e)

  pub met_all_next : (inc next next' next'' : List ℕ) → Met inc n (λ y. gather f y x) next next'
      → Met inc n (λ y. replicate (occurs y l) x) next' next'' → Met inc n (λ y. gather f y (x + 1)) next next''
  met_all_next inc next next' next'' m m' = met_then inc n _ _ _ next next' next'' m m' gather_next

-- ---- a rank

-- a list is what stands between its ends
entries_run : (ends inc : List ℕ) → Ends ends inc → (k : ℕ) → k < length ends → (l : List ℕ)
    → get_or ends k 0 ≡ start ends k + length l
    → ((j : ℕ) → j < length l → get_or inc (start ends k + j) 0 ≡ get_or l j 0) → entries ends inc k ≡ l
unfolding entries
entries_run ends inc good k h l e at =
    let n = entries_length ends inc good k h in
    let a = start ends k in
    ext_get_or 0 (entries ends inc k) l (omega (arith, n))
    (λ i b.
    get_or-take (get_or ends k 0 - a) (drop a inc) i 0 (omega (arith, n))
    ∙ get_or-drop a inc i 0
    ∙ at i (omega (arith, n)))

module _ (s : Slices) (S : Shaped limits (held s)) (r place : ℕ) (e : place ≡ before s.counts.now r) where
  -- there are cursors and ends for a rank
  pub fits_rank : (next : List ℕ) → length next ≡ limits.elements
      → Cursors s.ends.now place (get_or s.counts.now r 0) next
  fits_rank next w = record {
    whole = w;
    few = few_in_rank (held s) S r;
    listed = omega (arith, rank_fits (held s) S r);
  }

  -- and ends for the rank above it, which begins where it ends
  module _ (size : ℕ) (f : size ≡ get_or s.counts.now r 0) where
    pub few_through : place + size ≤ limits.elements
    few_through = omega (arith, before_next s.counts.now r, few_before (held s) S (r + 1))

    pub fits_above : (m : ℕ) → m ≡ get_or s.counts.now (r + 1) 0 → 2 * (place + size + m) ≤ length s.ends.now
    fits_above m g = omega (arith, before_next s.counts.now r, rank_fits (held s) S (r + 1))

pub ruleset ranks = (before_zero, fits_rank, few_through, fits_above)

module _ (L : Listing) (S : Shaped limits L) where
  -- the next rank begins where one ends
  pub next_begins : (r place size : ℕ) → place ≡ before L.counts r → size ≡ count L r
      → place + size ≡ before L.counts (r + 1)
  next_begins r place size e f = omega (arith, before_next L.counts r)

  -- the sups of an element, along which its cursor has gone from where they begin to where they end
  sups_run : (r i : ℕ) → i < count L r → (l next next' : List ℕ)
      → get_or next i 0 ≡ get_or L.ends (2 * (before L.counts r + i)) 0
      → get_or next' i 0 ≡ get_or next i 0 + length l
      → ((j : ℕ) → j < length l → get_or L.inc (get_or next i 0 + j) 0 ≡ get_or l j 0)
      → get_or next' i 0 ≡ get_or L.ends (2 * (before L.counts r + i) + 1) 0 → sups L r i ≡ l
  sups_run r i h l next next' e m at d =
      let k = 2 * (before L.counts r + i) in
      let b : start L.ends (k + 1) ≡ get_or L.ends k 0 = rw (add-one k) in
      entries_run L.ends L.inc (shaped_ends L S) (k + 1) (side_fits L S r i 1 h (omega arith)) l
      (omega (arith, b)) (λ j c. rw (b, ← e) (at j c))

  -- a list of sups that does not end where it begins
  sups_some : (r i : ℕ) → i < count L r → SomeSups L.ends (before L.counts r) (count L r)
      → 0 < length (sups L r i)
  sups_some r i h o =
      let k = 2 * (before L.counts r + i) in
      let b : start L.ends (k + 1) ≡ get_or L.ends k 0 = rw (add-one k) in
      let n = entries_length L.ends L.inc (shaped_ends L S) (k + 1) (side_fits L S r i 1 h (omega arith)) in
      omega (arith, b, n, o i h)

  -- a rank from place p on, with m elements from place q on above it, whose cursors were set, have met all that lies
  -- above, and have come to the end
  module _ (r p q m : ℕ) (ep : p ≡ before L.counts r) (eq : q ≡ before L.counts (r + 1))
      (em : m ≡ count L (r + 1)) (next₀ next next' : List ℕ)
      (b : Laid 0 (λ s. get_or L.ends (2 * (p + s)) 0) (count L r) next₀ next)
      (k : AllBelow (count L r) (subs_at L.ends L.inc q) m)
      (t : Met L.inc (count L r) (λ y. gather (subs_at L.ends L.inc q) y m) next next')
      (a : AllMet L.ends p (count L r) next') (o : r < rank L → SomeSups L.ends p (count L r)) where
    its_sups : (i : ℕ) → i < count L r → sups L r i ≡ derived (layers L) r i
    unfolding derived
    its_sups i h =
        let z : 0 + i ≡ i = omega arith in
        let l = gather (subs_at L.ends L.inc q) i m in
        sups_run r i h l next next' (rw (ep, z) at (b.inside i h)) (t.moved i h) (λ j c. t.stand i j h c)
        (rw ep at (a i h))
        ∙ rw (eq, em, add-one r)

    pub agrees_at : AgreesAt L r
    agrees_at = record {
      all_below = rw (eq, em, add-one r) at k;
      some_sups = λ i l h. sups_some r i h (rw ep at (o l));
      derived_sups = its_sups;
    }

  -- what lies under the one element of rank 0
  pub none_under : count L 0 ≡ 1 → get_or L.ends 0 0 ≡ 0 → (i : ℕ) → i < count L 0 → subs L 0 i ≡ []
  none_under o z i h =
      let e : 2 * (before L.counts 0 + i) + 0 ≡ 0 = omega (arith, before_zero L.counts) in
      let f = side_fits L S 0 i 0 h (omega arith) in
      rw e (entries_run L.ends L.inc (shaped_ends L S) 0 (omega arith) [] (omega arith)
      (λ j c. absurd (omega arith)))

-- all ranks
pub agrees : (L : Listing) → ((i : ℕ) → i < count L 0 → subs L 0 i ≡ [])
    → ((r : ℕ) → r < length L.counts → AgreesAt L r) → Agrees L
agrees L z a = record {
  lowest = z;
  there = λ r i x h. ((a r (low r i h)).all_below i h).1.there x;
  ascending = λ r i h. ((a r (low r i h)).all_below i h).1.ascending;
  some_subs = λ r i h. ((a r (low r i h)).all_below i h).0;
  some_sups = λ r i k h. (a r (rank_there L r i h)).some_sups i k h;
  derived_sups = λ r i h. (a r (rank_there L r i h)).derived_sups i h;
}
  where
    low : (r i : ℕ) → i < count L (suc r) → r < length L.counts
    low r i h = omega (arith, rank_there L (suc r) i h)
