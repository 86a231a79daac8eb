-- The numbers of chains, element by element: the first, one more, a whole rank, and the last.
-- Assumes nothing.
use mathlib.Core.Path.{◌≡◌, ap, ◌∙◌}
use mathlib.Core.Logic.{◌⊎◌, inl, inr}
use mathlib.Core.List.{List}
use Prim.Native.Nat.{ℕ, zero, suc, ◌+◌, ◌-◌, ◌*◌, ◌≤◌, ◌<◌}
use native.Mathlib.Decide.{ℕ_discrete}
use native.Mathlib.Omega.{arith}
use lib.ListN.{length, get_or, set, replicate, length-set, length-replicate}
use lib.Seq.{get_or-set_same, get_or-set_other}
use Rattle.order.specs.Lists.{Earlier, In}
use Rattle.order.specs.Sums.{sum_over}
use Rattle.order.proofs.Sums.{sum_over_same}
use Rattle.listing.specs.declared.Slices.{Slices}
use Rattle.listing.specs.Listing.{Listing, held, limits, rank, count, before, entries, subs}
use Rattle.listing.specs.Shape.{Shaped}
use Rattle.listing.proofs.Listing.{before_zero, before_next, before_le, before_on}
use Rattle.listing.proofs.InCell.{ends_are, side_there}
use Rattle.listing.proofs.Places.{side_at, few_before}
use Rattle.valid_incidence.specs.Incidence.{Incident, incidences_test}
use Rattle.valid_incidence.proofs.IncidenceExact.{incidences_exact}
use Rattle.valid.specs.Tests.{closed}
use Rattle.valid.proofs.InClosed.{is_closed, shaped}
use Rattle.body_theory.specs.InAll.{chains_to, flags_in_all}
use Rattle.body_count.specs.Capped.{most, capped, number_at, CountedBelow}
use Rattle.body_count.proofs.Capped.{capped_sum}

-- an array as it is before a number was written
abbrev cleared : List ℕ
cleared = replicate limits.elements 0

zeros_most : (n k : ℕ) → get_or (replicate n 0) k 0 ≤ most
zeros_most zero k = omega arith
zeros_most (suc n) zero = omega arith
zeros_most (suc n) (suc k) = zeros_most n k

-- the array when its first number is written
begun_one : ◌≡◌ {A = ℕ} (get_or (set cleared 0 1) 0 0) 1
begun_one = get_or-set_same cleared 0 1 0 (omega (arith, length-replicate {A = ℕ} limits.elements 0))

begun_most : (k : ℕ) → Dec (k ≡ 0) → get_or (set cleared 0 1) k 0 ≤ most
begun_most k (yes d) = rw (d, begun_one) (omega arith)
begun_most k (no d) = rw (get_or-set_other {A = ℕ} cleared 0 k 1 0 d) (zeros_most limits.elements k)

-- where a rank begins, from where the one below it begins
pub rank_begins : (counts : List ℕ) (b n r : ℕ) → (b ≡ before counts (r - 1)) × (0 < r) × (r < length counts)
    → n ≡ get_or counts (r - 1) 0 → b + n ≡ before counts r
rank_begins counts b n r p e = before_on counts r b n p.1 p.0 e

module _ (L : Listing) where
  abbrev place : ℕ → ℕ → ℕ
  place r i = before L.counts r + i

  -- an element that comes before another stands before it
  earlier_place : (q j r i : ℕ) → Earlier q j r i → j < count L q → place q j < place r i
  earlier_place q j r i (inl l) h =
      omega (arith, before_next L.counts q, before_le L.counts (q + 1) r (omega arith))
  earlier_place q j r i (inr e) h = rw e.0 (omega (arith, e.1))

  -- elements before the next one are those before this one, and this one
  earlier_next : (q j r i : ℕ) → Earlier q j r (i + 1) → Earlier q j r i ⊎ ((q ≡ r) × (j ≡ i))
  earlier_next q j r i (inl l) = inl (inl l)
  earlier_next q j r i (inr e) = go (ℕ_discrete j i)
    where
      go : Dec (j ≡ i) → Earlier q j r i ⊎ ((q ≡ r) × (j ≡ i))
      go (yes d) = inr (e.0, d)
      go (no d) = inl (inr (e.0, omega (arith, e.1)))

  -- The place of an element is one of the array's.
  pub place_fits : Shaped limits L → (r i : ℕ) → i < count L r → place r i < limits.elements
  place_fits S r i h =
      omega (arith, before_next L.counts r, few_before L S (r + 1))

  -- The same, where the rank is known to begin at b.
  pub number_inside : Shaped limits L → (r b i : ℕ) {x : ℕ} → b ≡ before L.counts r → i < count L r → x ≡ i
      → b + x < limits.elements
  number_inside S r b i e h d = rw (e, d) (place_fits S r i h)

  -- So is that of the maximal element, past all ranks below it.
  pub last_inside : Shaped limits L → count L (rank L) ≡ 1 → (r b : ℕ) → r ≡ length L.counts
      → b ≡ before L.counts (r - 1) → b < limits.elements
  last_inside S e r b p h =
      let z : before L.counts (r - 1) ≡ before L.counts (rank L) = rw p in
      omega (arith, h, z, place_fits S (rank L) 0 (omega arith))

  -- So is that of a sub of an element, in the rank below, which begins at b.
  pub sub_fits : Shaped limits L → Incident L → (r i b x : ℕ) → b ≡ before L.counts (r - 1) → i < count L r
      → In x (subs L r i) → b + x < limits.elements
  unfolding Incident
  sub_fits S I r i b x e h m = rw e (place_fits S (r - 1) x ((I r i h).lower.each x m).1)

  module _ (numbers : List ℕ) (r i : ℕ) (K : CountedBelow L r i numbers) where
    -- The subs' numbers together make an element's number.
    pub counted_sum : Incident L → (b : ℕ) → b ≡ before L.counts (r - 1) → 0 < r → i < count L r
        → capped (sum_over (number_at numbers b) (subs L r i)) ≡ capped (chains_to L r i)
    unfolding Incident chains_to
    counted_sum I b e p h =
        ap capped (sum_over_same _ (λ x. capped (chains_to L (r - 1) x)) (subs L r i) number)
        ∙ capped_sum (chains_to L (r - 1)) (subs L r i) ∙ ap capped (step r p)
      where
        number : (x : ℕ) → In x (subs L r i) → number_at numbers b x ≡ capped (chains_to L (r - 1) x)
        number x m = rw e (K.counted (r - 1) x (inl (omega arith)) ((I r i h).lower.each x m).1)

        step : (r : ℕ) → 0 < r → sum_over (chains_to L (r - 1)) (subs L r i) ≡ chains_to L r i
        step zero p = absurd (omega arith)
        step (suc r) p = let e : suc r - 1 ≡ r = omega arith in rw e

    -- One more element has its number.
    pub counted_set : Shaped limits L → (v : ℕ) → i < count L r → v ≡ capped (chains_to L r i)
        → CountedBelow L r (i + 1) (set numbers (place r i) v)
    counted_set S v h e = record {
      long = length-set numbers (place r i) v ∙ K.long;
      none_larger = λ k. smaller k (ℕ_discrete k (place r i));
      counted = λ q j l m. go q j m (earlier_next q j r i l);
    }
      where
        there : get_or (set numbers (place r i) v) (place r i) 0 ≡ v
        there = get_or-set_same numbers (place r i) v 0 (omega (arith, place_fits S r i h, K.long))

        smaller : (k : ℕ) → Dec (k ≡ place r i) → get_or (set numbers (place r i) v) k 0 ≤ most
        smaller k (yes d) = rw (d, there, e) (omega arith)
        smaller k (no d) = rw (get_or-set_other numbers (place r i) k v 0 d) (K.none_larger k)

        go : (q j : ℕ) → j < count L q → Earlier q j r i ⊎ ((q ≡ r) × (j ≡ i))
            → get_or (set numbers (place r i) v) (place q j) 0 ≡ capped (chains_to L q j)
        go q j m (inl l) =
            get_or-set_other numbers (place r i) (place q j) v 0 (λ d. omega (arith, earlier_place q j r i l m))
            ∙ K.counted q j l m
        go q j m (inr d) = rw (d.0, d.1) (there ∙ e)

  -- One chain leads to the minimal element.
  pub counted_first : count L 0 ≡ 1 → CountedBelow L 1 0 (set cleared 0 1)
  unfolding chains_to
  counted_first e = record {
    long = length-set cleared 0 1 ∙ length-replicate {A = ℕ} limits.elements 0;
    none_larger = λ k. begun_most k (ℕ_discrete k 0);
    counted = first;
  }
    where
      first : (q j : ℕ) → Earlier q j 1 0 → j < count L q
          → get_or (set cleared 0 1) (place q j) 0 ≡ capped (chains_to L q j)
      first q j (inr l) m = absurd (omega (arith, l.1))
      first q j (inl l) m =
          let z : q ≡ 0 = omega arith in
          let y : j ≡ 0 = omega (arith, rw z at m) in
          rw (z, y, before_zero L.counts) begun_one

  -- The maximal element's number is that of the flags.
  pub counted_last : (numbers : List ℕ) → count L (rank L) ≡ 1 → 0 < length L.counts
      → CountedBelow L (length L.counts) 0 numbers
      → get_or numbers (before L.counts (rank L)) 0 ≡ capped (flags_in_all L)
  counted_last numbers e p K =
      let z : before L.counts (rank L) + 0 ≡ before L.counts (rank L) = omega arith in
      rw z at (K.counted (rank L) 0 (inl (omega arith)) (omega arith))

-- ---- the same as the code meets it

-- a rank begins after the n elements of the rank below, which begins at b
module _ (s : Slices) (S : Shaped limits (held s)) (r b n : ℕ)
    (begins : (b ≡ before s.counts.now (r - 1)) × (0 < r) × (r < length s.counts.now))
    (d : n ≡ get_or s.counts.now (r - 1) 0) where
  here_is : b + n ≡ before s.counts.now r
  here_is = rank_begins s.counts.now b n r begins d

  pub here_few : b + n ≤ limits.elements
  here_few = rw here_is (few_before (held s) S r)

  -- an element of it
  module _ (i : ℕ) (h : i < get_or s.counts.now r 0) where
    pub subs_there : 2 * (b + n + i) + 0 < length s.ends.now
    subs_there = side_there s S r (b + n) i 0 here_is h (omega arith)

    pub number_there : (x : ℕ) → x ≡ i → b + n + x < limits.elements
    number_there x e = number_inside (held s) S r (b + n) i here_is h e

    -- its subs
    module _ (I : (incidences_test (held s)).no ≡ 0) (list : List ℕ)
        (l : list ≡ entries s.ends.now s.inc.now (2 * (b + n + i) + 0)) where
      incident : Incident (held s)
      incident = (incidences_exact (held s)).0 I

      are_subs : list ≡ subs (held s) r i
      are_subs = l ∙ side_at (held s) (b + n) r i 0 here_is

      pub subs_inside : (x : ℕ) → In x list → b + x < limits.elements
      subs_inside x m = sub_fits (held s) S incident r i b x begins.0 h (rw are_subs at m)

      pub count_next : (numbers : List ℕ) → CountedBelow (held s) r i numbers
          → (v : ℕ) → v ≡ capped (sum_over (number_at numbers b) list) → (x : ℕ) → x ≡ i
          → CountedBelow (held s) r (i + 1) (set numbers (b + n + x) v)
      count_next numbers K v e x z =
          let number = e ∙ ap (λ l. capped (sum_over (number_at numbers b) l)) are_subs
          ∙ counted_sum (held s) numbers r i K incident b begins.0 begins.1 h in
          rw (z, here_is) (counted_set (held s) numbers r i K S v h number)

pub ruleset ranking = (ends_are, here_few, subs_there, number_there, subs_inside, count_next)

module _ (s : Slices) (C : (closed limits (held s)).no ≡ 0) where
  pub begun : CountedBelow (held s) 1 0 (set cleared 0 1)
  begun = counted_first (held s) (is_closed s C).bounded.one_minimal

  pub some : 0 < length s.counts.now
  some = (shaped s C).some_rank

  module _ (r b : ℕ) (e : b ≡ before s.counts.now (r - 1)) where
    pub next_begins : (n : ℕ) → 0 < r → r < length s.counts.now → n ≡ get_or s.counts.now (r - 1) 0
        → b + n ≡ before s.counts.now (r + 1 - 1)
    next_begins n p h d =
        let z : r + 1 - 1 ≡ r = omega arith in
        rw z (rank_begins s.counts.now b n r (e, p, h) d)

    pub next_few : (n : ℕ) → 0 < r → r < length s.counts.now → n ≡ get_or s.counts.now (r - 1) 0
        → b + n ≤ limits.elements
    next_few n p h d = rw (rank_begins s.counts.now b n r (e, p, h) d) (few_before (held s) (shaped s C) r)

    module _ (z : r ≡ length s.counts.now) where
      pub last_there : b < limits.elements
      last_there = last_inside (held s) (shaped s C) (is_closed s C).bounded.one_maximal r b z e

      pub last_number : (numbers : List ℕ) → CountedBelow (held s) r 0 numbers
          → get_or numbers b 0 ≡ capped (flags_in_all (held s))
      last_number numbers K =
          rw (e, z) (counted_last (held s) numbers (is_closed s C).bounded.one_maximal some (rw z at K))

pub ruleset counting = (begun, some, shaped, before_zero, next_begins, next_few, last_there, last_number)
