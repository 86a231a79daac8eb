-- Layers written whole: with all ends and subs in part_at their sups can be filled in, and then the listing stands over
-- what was there before.
-- Assumes nothing.
use mathlib.Core.Path.{◌≡◌, refl, sym, ap, ◌∙◌}
use mathlib.Core.List.{List}
use Prim.Native.Nat.{ℕ, zero, suc, ◌+◌, ◌-◌, ◌*◌, ◌/◌, ◌%◌, ◌≤◌, ◌<◌}
use native.Mathlib.Decide.{dec_lt}
use native.Mathlib.Omega.{arith}
use lib.ListN.{length, get_or, take, drop, length-take, length-drop}
use lib.Seq.{ext_get_or, get_or-take, get_or-drop}
use Rattle.order.specs.Sums.{sum, part_at}
use Rattle.order.proofs.Sums.{sum_next, sum_le, sum_lt, part_same, part_ok}
use Rattle.listing.specs.Listing.{Listing, listing, width, limits, count, before, start, entries, Ends}
use Rattle.listing.specs.Layers.{Layers, Topped, layers, gather, derived}
use Rattle.listing.specs.Written.{joined, tabulated, lengths, list_at, nth, written}
use Rattle.listing.proofs.Listing.{before_lt}
use Rattle.listing.proofs.Layers.{in_range, gather_same}
use Rattle.listing.proofs.Written.{joined_length, joined_at, tabulated_length, tabulated_at, nth_at}
use Rattle.listing.proofs.Written.{written_counts_length, written_count, written_before, written_elements}
use Rattle.listing_sups.specs.Sups.{sups_at, Fillable, SupsFilled}
use Rattle.order.specs.Lists.{over}
use Rattle.listing_sups.specs.Filling.{starts, ElementsLaid}
use Rattle.listing_sups.proofs.Laying.{starts_room}
use Rattle.order.proofs.Over.{over_numbers}

-- ---- ends and subs in part_at

module _ (lists : ℕ → List ℕ) (N : ℕ) (ends₀ inc₀ ends inc : List ℕ)
    (laid : ElementsLaid lists N ends₀ inc₀ ends inc) (room_ends : 2 * N ≤ length ends₀)
    (room_inc : starts lists (2 * N) ≤ length inc₀) where
  -- the ends that were written
  abbrev E : List ℕ
  E = take (2 * N) ends

  E-length : length E ≡ 2 * N
  E-length = omega (arith, length-take (2 * N) ends, laid.ends_length)

  E-at : (t : ℕ) → t < 2 * N → get_or E t 0 ≡ starts lists (t + 1)
  unfolding sum
  E-at t h = get_or-take (2 * N) ends t 0 h ∙ laid.ends_done t h ∙ sym (sum_next (lengths lists) t)

  E-start : (t : ℕ) → t ≤ 2 * N → start E t ≡ starts lists t
  unfolding sum
  E-start zero h = refl
  E-start (suc t) h = get_or-take (2 * N) ends t 0 h ∙ laid.ends_done t h

  E-good : Ends E inc
  E-good = record {
    rising = λ t h.
        let k : t < 2 * N = omega (arith, E-length) in
        omega (arith, E-start t (omega arith), E-at t k, sum_next (lengths lists) t);
    inside = λ t h.
        let k : t < 2 * N = omega (arith, E-length) in
        omega (arith, E-at t k, sum_le (lengths lists) (t + 1) (2 * N) (omega arith), laid.inc_length);
  }

  -- a number of the subs of element e, where they stand
  sub_at : (e j : ℕ) → e < N → j < length (lists (2 * e))
      → get_or (take (length (lists (2 * e))) (drop (starts lists (2 * e)) inc)) j 0 ≡ get_or (lists (2 * e)) j 0
  sub_at e j h l =
      get_or-take (length (lists (2 * e))) (drop (starts lists (2 * e)) inc) j 0 l
      ∙ get_or-drop (starts lists (2 * e)) inc j 0 ∙ laid.subs_done e j h l

  subs_are : (e : ℕ) → e < N → entries E inc (2 * e + 0) ≡ lists (2 * e + 0)
  unfolding entries
  subs_are e h =
      let z : 2 * e + 0 ≡ 2 * e = omega arith in
      let s = starts lists (2 * e) in
      let n = length (lists (2 * e)) in
      let d : starts lists (2 * e + 1) - s ≡ n = omega (arith, sum_next (lengths lists) (2 * e)) in
      let l : length (take n (drop s inc)) ≡ n =
      omega (arith, length-take n (drop s inc), length-drop s inc, starts_room lists N e h, laid.inc_length) in
      rw (z, E-at (2 * e) (omega arith), E-start (2 * e) (omega arith), d)
      (ext_get_or 0 (take n (drop s inc)) (lists (2 * e)) l (λ j k. sub_at e j h (omega arith)))

-- ---- layers

module _ (M : Layers) (t : Topped M) where
  abbrev W : Listing
  W = written M (derived M)

  abbrev size : ℕ
  size = sum M.size (suc M.top)

  -- the lists of an element, by its number among all
  list_of : (s r x : ℕ) → s < 2 → x < count W r
      → nth M (derived M) (2 * (before W.counts r + x) + s) ≡ list_at M (derived M) s (r, x)
  list_of s r x hs h =
      let k = rw (written_count M (derived M) t r) at h in
      rw (written_before M (derived M) t r) (nth_at M (derived M) s r x hs (in_range M t r x k) k)

  number_lt : (r x : ℕ) → x < count W r → before W.counts r + x < size
  number_lt r x h = omega (arith, before_lt W.counts r x h, written_elements M (derived M) t)

  -- where each element has its subs, the derived sups are those of the layers
  sups_are : (ends inc : List ℕ)
      → ((e : ℕ) → e < size → entries ends inc (2 * e + 0) ≡ nth M (derived M) (2 * e + 0)) → (r x : ℕ) → x < count W r
      → derived (layers (listing W.counts ends inc)) r x ≡ nth M (derived M) (2 * (before W.counts r + x) + 1)
  unfolding derived list_at
  sups_are ends inc subs r x h =
      gather_same _ _ x (count W (suc r))
      (λ k l. subs (before W.counts (suc r) + k) (number_lt (suc r) k l) ∙ list_of 0 (suc r) k (omega arith) l)
      ∙ ap (gather (M.under (suc r)) x) (written_count M (derived M) t (suc r)) ∙ sym (list_of 1 r x (omega arith) h)

module _ (M : Layers) (t : Topped M) (ends₀ inc₀ ends inc : List ℕ)
    (laid : ElementsLaid (nth M (derived M)) (sum M.size (suc M.top)) ends₀ inc₀ ends inc)
    (room_ends : 2 * sum M.size (suc M.top) ≤ length ends₀)
    (room_inc : starts (nth M (derived M)) (2 * sum M.size (suc M.top)) ≤ length inc₀) where
  abbrev lists : ℕ → List ℕ
  lists = nth M (derived M)

  abbrev N : ℕ
  N = sum M.size (suc M.top)

  abbrev counts : List ℕ
  counts = (written M (derived M)).counts

  -- the listing before its sups are filled in
  abbrev L : Listing
  L = listing counts (take (2 * N) ends) inc

  sups_is : (r x : ℕ) → x < count L r → derived (layers L) r x ≡ lists (2 * (before counts r + x) + 1)
  sups_is = sups_are M t _ inc (subs_are lists N ends₀ inc₀ ends inc laid room_ends room_inc)

  -- where the sups of an element begin
  sups_start : (e : ℕ) → e < N → get_or L.ends (2 * e) 0 ≡ starts lists (2 * e + 1)
  sups_start e h = E-at lists N ends₀ inc₀ ends inc laid room_ends room_inc (2 * e) (omega arith)

  -- what is asked of the code that fills them in
  pub whole_fillable : N ≤ limits.elements → length counts < width → Fillable L
  whole_fillable few ranks = record {
    lists = E-good lists N ends₀ inc₀ ends inc laid room_ends room_inc;
    two_each =
        omega (
          arith,
          E-length lists N ends₀ inc₀ ends inc laid room_ends room_inc,
          written_elements M (derived M) t,
        );
    few = omega (arith, written_elements M (derived M) t);
    few_ranks = ranks;
    room = λ r x h.
        let e = before counts r + x in
        let l = number_lt M t r x h in
        omega (
          arith,
          sups_start e l,
          E-at lists N ends₀ inc₀ ends inc laid room_ends room_inc (2 * e + 1) (omega arith),
          sum_next (lengths lists) (2 * e + 1),
          ap length (sups_is r x h),
        );
  }

  pub whole_ends : ends ≡ over (written M (derived M)).ends ends₀
  unfolding written
  whole_ends =
      let n = tabulated_length (λ u. sum (lengths lists) (suc u)) (2 * N) in
      over_numbers (tabulated (λ u. sum (lengths lists) (suc u)) (2 * N)) ends₀ ends laid.ends_length (omega arith)
      (λ u h.
      laid.ends_done u (omega arith) ∙ sym (tabulated_at (λ v. sum (lengths lists) (suc v)) (2 * N) u (omega arith)))
      (λ u h. laid.ends_rest u (omega arith))

  -- ---- with the sups filled in

  module _ (inc' : List ℕ) (f : SupsFilled L (length counts) inc') where
    -- a part_at that is not among the sups has not changed
    stays : (p : ℕ)
        → ((e j : ℕ) → e < N → j < length (lists (2 * e + 1)) → p ≡ starts lists (2 * e + 1) + j → ⊥)
        → get_or inc' p 0 ≡ get_or inc p 0
    stays p out =
        f.rest p (λ i x j hi hx hj q.
        let h = number_lt M t i x hx in
        out (before counts i + x) j h (rw (← sups_is i x hx) hj)
        (q ∙ ap (λ (k : ℕ). k + j) (sups_start (before counts i + x) h)))

    sup_of : (e j i x : ℕ) → x < count L i → e ≡ before counts i + x → j < length (lists (2 * e + 1))
        → get_or inc' (starts lists (2 * e + 1) + j) 0 ≡ get_or (lists (2 * e + 1)) j 0
    sup_of e j i x hx q l =
        let h = number_lt M t i x hx in
        let hi = in_range M t i x (rw (written_count M (derived M) t i) at hx) in
        let l' : j < length (derived (layers L) i x) = rw (sups_is i x hx, ← q) l in
        let g : get_or inc' (sups_at L i x + j) 0 ≡ get_or (derived (layers L) i x) j 0 =
        f.at i x j (omega (arith, written_counts_length M (derived M))) hx l' in
        rw (sups_is i x hx, sups_start (before counts i + x) h, ← q) at g

    sups_at_lem : (e j : ℕ) → e < N → j < length (lists (2 * e + 1))
        → get_or inc' (starts lists (2 * e + 1) + j) 0 ≡ get_or (lists (2 * e + 1)) j 0
    sups_at_lem e j h l =
        let o = part_ok M.size (suc M.top) e h in
        let r = (part_at M.size (suc M.top) e).0 in
        let k = rw (← written_count M (derived M) t r) at o.1 in
        sup_of e j r _ k (o.2 ∙ rw (written_before M (derived M) t r)) l

    subs_at : (e j : ℕ) → e < N → j < length (lists (2 * e))
        → get_or inc' (starts lists (2 * e) + j) 0 ≡ get_or (lists (2 * e)) j 0
    subs_at e j h l =
        stays (starts lists (2 * e) + j) (λ e' j' h' l' q.
        omega (arith, part_same (lengths lists) (2 * e) (2 * e' + 1) j j' l l' q))
        ∙ laid.subs_done e j h l

    list_at_lem : (u j : ℕ) → u < 2 * N → j < length (lists u) → get_or inc' (starts lists u + j) 0 ≡ get_or (lists u) j 0
    list_at_lem u j h l = go (dec_lt (u % 2) 1)
      where
        go : Dec (u % 2 < 1) → get_or inc' (starts lists u + j) 0 ≡ get_or (lists u) j 0
        go (yes a) =
            let e : u ≡ 2 * (u / 2) = omega arith in
            rw e (subs_at (u / 2) j (omega arith) (rw e at l))
        go (no a) =
            let e : u ≡ 2 * (u / 2) + 1 = omega arith in
            rw e (sups_at_lem (u / 2) j (omega arith) (rw e at l))

    front : (p : ℕ) → p < length (joined lists (2 * N)) → get_or inc' p 0 ≡ get_or (joined lists (2 * N)) p 0
    front p h =
        let o = part_ok (lengths lists) (2 * N) p (omega (arith, joined_length lists (2 * N))) in
        rw o.2 (list_at_lem _ _ o.0 o.1 ∙ sym (joined_at lists (2 * N) _ _ o.0 o.1))

    rest : (p : ℕ) → length (joined lists (2 * N)) ≤ p → get_or inc' p 0 ≡ get_or inc₀ p 0
    rest p h =
        stays p (λ e j he hj q.
        omega (
          arith,
          joined_length lists (2 * N),
          sum_lt (lengths lists) (2 * e + 1) (2 * N) j (omega arith) hj,
        ))
        ∙ laid.inc_rest p (omega (arith, joined_length lists (2 * N)))

    pub whole_inc : inc' ≡ over (written M (derived M)).inc inc₀
    unfolding written
    whole_inc =
        over_numbers (joined lists (2 * N)) inc₀ inc' (f.same_length ∙ laid.inc_length)
        (omega (arith, joined_length lists (2 * N))) front rest
