-- The elements added to the pairs: that there is room for them, and what writing them leaves.
-- Assumes nothing.
use mathlib.Core.Path.{◌≡◌, refl, sym, ap, ◌∙◌}
use mathlib.Core.Bool.{Bool, true, false, cond}
use mathlib.Core.List.{List, [], ◌∷◌, ◌++◌}
use Prim.Native.Nat.{ℕ, zero, suc, ◌+◌, ◌-◌, ◌*◌, ◌≤◌, ◌<◌}
use native.Mathlib.Decide.{dec_lt}
use native.Mathlib.Omega.{arith}
use lib.ListN.{length, get_or, set, get_or-append}
use lib.Seq.{get_or_at}
use Rattle.order.specs.Sums.{sum}
use Rattle.order.proofs.Sums.{sum_none}
use Rattle.listing.specs.Listing.{Listing, width}
use Rattle.listing.specs.Laid.{Laid, LaidList}
use Rattle.listing.proofs.Laying.{laid_none, laid_same, laid_list}
use Rattle.listing_sups.specs.Filling.{starts, Put}
use Rattle.listing_sups.proofs.Laying.{starts_room, put_none, put_one}
use Rattle.product_pairs.specs.Trimmed.{bit}
use Rattle.product_pairs.specs.Grown.{up_to}
use Rattle.product_pairs.proofs.Sequences.{up_to_length}
use Rattle.product_places.specs.Places.{pairs_in, pairs_to, first_at}
use Rattle.product_element.specs.Pairs.{lists_of, size_of, Plan}
use Rattle.product_places.proofs.Numbers.{pairs_none}
use Rattle.product_writing.proofs.Target.{lists_low, lists_over_low, lists_high, lists_over_high}

-- ---- the numbers below n

up_to_at : (n j : ℕ) → j < n → get_or (up_to n) j 0 ≡ j
unfolding up_to
up_to_at zero j h = absurd (omega arith)
up_to_at (suc n) j h = go (λ l. up_to_at n j l) (dec_lt j n)
  where
    go : (j < n → get_or (up_to n) j 0 ≡ j) → Dec (j < n) → get_or (up_to n ++ (n ∷ [])) j 0 ≡ j
    go ih (yes l) = get_or-append (up_to n) (n ∷ []) 0 j (omega (arith, up_to_length n)) ∙ ih l
    go ih (no l) =
        let e : n ≡ j = omega arith in
        get_or_at (up_to n) n [] 0 j (up_to_length n ∙ e) ∙ e

up_to_laid : (at n : ℕ) (d d' : List ℕ) → Laid at (λ j. j) n d d' → LaidList at (up_to n) d d'
up_to_laid at n d d' l = laid_list at d d' (up_to n) (λ j. j) n (up_to_length n) (λ j h. sym (up_to_at n j h)) l

-- ---- the element added below

module _ (max : Bool) (P Q : Listing) (hp : 0 < length P.counts) (hq : 0 < length Q.counts) where
  low_put : (min : Bool) (sups r : ℕ) (ends inc ends' : List ℕ) → 2 * bit min ≤ length ends
      → sups ≡ pairs_in P.counts Q.counts 0 1 → r ≡ cond min sups 0
      → ends' ≡ cond min (set (set ends 0 0) 1 sups) ends → Put (lists_of min max P Q) 0 (bit min) r ends inc ends' inc
  unfolding sum
  low_put true sups r ends inc ends' room es er ee =
      put_one (lists_of true max P Q) 0 0 sups r [] ends inc ends' inc refl (sym (lists_low P Q hp hq max))
      (es ∙ sym (lists_over_low P Q hp hq max)) (omega arith) (omega arith) (laid_none 0 _ inc) (rw er ee)
  low_put false sups r ends inc ends' room es er ee = rw ee (put_none (lists_of false max P Q) 0 0 r ends inc er refl)

-- ---- the element added above

module _ (min : Bool) (P Q : Listing) (hp : 0 < length P.counts) (hq : 0 < length Q.counts) where
  abbrev p : List ℕ
  p = P.counts

  abbrev q : List ℕ
  q = Q.counts

  abbrev n : ℕ
  n = length p + length q - 1

  abbrev e : ℕ
  e = bit min + pairs_to p q n

  high_room : (max : Bool) (at k : ℕ) → at ≡ starts (lists_of min max P Q) (2 * e) → k ≡ pairs_in p q (n - 1) n
      → at + cond max k 0 ≤ starts (lists_of min max P Q) (2 * (e + bit max))
  high_room true at k ea ek =
      let r = starts_room (lists_of min true P Q) (e + 1) e (omega arith) in
      let l = ap length (lists_high P Q hp hq min) ∙ up_to_length _ in
      omega arith
  high_room false at k ea ek =
      let z : e + 0 ≡ e = omega arith in
      rw z (omega arith)

  high_put : (max : Bool) (at k r : ℕ) (ends inc ends' inc' : List ℕ) → 2 * (e + bit max) ≤ length ends
      → at ≡ starts (lists_of min max P Q) (2 * e) → k ≡ pairs_in p q (n - 1) n → r ≡ at + cond max k 0
      → Laid at (λ j. j) (cond max k 0) inc inc' → ends' ≡ cond max (set (set ends (2 * e) r) (2 * e + 1) r) ends
      → Put (lists_of min max P Q) e (e + bit max) r ends inc ends' inc'
  high_put true at k r ends inc ends' inc' room ea ek er l ee =
      let s : r ≡ at + length (up_to k) = er ∙ ap (λ (m : ℕ). at + m) (sym (up_to_length k)) in
      put_one (lists_of min true P Q) e at 0 r (up_to k) ends inc ends' inc' ea
      (ap up_to ek ∙ sym (lists_high P Q hp hq min)) (sym (lists_over_high P Q hp hq min)) (omega arith) (omega arith)
      (up_to_laid at k inc inc' l) (rw (← s) ee)
  high_put false at k r ends inc ends' inc' room ea ek er l ee =
      let er' : r ≡ starts (lists_of min false P Q) (2 * e) = omega arith in
      rw (ee, laid_same at _ inc inc' l) (put_none (lists_of min false P Q) e (e + 0) r ends inc er' (omega arith))

-- ---- both, by the plan

module _ (min max : Bool) (P Q : Listing) (re ri : ℕ) (plan : Plan min max P Q re ri) where
  abbrev p' : List ℕ
  p' = P.counts

  abbrev q' : List ℕ
  q' = Q.counts

  abbrev m : ℕ
  m = length p' + length q' - 1

  abbrev lists : ℕ → List ℕ
  lists = lists_of min max P Q

  first : first_at min p' q' 0 0 ≡ bit min
  first = omega (arith, pairs_none p' q', sum_none (λ k. get_or p' k 0 * get_or q' (0 - k) 0))

  last : first_at min p' q' m 0 ≡ bit min + pairs_to p' q' m
  last = omega (arith, sum_none (λ k. get_or p' k 0 * get_or q' (m - k) 0))

  pub sizes : size_of min max p' q' ≡ bit min + pairs_to p' q' m + bit max
  unfolding size_of
  sizes = refl

  pub min_put : (sups r : ℕ) (ends inc ends' : List ℕ) → length ends ≡ re → sups ≡ pairs_in p' q' 0 1
      → r ≡ cond min sups 0 → ends' ≡ cond min (set (set ends 0 0) 1 sups) ends
      → Put lists 0 (first_at min p' q' 0 0) r ends inc ends' inc
  min_put sups r ends inc ends' el es er ee =
      rw first
      (low_put max P Q plan.ranks_p.0 plan.ranks_q.0 min sups r ends inc ends'
      (omega (arith, plan.room_for_ends, sizes)) es er ee)

  module _ (at k e' : ℕ) (ea : at ≡ starts lists (2 * first_at min p' q' m 0)) (ek : k ≡ pairs_in p' q' (m - 1) m)
      (eq : e' ≡ bit min + pairs_to p' q' m) where
    max_room : at + cond max k 0 ≤ starts lists (2 * size_of min max p' q')
    max_room = rw sizes (high_room min P Q plan.ranks_p.0 plan.ranks_q.0 max at k (rw last at ea) ek)

    -- what is asked of the code that writes the highest element
    pub max_asked : (2 * (e' + bit max) ≤ re) × ((at + cond max k 0 ≤ ri) × (at + cond max k 0 < width))
    max_asked =
        let s = sizes in
        let r = max_room in (
          omega (arith, plan.room_for_ends),
          (omega (arith, plan.room_for_inc), omega (arith, plan.incidences)),
        )

    -- and what that leaves
    pub max_put : (r : ℕ) (ends inc ends' inc' : List ℕ) → length ends ≡ re → r ≡ at + cond max k 0
        → Laid at (λ j. j) (cond max k 0) inc inc' → ends' ≡ cond max (set (set ends (2 * e') r) (2 * e' + 1) r) ends
        → Put lists (first_at min p' q' m 0) (size_of min max p' q') r ends inc ends' inc'
    max_put r ends inc ends' inc' el er l ee =
        rw (last, sizes)
        (high_put min P Q plan.ranks_p.0 plan.ranks_q.0 max at k r ends inc ends' inc'
        (omega (arith, plan.room_for_ends, sizes)) (rw last at ea) ek er l (rw eq at ee))
