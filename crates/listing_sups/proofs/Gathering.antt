-- Sups gathered from lists of subs: entry by entry of a list, and list by list of a rank.
-- Assumes nothing.
use mathlib.Core.Path.{◌≡◌, refl, sym, ap, ◌∙◌}
use mathlib.Core.Logic.{◌⊎◌, inl, inr}
use mathlib.Core.List.{List, [], ◌∷◌}
use Prim.Native.Nat.{ℕ, zero, suc, ◌+◌, ◌-◌, ◌*◌, ◌≤◌, ◌<◌}
use native.Mathlib.Nat.{eq-or-lt_of_le}
use native.Mathlib.Omega.{arith}
use lib.ListN.{length, get_or, take, drop, replicate, length-take, length-drop, length-replicate, take-append-drop}
use lib.ListN.{replicate-append-replicate}
use lib.Seq.{ext_get_or, get_or-take, get_or-drop, take_all}
use Rattle.order.specs.Lists.{occurs}
use Rattle.order.specs.Sums.{sum}
use Rattle.order.proofs.Lists.{occurs_append, occurs_own}
use Rattle.order.proofs.Sums.{sum_le}
use Rattle.listing.specs.Listing.{start, entries, Ends, subs_at}
use Rattle.listing.specs.Layers.{gather}
use Rattle.listing.proofs.Layers.{gather_length}
use Rattle.listing_sups.specs.Sups.{Raised, Strewn, Apart, span}
use Rattle.listing_sups.proofs.Raising.{occurs_take, raised_then}
use Rattle.listing_sups.proofs.Strewing.{strewn_then}

occurs_part : (x : ℕ) (l : List ℕ) (d : ℕ) → occurs x (take d l) ≤ occurs x l
occurs_part x l d =
    omega (arith, occurs_append x (take d l) (drop d l), ap (occurs x) (take-append-drop d l))

-- ---- the entries of one list

-- the code goes through the entries from place lo up to hi, and has come to t
module _ (from n lo hi k t : ℕ) (inc next inc' next' : List ℕ) (ht : (lo ≤ t) × (t < hi) × (hi ≤ length inc))
    (apart : Apart from n (λ x. occurs x (span inc lo hi)) lo next)
    (s : Strewn from n (λ y. replicate (occurs y (take (t - lo) (span inc lo hi))) k) next inc inc')
    (r : Raised from n (λ y. occurs y (take (t - lo) (span inc lo hi))) next next') where
  abbrev l : List ℕ
  l = span inc lo hi

  abbrev d : ℕ
  d = t - lo

  list_size : length l ≡ hi - lo
  list_size = omega (arith, length-take (hi - lo) (drop lo inc), length-drop lo inc)

  -- the entry that is read is that of the list as it was
  element_read : get_or inc' t 0 ≡ get_or l d 0
  element_read =
      let e : lo + d ≡ t = omega arith in
      s.rest t
      (λ x j h i q.
      omega (arith, length-replicate (occurs x (take d l)) k, occurs_part x l d, apart.below x h))
      ∙ sym (get_or-take (hi - lo) (drop lo inc) d 0 (omega arith)
      ∙ get_or-drop lo inc d 0 ∙ ap (λ (p : ℕ). get_or inc p 0) e)

  -- there is room at its cursor
  pub element_room : (x : ℕ) → x ≡ get_or inc' t 0 → x < n → get_or next' (from + x) 0 < lo
  element_room x e h =
      omega (
        arith,
        r.at x h,
        apart.below x h,
        occurs_take x l d x (omega (arith, list_size)) (e ∙ element_read),
        occurs_part x l (d + 1),
        occurs_own x,
      )

  -- one entry more has been gone through
  module _ (x : ℕ) (next'' inc'' : List ℕ) (ex : x ≡ get_or inc' t 0)
      (r' : Raised from n (λ y. occurs y (x ∷ [])) next' next'')
      (s' : Strewn from n (λ y. replicate (occurs y (x ∷ [])) k) next' inc' inc'') where
    more : (y : ℕ) → occurs y (take (t + 1 - lo) l) ≡ occurs y (take d l) + occurs y (x ∷ [])
    more y =
        let e : t + 1 - lo ≡ d + 1 = omega arith in
        rw e (occurs_take y l d x (omega (arith, list_size)) (ex ∙ element_read))

    pub element_raised : Raised from n (λ y. occurs y (take (t + 1 - lo) l)) next next''
    element_raised = raised_then from n _ _ _ next next' next'' r r' more

    pub element_strewn : Strewn from n (λ y. replicate (occurs y (take (t + 1 - lo) l)) k) next inc inc''
    element_strewn =
        strewn_then from n _ _ _ _ _ lo next next' inc inc' inc'' s r s' apart
        (λ y. sym (length-replicate (occurs y (take d l)) k))
        (λ y h.
        omega (
          arith,
          length-replicate (occurs y (take d l)) k,
          length-replicate (occurs y (x ∷ [])) k,
          more y,
          occurs_part y l (t + 1 - lo),
        ))
        (λ y. ap (λ (m : ℕ). replicate m k) (more y)
        ∙ sym (replicate-append-replicate (occurs y (take d l)) (occurs y (x ∷ [])) k))

-- all entries have been gone through
pub span_whole : (lo hi : ℕ) (inc : List ℕ) → take (hi - lo) (span inc lo hi) ≡ span inc lo hi
span_whole lo hi inc =
    take_all (hi - lo) (span inc lo hi) (omega (arith, length-take (hi - lo) (drop lo inc)))

-- ---- the lists of one rank

-- a part stays where nothing in it has changed
pub span_same : (lo hi : ℕ) (inc inc' : List ℕ) → length inc' ≡ length inc
    → ((p : ℕ) → lo ≤ p → p < hi → get_or inc' p 0 ≡ get_or inc p 0) → span inc' lo hi ≡ span inc lo hi
span_same lo hi inc inc' e same = ext_get_or 0 _ _ sizes (λ i h. go i (omega (arith, size inc')))
  where
    size : (l : List ℕ) → (length (span l lo hi) ≤ hi - lo) × (length (span l lo hi) ≤ length l - lo)
    size l = omega (arith, length-take (hi - lo) (drop lo l), length-drop lo l)

    sizes : length (span inc' lo hi) ≡ length (span inc lo hi)
    sizes =
        omega (
          arith,
          length-take (hi - lo) (drop lo inc'),
          length-drop lo inc',
          length-take (hi - lo) (drop lo inc),
          length-drop lo inc,
        )

    at : (l : List ℕ) (i : ℕ) → i < hi - lo → get_or (span l lo hi) i 0 ≡ get_or l (lo + i) 0
    at l i h = get_or-take (hi - lo) (drop lo l) i 0 h ∙ get_or-drop lo l i 0

    go : (i : ℕ) → i < hi - lo → get_or (span inc' lo hi) i 0 ≡ get_or (span inc lo hi) i 0
    go i h = at inc' i h ∙ same (lo + i) (omega arith) (omega arith) ∙ sym (at inc i h)

module _ (f : ℕ → List ℕ) (x : ℕ) where
  pub gather_none : length (gather f x 0) ≡ 0
  unfolding gather
  gather_none = refl

  gather_next : (k : ℕ) → length (gather f x (k + 1)) ≡ length (gather f x k) + occurs x (f k)
  unfolding sum
  gather_next k =
      let e : k + 1 ≡ suc k = omega arith in
      rw e (omega (arith, gather_length f x (suc k), gather_length f x k))

  gather_le : (k m : ℕ) → k ≤ m → length (gather f x k) ≤ length (gather f x m)
  gather_le k m h =
      omega (arith, gather_length f x k, gather_length f x m, sum_le (λ i. occurs x (f i)) k m h)

-- lists begin one after another
pub start_le : (ends inc : List ℕ) → Ends ends inc → (i j : ℕ) → i ≤ j → j ≤ length ends → start ends i ≤ start ends j
start_le ends inc good i zero h l =
    let e : i ≡ 0 = omega arith in
    rw e (omega arith)
start_le ends inc good i (suc j) h l = go (λ a. start_le ends inc good i j a (omega arith)) (eq-or-lt_of_le h)
  where
    go : (i ≤ j → start ends i ≤ start ends j) → (i ≡ suc j) ⊎ (i < suc j) → start ends i ≤ start ends (suc j)
    go ih (inl e) = rw e (omega arith)
    go ih (inr a) = omega (arith, ih (omega arith), good.rising j (omega arith))

module _ (from n here m k : ℕ) (ends inc next inc' next' : List ℕ) (good : Ends ends inc)
    (hm : 2 * (here + m) ≤ length ends) (hk : k < m)
    (apart : Apart from n (λ x. length (gather (subs_at ends inc here) x m)) (start ends (2 * here)) next)
    (s : Strewn from n (λ y. gather (subs_at ends inc here) y k) next inc inc')
    (r : Raised from n (λ y. length (gather (subs_at ends inc here) y k)) next next')
    (lo hi : ℕ) (el : lo ≡ start ends (2 * (here + k))) (eh : hi ≡ get_or ends (2 * (here + k)) 0) where
  abbrev f : ℕ → List ℕ
  f = subs_at ends inc here

  rise : start ends (2 * here) ≤ lo
  rise = rw el (start_le ends inc good (2 * here) (2 * (here + k)) (omega arith) (omega arith))

  -- the list that is read is that of the rank as it was
  rank_list : span inc' lo hi ≡ f k
  unfolding entries
  rank_list =
      let z : 2 * (here + k) + 0 ≡ 2 * (here + k) = omega arith in
      rw (z, ← el, ← eh)
      (span_same lo hi inc inc' s.same_length
      (λ p h _. s.rest p (λ x j hx hj e.
      omega (arith, apart.below x hx, gather_le f x k m (omega arith), rise))))

  at_cursor : (x : ℕ) → x < n → get_or next' (from + x) 0 + occurs x (span inc' lo hi)
      ≡ get_or next (from + x) 0 + length (gather f x (k + 1))
  at_cursor x h = omega (arith, r.at x h, gather_next f x k, ap (occurs x) rank_list)

  -- there is room at the cursors
  pub rank_apart : Apart from n (λ x. occurs x (span inc' lo hi)) lo next'
  rank_apart = record {
    order = λ x y h l.
        omega (
          arith,
          at_cursor x (omega arith),
          gather_le f x (k + 1) m (omega arith),
          apart.order x y h l,
          r.at y l,
        );
    below = λ x h.
        omega (arith, at_cursor x h, gather_le f x (k + 1) m (omega arith), apart.below x h, rise);
  }

  -- one list more has been gone through
  module _ (next'' inc'' : List ℕ) (r' : Raised from n (λ y. occurs y (span inc' lo hi)) next' next'')
      (s' : Strewn from n (λ y. replicate (occurs y (span inc' lo hi)) k) next' inc' inc'') where
    pub rank_raised : Raised from n (λ y. length (gather f y (k + 1))) next next''
    rank_raised =
        raised_then from n _ _ _ next next' next'' r r'
        (λ y. gather_next f y k ∙ ap (λ (l : List ℕ). length (gather f y k) + occurs y l) (sym rank_list))

    pub rank_strewn : Strewn from n (λ y. gather f y (k + 1)) next inc inc''
    unfolding gather
    rank_strewn =
        let e : k + 1 ≡ suc k = omega arith in
        strewn_then from n _ _ _ _ _ (start ends (2 * here)) next next' inc inc' inc'' s r s' apart (λ y. refl)
        (λ y h.
        omega (
          arith,
          length-replicate (occurs y (span inc' lo hi)) k,
          ap (occurs y) rank_list,
          gather_next f y k,
          gather_le f y (k + 1) m (omega arith),
        ))
        (λ y. rw (e, rank_list))
