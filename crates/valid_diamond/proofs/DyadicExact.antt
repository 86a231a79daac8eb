-- Test 3 and the diamond. Where test 2 passes, test 3 answers 0 exactly if each index that a walk meets is met twice;
-- where moreover no list holds an index twice, exactly if the diamond holds at the ranks that it looks at.
-- Assumes nothing.
use mathlib.Core.Path.{◌≡◌, refl, sym, ◌∙◌}
use mathlib.Core.Logic.Iff
use mathlib.Core.Logic.{◌↔◌, ◌⊎◌, inl, inr}
use mathlib.Core.Bool.{Bool, true, false, cond}
use mathlib.Core.List.{List, [], ◌∷◌}
use Prim.Native.Nat.{ℕ, ◌+◌, ◌-◌, ◌≤◌, ◌<◌}
use native.Mathlib.Omega.{arith}
use lib.ListN.{length}
use Rattle.order.specs.Lists.{In, has, occurs}
use Rattle.order.proofs.Lists.{append_in, in_left, in_right, has_yes, has_no}
use Rattle.order.proofs.Lists.{occurs_none, occurs_some, occurs_append, occurs_nil}
use Rattle.order.proofs.Once.{Once, keep, in_keep, once_keep}
use Rattle.listing.specs.Listing.{Listing, count, before, subs}
use Rattle.valid_incidence.specs.Incidence.{Incident}
use Rattle.order.specs.Diamond.{OneOther}
use Rattle.order.proofs.Renumbering.{OneOther-same}
use Rattle.listing.proofs.Elements.{ranks_exact}
use Rattle.valid_diamond.specs.Dyadic.{subs_of_all, walk, sections_test, dyadic_test}
use Rattle.valid_diamond.specs.Dyadic.{LiesBetween, DiamondAt, DiamondUpTo, Distinct, MetTwiceAt, MetTwice}
use Rattle.valid_diamond.proofs.Walks.{subs_of}
use Rattle.valid_diamond.proofs.Counting.{sections_exact}
use Rattle.valid_diamond.proofs.Twos.{two_exact}

-- ---- what a walk meets

module _ (ends inc : List ℕ) (b x : ℕ) where
  abbrev walk_of : List ℕ → List ℕ
  walk_of l = subs_of_all ends inc b l

  abbrev of : ℕ → List ℕ
  of s = subs_of ends inc b s

  in_walk : (l : List ℕ) → In x (walk_of l) → (s : ℕ) × In s l × In x (of s)
  unfolding subs_of_all In
  in_walk [] m = absurd m
  in_walk (s ∷ l) m = go (in_walk l) (append_in x (of s) (walk_of l) m)
    where
      go : (In x (walk_of l) → (t : ℕ) × In t l × In x (of t)) → In x (of s) ⊎ In x (walk_of l)
          → (t : ℕ) × ((t ≡ s) ⊎ In t l) × In x (of t)
      go ih (inl k) = (s, inl refl, k)
      go ih (inr k) = let p = ih k in (p.0, inr p.1, p.2)

  walk_in : (s : ℕ) (l : List ℕ) → In s l → In x (of s) → In x (walk_of l)
  unfolding subs_of_all In
  walk_in s [] m k = absurd m
  walk_in s (t ∷ l) (inl e) k = in_left x (of t) (walk_of l) (rw e at k)
  walk_in s (t ∷ l) (inr m) k = in_right x (of t) (walk_of l) (walk_in s l m k)

  -- where no list repeats it, an index is met once for each list that has it
  abbrev having : ℕ → Bool
  having s = has (of s) x

  walk_occurs : (l : List ℕ) → ((s : ℕ) → In s l → occurs x (of s) ≤ 1) → occurs x (walk_of l) ≡ length (keep having l)
  unfolding subs_of_all keep In
  walk_occurs [] d = occurs_nil x
  walk_occurs (s ∷ l) d =
      occurs_append x (of s) (walk_of l) ∙ go (having s) refl (walk_occurs l (λ t m. d t (inr m)))
    where
      go : (c : Bool) → having s ≡ c → occurs x (walk_of l) ≡ length (keep having l)
          → occurs x (of s) + occurs x (walk_of l) ≡ length (cond (having s) (s ∷ keep having l) (keep having l))
      go true e ih = rw e (omega (arith, d s (inl refl), (occurs_some x (of s)).1 ((has_yes x (of s)).0 e)))
      go false e ih = rw e (omega (arith, (occurs_none x (of s)).1 ((has_no x (of s)).0 e)))

-- A walk meets what lies two ranks lower.
pub walk_exact : (L : Listing) (r i x : ℕ) → In x (walk L r i) ↔ ((s : ℕ) × LiesBetween L r i x s)
walk_exact L r i x =
    let b = before L.counts (r - 1) in (
      λ m. let p = in_walk L.ends L.inc b x (subs L r i) m in (p.0, (p.1, p.2)),
      λ p. walk_in L.ends L.inc b x p.0 (subs L r i) p.1.0 p.1.1,
    )

-- ---- counted by occurrence

module _ (L : Listing) (I : Incident L) where
  -- what lies two ranks lower is there
  pub there : (r i x : ℕ) → i < count L r → In x (walk L r i) → x < count L (r - 2)
  unfolding Incident
  there r i x h m =
      let p = in_walk L.ends L.inc (before L.counts (r - 1)) x (subs L r i) m in
      let k = ((I r i h).lower.each p.0 p.1).1 in
      let e : r - 1 - 1 ≡ r - 2 = omega arith in
      rw e at ((I (r - 1) p.0 k).lower.each x p.2).1

  -- Where test 2 passes, test 3 answers 0 exactly if each index that a walk meets is met twice.
  pub dyadic_counts : (h : ℕ) → (dyadic_test L h).no ≡ 0 ↔ MetTwice L h
  unfolding dyadic_test MetTwice
  dyadic_counts h =
      let e = ranks_exact L (sections_test L) (MetTwiceAt L) (λ r i k. sections_exact L r i (λ y. there r i y k))
      2 (h + 1) in
      (λ z r i low high. e.0 z r i low (omega arith), λ a. e.1 (λ r i low high. a r i low (omega arith)))

-- ---- the diamond

-- an element's subs that lie over x
abbrev pub subs_over : Listing → ℕ → ℕ → ℕ → List ℕ
subs_over L r i x = keep (λ s. has (subs L (r - 1) s) x) (subs L r i)

pub over_between : (L : Listing) (r i x s : ℕ) → In s (subs_over L r i x) ↔ LiesBetween L r i x s
over_between L r i x s = (
  λ m. let p = (in_keep _ s (subs L r i)).0 m in (p.0, (has_yes x (subs L (r - 1) s)).0 p.1),
  λ b. (in_keep _ s (subs L r i)).1 (b.0, (has_yes x (subs L (r - 1) s)).1 b.1),
)

module _ (L : Listing) (I : Incident L) (D : Distinct L) where
  module _ (r i x : ℕ) (k : i < count L r) where
    pub over_once : Once (subs_over L r i x)
    unfolding Distinct
    over_once = once_keep _ (subs L r i) (λ s. D 0 r i s (omega arith) k)

    pub met_over : occurs x (walk L r i) ≡ length (subs_over L r i x)
    unfolding Distinct Incident
    met_over =
        walk_occurs L.ends L.inc (before L.counts (r - 1)) x (subs L r i)
        (λ s m. D 0 (r - 1) s x (omega arith) ((I r i k).lower.each s m).1)

    -- met twice: beside one that lies between, exactly one other does
    twice_two : (s : ℕ) → LiesBetween L r i x s → occurs x (walk L r i) ≡ 2 ↔ OneOther (LiesBetween L r i x) s
    twice_two s b =
        let e = over_between L r i x in
        let t = two_exact (subs_over L r i x) over_once s ((e s).1 b) in (
          λ w.
              OneOther-same (λ y. In y (subs_over L r i x)) (LiesBetween L r i x) s (λ y. (e y).0) (λ y. (e y).1)
              (t.0 (sym met_over ∙ w)),
          λ o.
              met_over
              ∙ t.1
              (OneOther-same (LiesBetween L r i x) (λ y. In y (subs_over L r i x)) s (λ y. (e y).1) (λ y. (e y).0) o),
        )

  pub twice_diamond : (h : ℕ) → MetTwice L h ↔ DiamondUpTo L h
  unfolding MetTwice DiamondUpTo DiamondAt
  twice_diamond h = (
    λ a r low high i x s k b.
        let m = walk_in L.ends L.inc _ x s (subs L r i) b.0 b.1 in
        (twice_two r i x k s b).0 (a r i low high k x m),
    λ a r i low high k x m.
        let p = in_walk L.ends L.inc (before L.counts (r - 1)) x (subs L r i) m in
        (twice_two r i x k p.0 (p.1, p.2)).1 (a r low high i x p.0 k (p.1, p.2)),
  )

  -- Where test 2 passes and no list holds an index twice, test 3 answers 0 exactly if the diamond holds.
  pub dyadic_exact : (h : ℕ) → (dyadic_test L h).no ≡ 0 ↔ DiamondUpTo L h
  dyadic_exact h = Iff.trans (dyadic_counts L I h) (twice_diamond h)
