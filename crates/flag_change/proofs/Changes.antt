-- The change of a flag of a closed listing: between the neighbours of each rank lie exactly two elements, the flag's
-- and one other; the change takes the one out and puts the other in, and the change back exchanges them.
-- Assumes nothing.
use mathlib.Core.Path.{◌≡◌, refl, sym, ap, ◌∙◌}
use mathlib.Core.List.{List, [], ◌∷◌}
use mathlib.Core.Logic.{◌↔◌, ◌≢◌, ◌⊎◌, inl, inr}
use Prim.Native.Nat.{ℕ, ◌+◌, ◌-◌, ◌<◌}
use native.Mathlib.Omega.{arith}
use native.Mathlib.Decide.{ℕ_discrete}
use lib.ListN.{get_or, set}
use lib.Seq.{get_or-set_same, set-set, set-get_or}
use Rattle.order.specs.Lists.{In}
use Rattle.order.specs.Steps.{ChangedAt}
use Rattle.order.specs.Diamond.{OneOther}
use Rattle.order.proofs.Renumbering.{OneOther-same}
use Rattle.order.proofs.Two.{TheTwo-of, TheTwo-same}
use Rattle.listing.specs.Listing.{Listing, Limits, count, rank, subs}
use Rattle.valid_incidence.specs.Incidence.{Incident}
use Rattle.valid_incidence.proofs.Below.{sub_there}
use Rattle.valid_diamond.specs.Dyadic.{LiesBetween, DiamondAt, DiamondUpTo}
use Rattle.valid.specs.Closed.{Closed}
use Rattle.flag_change.specs.Flags.{IsFlag}
use Rattle.flag_change.specs.Change.{other, between, replaced_at, change_at, Changes, Replaces}
use Rattle.flag_change.proofs.Common.{common_in, other_same, other_found}
use Rattle.flag_change.proofs.Replaced.{taken_is, put_is}
use Rattle.flag_change.proofs.Replaced.{changed_set, changed_is, changed_apart, between_set, set_flag}

-- ---- the other of two

-- of the members e and o of a list, the first that is not e is o
other_is : (e o : ℕ) (l : List ℕ) → In o l → o ≢ e → ((x : ℕ) → In x l → (x ≡ e) ⊎ (x ≡ o)) → other e l ≡ o
unfolding In
other_is e o [] h d only = absurd h
other_is e o (x ∷ l) h d only =
    go (λ k. other_is e o l k d (λ y m. only y (inr m))) h (ℕ_discrete x e) (only x (inl refl))
  where
    go : (In o l → other e l ≡ o) → (o ≡ x) ⊎ In o l → Dec (x ≡ e) → (x ≡ e) ⊎ (x ≡ o) → other e (x ∷ l) ≡ o
    go ih (inl w) (yes z) u = absurd (d (w ∙ z))
    go ih (inr k) (yes z) u = other_same e x l z ∙ ih k
    go ih k (no z) (inl w) = absurd (z w)
    go ih k (no z) (inr w) = other_found e x l z ∙ w

-- ---- what lies between

module _ {m : Limits} (L : Listing) (C : Closed m L) (r : ℕ) (p : 0 < r) (q : r < rank L) where
  module _ (f : List ℕ) (F : IsFlag L f) where
    low_exists : get_or f (r - 1) 0 < count L (r - 1)
    low_exists = F.exists (r - 1) (omega (arith, F.one_each))

    high_exists : get_or f (r + 1) 0 < count L (r + 1)
    high_exists = F.exists (r + 1) (omega (arith, F.one_each))

    -- an element under the upper neighbour exists
    mid_exists : (x : ℕ) → In x (subs L (r + 1) (get_or f (r + 1) 0)) → x < count L r
    mid_exists x h = sub_there L C.incident (r + 1) r _ x (omega arith) high_exists h

    -- the elements between the neighbours, as the diamond has them
    between_is : (x : ℕ) → In x (between L r f) ↔ LiesBetween L (r + 1) (get_or f (r + 1) 0) (get_or f (r - 1) 0) x
    unfolding between Incident
    between_is x =
        let e : r + 1 - 1 ≡ r = omega arith in
        let d : r - 1 + 1 ≡ r = omega arith in
        let up = (C.incident (r - 1) (get_or f (r - 1) 0) low_exists).upper in
        rw e (
          λ h. let k = (common_in x _ _).0 h in (k.1, rw d at (up.each x k.0).1),
          λ h.
              let b = (C.incident r x (mid_exists x h.0)).lower.each (get_or f (r - 1) 0) h.1 in
              (common_in x _ _).1 (b.2, h.0),
        )

    -- the flag's own element is one of them
    stands : In (get_or f r 0) (between L r f)
    stands =
        let e : r + 1 - 1 ≡ r = omega arith in
        let d : r - 1 + 1 ≡ r = omega arith in
        let u : In (get_or f (r - 1) 0) (subs L r (get_or f r 0))
        = rw d at (F.under (r - 1) (omega (arith, F.one_each))) in
        (between_is (get_or f r 0)).1 (rw e (F.under r (omega (arith, F.one_each)), u))

    the_other : OneOther (λ x. In x (between L r f)) (get_or f r 0)
    unfolding DiamondUpTo DiamondAt
    the_other =
        let here = (between_is (get_or f r 0)).0 stands in
        OneOther-same (LiesBetween L (r + 1) (get_or f (r + 1) 0) (get_or f (r - 1) 0)) (λ x. In x (between L r f))
        (get_or f r 0)
        (λ w. (between_is w).1) (λ w. (between_is w).0)
        (C.diamond (r + 1) (omega arith) (omega arith) (get_or f (r + 1) 0) (get_or f (r - 1) 0) (get_or f r 0)
        high_exists here)

    -- the number that the change puts in
    abbrev new : ℕ
    new = other (get_or f r 0) (between L r f)

    new_is : new ≡ the_other.other
    new_is =
        other_is (get_or f r 0) the_other.other (between L r f)
        the_other.holds the_other.differs the_other.only

    new_differs : new ≢ get_or f r 0
    new_differs = rw new_is the_other.differs

    changed_flag : IsFlag L (change_at L r f)
    unfolding change_at replaced_at
    changed_flag =
        let e : r + 1 - 1 ≡ r = omega arith in
        let h : In new (between L r f) = rw new_is the_other.holds in
        let b : In new (subs L (r + 1) (get_or f (r + 1) 0)) × In (get_or f (r - 1) 0) (subs L r new)
        = rw e at ((between_is new).0 h) in
        set_flag L f r p q F new (mid_exists new b.0) b.1 b.0

    changed_at : ChangedAt r f (change_at L r f)
    unfolding change_at replaced_at
    changed_at = changed_set f r new (omega (arith, F.one_each)) (λ e. new_differs (sym e))

    -- seen from the new flag, the old element is the other one
    old_is : other new (between L r f) ≡ get_or f r 0
    old_is =
        other_is new (get_or f r 0) (between L r f) stands (λ e. new_differs (sym e))
        (λ x h. swap (the_other.only x h))
      where
        swap : {x : ℕ} → (x ≡ get_or f r 0) ⊎ (x ≡ the_other.other) → (x ≡ new) ⊎ (x ≡ get_or f r 0)
        swap (inl e) = inr e
        swap (inr e) = inl (e ∙ sym new_is)

    -- what the change back takes out, and what it puts in
    pub back_taken : (replaced_at L r (change_at L r f)).taken ≡ (replaced_at L r f).put
    unfolding change_at replaced_at
    back_taken = get_or-set_same f r new 0 (omega (arith, F.one_each))

    pub back_put : (replaced_at L r (change_at L r f)).put ≡ (replaced_at L r f).taken
    unfolding change_at replaced_at
    back_put = rw (get_or-set_same f r new 0 (omega (arith, F.one_each)), between_set L f r p q new) old_is

    changed_back : change_at L r (change_at L r f) ≡ f
    unfolding change_at replaced_at
    changed_back = ap (set (change_at L r f) r) back_put ∙ set-set f r new (get_or f r 0) ∙ set-get_or f r 0

  module _ (f : List ℕ) (F : IsFlag L f) where
    changed_only : (g : List ℕ) → IsFlag L g → ChangedAt r f g → g ≡ change_at L r f
    unfolding change_at replaced_at
    changed_only g G c = changed_is c ∙ ap (set f r) (go ((the_other f F).only (get_or g r 0) between_g))
      where
        between_g : In (get_or g r 0) (between L r f)
        between_g = rw (← between_set L f r p q (get_or g r 0), ← changed_is c) (stands g G)

        go : (get_or g r 0 ≡ get_or f r 0) ⊎ (get_or g r 0 ≡ (the_other f F).other) → get_or g r 0 ≡ new f F
        go (inl e) = absurd (changed_apart c e)
        go (inr e) = e ∙ sym (new_is f F)

    -- What a change takes out and puts in are the two elements between the neighbours of its rank.
    pub replaces : Replaces L f r (change_at L r f) (replaced_at L r f).taken (replaced_at L r f).put
    unfolding replaced_at
    replaces = record {
      taken = taken_is L f r;
      put = put_is L f r (omega (arith, F.one_each));
      two =
          TheTwo-same (λ x. In x (between L r f)) (LiesBetween L (r + 1) (get_or f (r + 1) 0) (get_or f (r - 1) 0))
          (λ w. (between_is f F w).0) (λ w. (between_is f F w).1)
          (TheTwo-of (λ x. In x (between L r f)) (get_or f r 0) (new f F) (stands f F) (the_other f F) (new_is f F));
    }

    -- A flag of a closed listing has exactly one change at each rank between the ends, and making it twice leads back.
    pub changes : Changes L f r
    changes = record {
      stands = stands f F;
      one_other = the_other f F;
      is_flag = changed_flag f F;
      changed = changed_at f F;
      back = changed_back f F;
      only = changed_only;
    }
