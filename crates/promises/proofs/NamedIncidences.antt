-- Test 2: a refusal is true of the element and the entry that it names, and all before it are good.
-- Assumes nothing.
use mathlib.Core.Path.{◌≡◌}
use mathlib.Core.Bool.{Bool, true, not, ◌&&◌}
use mathlib.Core.List.{List, []}
use Prim.Native.Nat.{ℕ, ◌-◌, ◌≤◌, ◌<◌}
use native.Mathlib.Omega.{arith}
use borrow.Author.Tests.{eqb-true, ltb-true, ltb-false}
use lib.Dec.{ltb, eqb}
use lib.ListN.{length}
use Rattle.std.proofs.lemmas.Bool.{not-true}
use Rattle.std.proofs.lemmas.List.{nil_from_length}
use Rattle.order.specs.Lists.{In, has}
use Rattle.order.proofs.Lists.{has_no}
use Rattle.order.proofs.Tests.{and_true}
use Rattle.listing.specs.declared.Answer.{Answer}
use Rattle.listing.specs.Answers.{refusal, on}
use Rattle.listing.specs.Told.{not_back_no, missing_no}
use Rattle.listing.specs.Listing.{Listing, rank, count, below, subs, sups}
use Rattle.valid_incidence.specs.declared.incidence.Way.{Way}
use Rattle.valid_incidence.specs.Ways.{down, up, back, entry_test, along_test, list_test}
use Rattle.valid_incidence.specs.Incidence.{element_test, incidences_test, SubBack, LowerAt, IncidentAt}
use Rattle.valid_incidence.proofs.Entries.{lower, upper}
use Rattle.valid_incidence.proofs.IncidenceExact.{LeadsBack, entry_exact, below_is}
use Rattle.valid_incidence.proofs.IncidenceExact.{lower_exact, element_exact}
use Rattle.promises.specs.Named.{FirstAt, FirstIn, Named}
use Rattle.promises.specs.Named.{named_no_subs, named_no_sups, named_sub_not_back, named_sup_not_back}
use Rattle.promises.specs.Named.{named_sub_missing, named_sup_missing}
use Rattle.promises.proofs.Firsts.{Tells, tells_or, tells_on, tells_cond, tells_in, tells_elements}

-- ---- small laws

not_less : {a b : ℕ} → ¬ (a < b) → b ≤ a
not_less n = omega arith

first_map : {P R : ℕ → Type 0} {x : ℕ} {l : List ℕ} → ((y : ℕ) → P y → R y) → FirstIn P x l → FirstIn R x l
first_map g f = record {
  done = f.done;
  rest = f.rest;
  stands = f.stands;
  earlier = λ y m. g y (f.earlier y m);
}

module _ (h : ℕ) (L : Listing) where
  abbrev N : Answer → Type 0
  N = Named h L

  abbrev Tell : Answer → Type 0
  Tell = Tells N

  module _ (w : Way) (r i : ℕ) where
    abbrev Back : ℕ → Type 0
    Back = LeadsBack L.ends L.inc w r i

    entry_tells : (x : ℕ) → (x < w.size → ¬ In i (back L.ends L.inc w x) → N (refusal (not_back_no w.side) r i x 0))
        → (w.size ≤ x → N (refusal (missing_no w.side) r i x 0)) → Tell (entry_test L.ends L.inc w r i x)
    unfolding entry_test
    entry_tells x one miss =
        let l = back L.ends L.inc w x in
        tells_cond N (ltb x w.size) _ _
        (λ e. tells_on N (not (has l i)) _ (λ f. one (ltb-true _ _ e) ((has_no i l).0 (not-true _ f))))
        (λ e z. miss (ltb-false _ _ e))

    -- along a list: what the refusals come to
    along_tells : (list : List ℕ)
        → ((x : ℕ) → FirstIn Back x list → x < w.size → ¬ In i (back L.ends L.inc w x)
        → N (refusal (not_back_no w.side) r i x 0))
        → ((x : ℕ) → FirstIn Back x list → w.size ≤ x → N (refusal (missing_no w.side) r i x 0))
        → Tell (along_test L.ends L.inc w r i list)
    unfolding along_test
    along_tells list one miss =
        tells_in N _ list (λ x f.
        let K = first_map (λ y z. (entry_exact L.ends L.inc w r i y).0 z) f in
        entry_tells x (one x K) (miss x K))

  none_tells : (t : Bool) (list : List ℕ) (a : Answer) → (t ≡ true → list ≡ [] → N a)
      → Tell (on (t && eqb (length list) 0) a)
  none_tells t list a g =
      tells_on N (t && eqb (length list) 0) a
      (λ e. let p = and_true _ _ e in g p.0 (nil_from_length list (eqb-true _ _ p.1)))

  module _ (r i : ℕ) (F : FirstAt L 0 (IncidentAt L) r i) where
    lower_tells : Tell (lower L r i)
    unfolding list_test
    lower_tells =
        tells_or N _ _
        (none_tells (ltb 0 r) (subs L r i) _ (λ a e. named_no_subs r i F (ltb-true 0 r a) e)) (λ _.
        along_tells (down L r) r i (subs L r i)
        (λ x K l n. let p = (below_is L r x).0 l in named_sub_not_back r i x F (kept K) p.0 p.1 n)
        (λ x K l. named_sub_missing r i x F (kept K) (missing x l)))
      where
        kept : {x : ℕ} → FirstIn (λ y. (y < below L r) × In i (sups L (r - 1) y)) x (subs L r i)
            → FirstIn (SubBack L r i) x (subs L r i)
        kept = first_map (λ y k. let p = (below_is L r y).0 k.0 in (p.0, p.1, k.1))

        missing : (x : ℕ) → below L r ≤ x → 0 < r → count L (r - 1) ≤ x
        missing x l p = not_less (λ c. let q = (below_is L r x).1 (p, c) in omega arith)

    upper_tells : LowerAt L r i → Tell (upper L r i)
    unfolding list_test
    upper_tells D =
        tells_or N _ _
        (none_tells (ltb r (rank L)) (sups L r i) _ (λ a e. named_no_sups r i F D (ltb-true r (rank L) a) e)) (λ _.
        along_tells (up L r) r i (sups L r i)
        (λ x K l n. named_sup_not_back r i x F D K l n)
        (λ x K l. named_sup_missing r i x F D K l))

    element_tells : Tell (element_test L r i)
    unfolding element_test
    element_tells =
        tells_or N (lower L r i) (upper L r i) lower_tells (λ z. upper_tells ((lower_exact L r i).0 z))

  -- Test 2, all elements.
  pub incidences_tells : Tell (incidences_test L)
  unfolding incidences_test
  incidences_tells =
      tells_elements N L (element_test L) 0 (length L.counts) (λ r i _ _ k early. element_tells r i (record {
        exists = k;
        from = omega arith;
        earlier = λ q j l m e. (element_exact L q j).0 (early q j l m e);
      }))
