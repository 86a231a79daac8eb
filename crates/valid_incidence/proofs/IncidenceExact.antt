-- Test 2 is exact: it answers 0 exactly if the listing is Incident. An entry, then a list along its way, which serves
-- subs and sups alike, then an element, then the whole.
-- Assumes nothing.
use mathlib.Core.Path.{◌≡◌, refl, sym, ap, ◌∙◌}
use mathlib.Core.Logic.{◌↔◌}
use mathlib.Core.Bool.{Bool, true, false, ◌&&◌}
use mathlib.Core.List.{List}
use Prim.Native.Nat.{ℕ, zero, suc, ◌-◌, ◌<◌}
use native.Mathlib.Omega.{arith}
use borrow.Author.Tests.{eqb-false, ne_eqb, lt-ltb, ltb-true, ltb-false}
use lib.Dec.{ltb, eqb}
use lib.ListN.{length}
use Rattle.order.specs.Lists.{In, has}
use Rattle.order.proofs.Lists.{has_yes}
use Rattle.order.proofs.Positions.{some_in, in_some}
use Rattle.listing.specs.declared.Answer.{Answer}
use Rattle.listing.specs.Answers.{refusal, on}
use Rattle.listing.specs.Listing.{Listing, rank, count, below, subs, sups}
use Rattle.listing.proofs.Answers.{or_no, no_or, on_no, on_off, in_each, in_all}
use Rattle.listing.specs.Told.{bare_no}
use Rattle.listing.proofs.Told.{bare_some, not_back_some, missing_some}
use Rattle.listing.proofs.Elements.{elements_exact}
use Rattle.valid_incidence.specs.declared.incidence.Way.{Way}
use Rattle.valid_incidence.specs.Ways.{down, up, back, entry_test, along_test, list_test}
use Rattle.valid_incidence.specs.Incidence.{element_test, incidences_test, LowerAt, UpperAt, IncidentAt, Incident}
use Rattle.valid_incidence.proofs.Entries.{entry_fine, entry_oneway, entry_missing, lower, upper}

abbrev number : Answer → ℕ
number a = a.no

-- a list holds something where asked
some_exact : (t : Bool) (l : List ℕ) (a : Answer) → (a.no ≡ 0 → ⊥)
    → (on (t && eqb (length l) 0) a).no ≡ 0 ↔ (t ≡ true → (x : ℕ) × In x l)
some_exact t l a z = (there, λ f. on_off (t && eqb (length l) 0) a (back_again t f))
  where
    there : (on (t && eqb (length l) 0) a).no ≡ 0 → t ≡ true → (x : ℕ) × In x l
    there e h =
        let q : eqb (length l) 0 ≡ false = rw h at (on_no (t && eqb (length l) 0) a z e) in
        some_in l (eqb-false (length l) 0 q)

    back_again : (t : Bool) → (t ≡ true → (x : ℕ) × In x l) → t && eqb (length l) 0 ≡ false
    back_again true f = let p = f refl in ne_eqb (length l) 0 (in_some l p.0 p.1)
    back_again false f = refl

module _ (ends inc : List ℕ) (w : Way) (r i : ℕ) where
  -- ---- an entry

  -- what it must be: an element of the way that leads back
  abbrev pub LeadsBack : ℕ → Type 0
  LeadsBack x = (x < w.size) × In i (back ends inc w x)

  module _ (x : ℕ) where
    abbrev entry : Answer
    entry = entry_test ends inc w r i x

    pub entry_exact : entry.no ≡ 0 ↔ LeadsBack x
    entry_exact = (there (ltb x w.size) refl (has (back ends inc w x) i) refl, back_again)
      where
        there : (b : Bool) → ltb x w.size ≡ b → (c : Bool) → has (back ends inc w x) i ≡ c → entry.no ≡ 0
            → LeadsBack x
        there true p true q e = (ltb-true x w.size p, (has_yes i (back ends inc w x)).0 q)
        there true p false q e =
            let o = entry_oneway ends inc w r i x (ltb-true x w.size p) q in
            absurd (omega (arith, not_back_some w.side, ap number (sym o) ∙ e))
        there false p c q e =
            let o = entry_missing ends inc w r i x (ltb-false x w.size p) in
            absurd (omega (arith, missing_some w.side, ap number (sym o) ∙ e))

        back_again : LeadsBack x → entry.no ≡ 0
        back_again p = ap number (entry_fine ends inc w r i x p.0 ((has_yes i (back ends inc w x)).1 p.1))

  -- ---- a list along its way

  -- what it must be: it holds something where asked, and its entries are there and lead back
  record Along (list : List ℕ) : Type 0 where
    some : w.asked ≡ true → (x : ℕ) × In x list
    each : (x : ℕ) → In x list → LeadsBack x

  list_exact : (list : List ℕ) → (list_test ends inc w r i list).no ≡ 0 ↔ Along list
  unfolding list_test along_test
  list_exact list =
      let none = some_exact w.asked list (refusal (bare_no w.side) r i 0 0) (λ z. omega (arith, bare_some w.side)) in (
        λ e.
            let p = or_no _ _ e in
            record { some = none.0 p.0; each = λ x m. (entry_exact x).0 (in_each _ list p.1 x m) },
        λ a. no_or _ _ (none.1 a.some) (in_all _ list (λ x m. (entry_exact x).1 (a.each x m))),
      )

-- ---- an element, and the whole

module _ (L : Listing) where
  -- the elements of the rank below
  pub below_is : (r x : ℕ) → x < below L r ↔ ((0 < r) × (x < count L (r - 1)))
  below_is zero x = (λ h. absurd (omega arith), λ p. absurd (omega arith))
  below_is (suc r) x =
      let e : suc r - 1 ≡ r = omega arith in
      (λ h. (omega arith, rw e h), λ p. rw e at p.1)

  module _ (r i : ℕ) where
    pub lower_exact : (lower L r i).no ≡ 0 ↔ LowerAt L r i
    lower_exact =
        let e = list_exact L.ends L.inc (down L r) r i (subs L r i) in (
          λ z. record {
            some = λ k. (e.0 z).some (lt-ltb 0 r k);
            each = λ x m.
                let b = (e.0 z).each x m in
                let p = (below_is r x).0 b.0 in
                (p.0, p.1, b.1);
          },
          λ a. e.1 (record {
            some = λ t. a.some (ltb-true 0 r t);
            each = λ x m. let b = a.each x m in ((below_is r x).1 (b.0, b.1), b.2);
          }),
        )

    pub upper_exact : (upper L r i).no ≡ 0 ↔ UpperAt L r i
    upper_exact =
        let e = list_exact L.ends L.inc (up L r) r i (sups L r i) in (
          λ z. record { some = λ k. (e.0 z).some (lt-ltb r (rank L) k); each = (e.0 z).each },
          λ a. e.1 (record { some = λ t. a.some (ltb-true r (rank L) t); each = a.each }),
        )

    pub element_exact : (element_test L r i).no ≡ 0 ↔ IncidentAt L r i
    unfolding element_test
    element_exact = (
      λ e.
          let p = or_no _ _ e in
          record { lower = lower_exact.0 p.0; upper = upper_exact.0 p.1 },
      λ a. no_or _ _ (lower_exact.1 a.lower) (upper_exact.1 a.upper),
    )

  -- Test 2 answers 0 exactly if the listing is Incident.
  pub incidences_exact : (incidences_test L).no ≡ 0 ↔ Incident L
  unfolding incidences_test Incident
  incidences_exact = elements_exact L (element_test L) (IncidentAt L) (λ r i h. element_exact r i)
