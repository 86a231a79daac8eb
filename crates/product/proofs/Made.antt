-- The room that a listing takes by its sizes, and the nullitope as it is written out.
-- Assumes nothing.
use mathlib.Core.Path.{◌≡◌, refl, sym, ap, ◌∙◌}
use mathlib.Core.List.{List, [], ◌∷◌}
use Prim.Native.Nat.{ℕ, ◌*◌, ◌≤◌, ◌<◌}
use native.Mathlib.Omega.{arith}
use borrow.Author.Tests.{ltb-false}
use lib.ListN.{length, set}
use Rattle.std.proofs.Common.{Result, Ok}
use Rattle.std.specs.Result.{IsErrAnd}
use Rattle.order.specs.Lists.{over}
use Rattle.order.specs.Sums.{sum}
use Rattle.listing.specs.declared.Answer.{Answer}
use Rattle.listing.specs.declared.Lengths.{Lengths}
use Rattle.listing.specs.declared.Refusal.{Refusal}
use Rattle.listing.specs.Refusals.{product_ranks, product_elements, product_incidences}
use Rattle.listing.specs.Answers.{plain, fine}
use Rattle.listing.specs.Listing.{Listing, listing, width, limits, before}
use Rattle.listing.specs.Cells.{nullitope}
use Rattle.listing.specs.Told.{answer_of, told_built}
use Rattle.listing.proofs.Answers.{no_of, on_or_no}
use Rattle.listing.proofs.Told.{told_err}
use Rattle.listing_outputs.specs.declared.outputs.Room.{Room}
use Rattle.listing_outputs.specs.Output.{Made}
use Rattle.listing_outputs.proofs.Output.{made_err, made_ok}
use Rattle.product_sizes.specs.declared.sizes.Totals.{Totals}
use Rattle.product_sizes.specs.Sizing.{Measures, need_of_totals, totals_test, size_test}
use Rattle.product_sizes.proofs.Tested.{listing_tested, Passed, sizes_passed}

-- sizes that pass their test are small
module _ (s : Totals) (o : Room) where
  few_totals : fine ≡ totals_test limits s o
      → (s.ranks ≤ limits.ranks) × (s.elements ≤ limits.elements) × (s.incidences ≤ limits.incidences)
  unfolding totals_test
  few_totals e =
      let p1 = on_or_no _ (plain product_ranks) _ (λ w. omega arith) (ap (λ (a : Answer). a.no) (sym e)) in
      let p2 = on_or_no _ (plain product_elements) _ (λ w. omega arith) p1.1 in
      let p3 = on_or_no _ (plain product_incidences) _ (λ w. omega arith) p2.1 in
      (ltb-false _ _ p1.0, ltb-false _ _ p2.0, ltb-false _ _ p3.0)

  pub few_elements : fine ≡ totals_test limits s o → s.elements ≤ limits.elements
  few_elements e = (few_totals e).1

  pub need_small : (n : Room) → n ≡ need_of_totals s → fine ≡ totals_test limits s o
      → (n.counts < width) × (n.ends < width) × (n.inc < width)
  need_small n d e =
      let f = few_totals e in
      rw d (omega (arith, f.0), omega (arith, f.1), omega (arith, f.2))

pub ruleset little = (told_err, few_elements)

-- ---- a listing R of sizes s, in slices that held c, e and i

module _ {R : Listing} (s : Totals) (m : Measures R s) (c e i : List ℕ) where
  abbrev test : Answer
  test = totals_test limits s (record { counts = length c; ends = length e; inc = length i })

  abbrev decided : Answer
  decided = size_test limits R (length c) (length e) (length i)

  tested : test ≡ decided
  tested = listing_tested limits R s _ m

  pub sizes_halt : (r : Result Lengths Refusal) (d : Refusal) → answer_of d ≡ test → IsErrAnd r (λ x. x ≡ d)
      → Made decided R (listing c e i) (listing c e i) (told_built r)
  sizes_halt r d f k = made_err r d k (f ∙ tested) (listing c e i)

  module _ (f : fine ≡ test) where
    pub sizes_pass : Passed limits R (length c) (length e) (length i)
    sizes_pass = sizes_passed limits R _ _ _ (no_of (f ∙ tested) refl)

    pub sizes_done : (new : Listing) (n : Lengths)
        → (n.counts ≡ s.ranks) × (n.ends ≡ 2 * s.elements) × (n.inc ≡ s.incidences)
        → new.counts ≡ over R.counts c → new.ends ≡ over R.ends e → new.inc ≡ over R.inc i
        → Made decided R (listing c e i) new (told_built (Ok n))
    sizes_done new n l =
        made_ok (f ∙ tested) R (listing c e i) new n (l.0 ∙ sym m.ranks) (l.1 ∙ sym m.ends) (l.2 ∙ sym m.incidences)

-- ---- the nullitope

pub nullitope_measures : Measures nullitope (record { ranks = 1; elements = 1; incidences = 0 })
unfolding before sum
nullitope_measures = record { ranks = refl; elements = refl; ends = refl; incidences = refl }

one_set : (l : List ℕ) (x : ℕ) → 1 ≤ length l → set l 0 x ≡ over (x ∷ []) l
one_set [] x h = absurd (omega arith)
one_set (y ∷ l) x h = refl

two_set : (l : List ℕ) (x y : ℕ) → 2 ≤ length l → set (set l 0 x) 1 y ≡ over (x ∷ y ∷ []) l
two_set [] x y h = absurd (omega arith)
two_set (u ∷ []) x y h = absurd (omega arith)
two_set (u ∷ v ∷ l) x y h = refl

-- written in slices that held c, e and i
module _ (c e i : List ℕ) where
  abbrev one : Totals
  one = record { ranks = 1; elements = 1; incidences = 0 }

  pub null_halt : (r : Result Lengths Refusal) (d : Refusal) → answer_of d ≡ test one nullitope_measures c e i
      → IsErrAnd r (λ x. x ≡ d)
      → Made (decided one nullitope_measures c e i) nullitope (listing c e i) (listing c e i) (told_built r)
  null_halt = sizes_halt one nullitope_measures c e i

  module _ (f : fine ≡ test one nullitope_measures c e i) where
    pub null_counts : 1 ≤ length c
    null_counts = (sizes_pass one nullitope_measures c e i f).room_counts

    pub null_ends : 2 ≤ length e
    null_ends = (sizes_pass one nullitope_measures c e i f).room_ends

    pub null_done : (n : Lengths) → (n.counts ≡ 1) × (n.ends ≡ 2) × (n.inc ≡ 0)
        → Made (decided one nullitope_measures c e i) nullitope (listing c e i)
        (listing (set c 0 1) (set (set e 0 0) 1 0) i) (told_built (Ok n))
    null_done n l =
        sizes_done one nullitope_measures c e i f _ n l (one_set c 1 null_counts) (two_set e 0 0 null_ends) refl

pub ruleset null_room = (null_counts, null_ends)
