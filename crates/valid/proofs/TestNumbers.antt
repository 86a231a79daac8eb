-- Which numbers the parts of the tests can answer.
-- Assumes nothing.
use mathlib.Core.Bool.{not, ◌&&◌}
use mathlib.Core.List.{List, [], ◌∷◌}
use Prim.Native.Nat.{ℕ, ◌-◌, ◌≤◌}
use lib.Dec.{leb, ltb, eqb}
use lib.ListN.{length}
use native.Mathlib.Omega.{arith}
use Rattle.order.specs.Lists.{has, occurs}
use Rattle.listing.specs.declared.Answer.{Answer}
use Rattle.listing.specs.declared.Side.{Side}
use Rattle.listing.specs.declared.Side.TheVariants.{Subs, Sups}
use Rattle.listing.specs.Answers.{refusal, fine, on}
use Rattle.listing.specs.Told.{bare_no, not_back_no, missing_no}
use Rattle.listing.specs.Listing.{Listing, rank, count, side, subs, sups}
use Rattle.listing.proofs.Among.{Among, among_fine, among_or, among_cond, among_is, among_on, among_in, among_of}
use Rattle.valid_incidence.specs.declared.incidence.Way.{Way}
use Rattle.valid_incidence.specs.Ways.{down, up, back, entry_test, along_test, list_test}
use Rattle.valid_incidence.specs.Incidence.{element_test, incidences_test}
use Rattle.valid_diamond.specs.Dyadic.{walk, third_test, seen_after, lone_test, sections_test, dyadic_test}
use Rattle.valid.specs.Bounds.{bounded_test}
use Rattle.valid.specs.Ascent.{climbs, side_ascent, element_ascent, ascent_test}

module _ {low high : ℕ} (f : ℕ → Answer) (each : (k : ℕ) → Among low high (f k)) where
  among_third : (seen l : List ℕ) → Among low high (third_test f seen l)
  unfolding third_test
  among_third seen [] = among_fine
  among_third seen (x ∷ l) =
      among_or (among_cond (leb 2 (occurs x seen)) (f x) fine (each x) among_fine) (among_third (x ∷ seen) l)

-- Test 1 refuses with 10.
pub bounded_numbers : (L : Listing) → Among 10 10 (bounded_test L)
unfolding bounded_test
bounded_numbers L =
    among_on 10 (omega arith) (omega arith) (not (eqb (count L 0) 1 && eqb (count L (rank L)) 1))
    (count L 0) (count L (rank L)) 0 0

-- Test 2 refuses with a number from 11 to 16.
-- the refusals of a side do
record Numbered (s : Side) : Type 0 where
  bare : (11 ≤ bare_no s) × (bare_no s ≤ 16)
  missing : (11 ≤ missing_no s) × (missing_no s ≤ 16)
  not_back : (11 ≤ not_back_no s) × (not_back_no s ≤ 16)

numbered : (s : Side) → Numbered s
numbered Subs = record { bare = omega arith; missing = omega arith; not_back = omega arith }
numbered Sups = record { bare = omega arith; missing = omega arith; not_back = omega arith }

list_numbers : (ends inc : List ℕ) (w : Way) (r i : ℕ) (l : List ℕ) → Among 11 16 (list_test ends inc w r i l)
unfolding list_test along_test entry_test
list_numbers ends inc w r i l =
    let n = numbered w.side in
    let one_way = refusal (not_back_no w.side) r i in
    let gone = refusal (missing_no w.side) r i in
    among_or (among_on (bare_no w.side) n.bare.0 n.bare.1 (w.asked && eqb (length l) 0) r i 0 0)
    (among_in _ (λ x. among_cond (ltb x w.size) (on (not (has (back ends inc w x) i)) (one_way x 0)) (gone x 0)
    (among_on (not_back_no w.side) n.not_back.0 n.not_back.1 (not (has (back ends inc w x) i)) r i x 0)
    (among_is (missing_no w.side) n.missing.0 n.missing.1 r i x 0)) l)

element_numbers : (L : Listing) (r i : ℕ) → Among 11 16 (element_test L r i)
unfolding element_test
element_numbers L r i =
    among_or (list_numbers _ _ (down L r) r i (subs L r i)) (list_numbers _ _ (up L r) r i (sups L r i))

pub incidence_numbers : (L : Listing) → Among 11 16 (incidences_test L)
unfolding incidences_test
incidence_numbers L = among_of _ (λ r. among_of _ (element_numbers L r) _ _) _ _

-- The ascent test refuses with 19.
side_numbers : (L : Listing) (r i s : ℕ) → Among 19 19 (side_ascent L r i s)
side_numbers L r i s = among_on 19 (omega arith) (omega arith) (not (climbs 0 (side L s r i))) r i s 0

pub ascent_numbers : (L : Listing) → Among 19 19 (ascent_test L)
unfolding ascent_test element_ascent
ascent_numbers L =
    among_of _ (λ r. among_of _ (λ i. among_or (side_numbers L r i 0) (side_numbers L r i 1)) _ _) _ _

-- Test 3 refuses with 17 or 18.
section_numbers : (L : Listing) (r i : ℕ) → Among 17 18 (sections_test L r i)
unfolding sections_test lone_test
section_numbers L r i =
    let met = seen_after [] (walk L r i) in
    among_or (among_third _ (λ x. among_is 17 (omega arith) (omega arith) _ _ _ _) _ _)
    (among_of _ (λ x. among_on 18 (omega arith) (omega arith) (eqb (occurs x met) 1) (r - 2) x r i) _ _)

pub dyadic_numbers : (L : Listing) (h : ℕ) → Among 17 18 (dyadic_test L h)
unfolding dyadic_test
dyadic_numbers L h = among_of _ (λ r. among_of _ (section_numbers L r) _ _) _ _
