-- The subs of an element: they are where the code looks, they can be walked, and what that meets is the walk under the
-- element. Then what the sections under it answer.
-- Assumes nothing.
use mathlib.Core.Path.{◌≡◌, refl, sym, ap, ◌∙◌}
use mathlib.Core.Bool.{Bool, true}
use mathlib.Core.List.{List, [], ◌∷◌}
use Prim.Native.Nat.{ℕ, ◌+◌, ◌-◌, ◌*◌, ◌≤◌, ◌<◌}
use native.Mathlib.Omega.{arith}
use lib.ListN.{length, get_or}
use Rattle.listing.specs.declared.Answer.{Answer}
use Rattle.listing.specs.declared.Refusal.{Refusal}
use Rattle.listing.specs.Answers.{fine}
use Rattle.listing.specs.Listing.{Listing, limits, count, before, entries}
use Rattle.listing.specs.Shape.{Shaped}
use Rattle.listing.specs.Told.{answer_of}
use Rattle.listing.proofs.Listing.{before_step}
use Rattle.listing.proofs.Places.{side_at, side_fits, few_in_rank}
use Rattle.listing.proofs.Told.{refuses}
use Rattle.valid_incidence.specs.Incidence.{Incident}
use Rattle.valid_diamond.specs.Dyadic.{subs_of_all, third, lone, sections_test}
use Rattle.valid_diamond.specs.Tally.{Tallied, lone_in, SubsUnder}
use Rattle.valid_diamond.proofs.OneTwice.{pair_passes}
use Rattle.valid_diamond.proofs.Walks.{walk_same, walkable, lone_same, sections_stop, sections_go}

-- ---- the subs: r is the element's rank, and so is q; n is how many elements the rank below has

module _ (L : Listing) (S : Shaped limits L) (r q i b n : ℕ) (rank_is : q ≡ r) (below : b ≡ before L.counts (r - 1))
    (low : 2 ≤ r) (count_is : n ≡ get_or L.counts (q - 1) 0) (in_rank : i < count L r) where
  here : b + n ≡ before L.counts r
  here =
      let e = ap (λ (k : ℕ). get_or L.counts (k - 1) 0) rank_is in
      omega (arith, count_is ∙ e, before_step L.counts r (omega arith))

  pub subs_there : 2 * (b + n + i) + 0 < length L.ends
  subs_there = rw here (side_fits L S r i 0 in_rank (omega arith))

  pub subs_under : Incident L → (list : List ℕ)
      → list ≡ entries L.ends L.inc (2 * (b + n + i) + 0) → SubsUnder L r i b limits.elements list
  subs_under I list e =
      let its = e ∙ side_at L _ r i 0 here in record {
        walks = walkable L S I r i in_rank below its;
        met = walk_same L.ends L.inc _ below its;
        few = few_in_rank L S (r - 2);
      }

-- ---- the answer of its sections

module _ (L : Listing) (r i b n : ℕ) (list : List ℕ) (U : SubsUnder L r i b n list) where
  -- one index is met twice and nothing else
  pub pair_answer : (twice : Bool) → twice ≡ true
      → (twice ≡ true → (x : ℕ) × (subs_of_all L.ends L.inc b list ≡ x ∷ x ∷ [])) → fine ≡ sections_test L r i
  pair_answer twice e p = sym (pair_passes (p e).0 L r i (sym U.met ∙ (p e).1))

  -- an index is met a third time
  pub third_answer : (d : Refusal) (tally : List ℕ)
      → Tallied n tally (third r i) [] (subs_of_all L.ends L.inc b list) (answer_of d)
      → answer_of d ≡ sections_test L r i
  third_answer d tally T =
      let w = rw U.met at T in
      sections_stop L r i w.answer (refuses d)

  -- none is: then the answer is that of the indices met once
  pub lone_answer : (tally : List ℕ) → Tallied n tally (third r i) [] (subs_of_all L.ends L.inc b list) fine
      → (q : ℕ) → q ≡ r → (a : Answer) → a ≡ lone_in (lone r i) tally (get_or L.counts (q - 2) 0)
      → a ≡ sections_test L r i
  lone_answer tally T q rank_is a k =
      let w = rw U.met at T in
      let f = lone r i in
      let e = ap (λ (p : ℕ). lone_in f tally (get_or L.counts (p - 2) 0)) rank_is in
      sections_go L r i w.answer refl (k ∙ e ∙ lone_same f tally _ _ (w.tally refl) U.few)
