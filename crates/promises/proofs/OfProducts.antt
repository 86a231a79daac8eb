-- What is promised of the four products, of whatever their contracts admit.
-- Assumes nothing.
use mathlib.Core.Path.{◌≡◌}
use mathlib.Core.Bool.{Bool, true, false, not, ◌||◌}
use Prim.Native.Nat.{ℕ}
use lib.Dec.{ltb, eqb}
use lib.ListN.{length}
use Rattle.std.proofs.Common.{Result}
use Rattle.listing.specs.declared.Built.{Built}
use Rattle.listing.specs.declared.Lengths.{Lengths}
use Rattle.listing.specs.declared.Refusal.{Refusal}
use Rattle.listing.specs.declared.Refusal.TheVariants.{LeftInvalid, RightInvalid, CombOfPoint, ProductRanks}
use Rattle.listing.specs.declared.Refusal.TheVariants.{ProductElements, ProductIncidences}
use Rattle.listing.specs.Listing.{Listing, Limits, limits}
use Rattle.listing.specs.Shape.{elements}
use Rattle.listing.specs.Told.{told_built}
use Rattle.listing_outputs.specs.Output.{short_test}
use Rattle.listing.proofs.Clear.{Plain, plain_on, plain_or}
use Rattle.listing_outputs.proofs.Output.{made_answer, made_once}
use Rattle.valid.specs.Tests as tests
use Rattle.product_closure.specs.Result.{comb_case, result_of}
use Rattle.product_sizes.specs.Sizing.{size_test}
use Rattle.product_factors.specs.Factors.{factors_test}
use Rattle.product.specs.Outcome.{rest_test, product_test, Outcome}
use Rattle.promises.specs.OfProducts.{ProductsTaken, ProductsRefuse, ProductsKeep, ProductsOnce}
use Rattle.promises.proofs.Alike.{any}
use Rattle.promises.proofs.Refused.{Refused, plain_clear, or_refused, on_refused, room_refused, built_so}
use Rattle.promises.proofs.Produced.{produces, outcome_kept, outcomes_swapped}

pub products_taken : ProductsTaken
products_taken = record { products = (any, any, any, any, any) }

-- ---- refusals carry nothing

size_plain : (m : Limits) (R : Listing) (c e i : ℕ) → Plain (size_test m R c e i)
unfolding size_test short_test
size_plain m R c e i =
    plain_or _ _ (plain_on (ltb m.ranks (length R.counts)) 33)
    (plain_or _ _ (plain_on (ltb m.elements (elements R)) 34)
    (plain_or _ _ (plain_on (ltb m.incidences (length R.inc)) 35)
    (plain_on (ltb c (length R.counts) || (ltb e (length R.ends) || ltb i (length R.inc))) 36)))

product_plain : (m : Limits) (min max : Bool) (A B : Listing) (c e i : ℕ) → Plain (product_test m min max A B c e i)
unfolding product_test factors_test rest_test
product_plain m min max A B c e i =
    plain_or _ _
    (plain_or _ _ (plain_on (not (eqb (tests.is_valid m A).no 0)) 30)
    (plain_on (not (eqb (tests.is_valid m B).no 0)) 31))
    (plain_or _ _ (plain_on (comb_case min max A B) 32) (size_plain m (result_of min max A B) c e i))

outcome_plain : (min max : Bool) {A B old new : Listing} {r : Built} → Outcome limits min max A B old new r
    → Plain r.answer
outcome_plain min max {A} {B} {old} o =
    rw (made_answer o.made)
    (product_plain limits min max A B (length old.counts) (length old.ends) (length old.inc))

pub products_refuse : ProductsRefuse
products_refuse = record {
  duopyramid_produces = λ k a r x. produces false false;
  duoprism_produces = λ k a r x. produces true false;
  duotegum_produces = λ k a r x. produces false true;
  duocomb_produces = λ k a r x. produces true true;
  duopyramid_plain = λ k a r x. outcome_plain false false;
  duoprism_plain = λ k a r x. outcome_plain true false;
  duotegum_plain = λ k a r x. outcome_plain false true;
  duocomb_plain = λ k a r x. outcome_plain true true;
}

pub products_keep : ProductsKeep
products_keep = record {
  duopyramid_keeps = λ k a r x. outcome_kept false false;
  duoprism_keeps = λ k a r x. outcome_kept true false;
  duotegum_keeps = λ k a r x. outcome_kept false true;
  duocomb_keeps = λ k a r x. outcome_kept true true;
  duopyramid_swaps = λ k l a c r s x y. outcomes_swapped false false;
  duoprism_swaps = λ k l a c r s x y. outcomes_swapped true false;
  duotegum_swaps = λ k l a c r s x y. outcomes_swapped false true;
  duocomb_swaps = λ k l a c r s x y. outcomes_swapped true true;
}

-- ---- a result that is told so

product_refused : (min max : Bool) (A B : Listing) (c e i : ℕ) → Refused (product_test limits min max A B c e i)
unfolding product_test factors_test rest_test size_test
product_refused min max A B c e i =
    or_refused _ _ (or_refused _ _ (on_refused _ LeftInvalid) (on_refused _ RightInvalid))
    (or_refused _ _ (on_refused _ CombOfPoint) (or_refused _ _ (on_refused _ ProductRanks)
    (or_refused _ _ (on_refused _ ProductElements) (or_refused _ _ (on_refused _ ProductIncidences)
    (room_refused (result_of min max A B) c e i)))))

pub product_so : (min max : Bool) {A B old new : Listing} {r : Built} → Outcome limits min max A B old new r
    → (d : Result Lengths Refusal) × Outcome limits min max A B old new (told_built d) × (r ≡ told_built d)
product_so min max {A} {B} o =
    let d = built_so (plain_clear (product_plain limits min max A B _ _ _)) (product_refused min max A B _ _ _)
    o.made in
    (d.0, record { made = d.1 }, d.2)

-- ---- no second answer

-- an answer and three output slices
pub same_outcome : (min max : Bool) {A B old new new' : Listing} {r s : Built} → Outcome limits min max A B old new r
    → Outcome limits min max A B old new' s → (r ≡ s) × (new ≡ new')
same_outcome min max p q = made_once p.made q.made

pub products_once : ProductsOnce
products_once = record {
  one_duopyramid = λ k a b c x y. same_outcome false false;
  one_duoprism = λ k a b c x y. same_outcome true false;
  one_duotegum = λ k a b c x y. same_outcome false true;
  one_duocomb = λ k a b c x y. same_outcome true true;
  one_make = λ min max k a b c x y p q.
      same_outcome min max (rw (← p.3) at p.2) (rw (← q.3) at q.2);
}
