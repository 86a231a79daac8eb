-- What is promised of the four products, each told by the two flags min and max.
--
-- Makes            a product refuses and writes as Produces says
-- Carries          its refusals carry nothing, and what it answers is 0 where it is answered
-- Keeps            what it wrote, where it is answered, is as Kept says: closed where its factors are closed and high
--                  enough; one body where both are one body and high enough for that; made of the pairs, a pair
--                  directly under another exactly if one member is equal and the other directly under; with the ends
--                  added; its lists in their order
-- Swaps            two calls of it whose factors are exchanged are as Exchange says
-- ProductsTaken    any slices are taken
-- ProductsRefuse   which refusal comes exactly when, what it carries, and what is written
-- ProductsKeep     what the products keep, said of the slices that were written, up to the lengths answered
-- ProductsOnce     no second answer fits
use Rattle.std.specs.Prelude.{◌≡◌, Bool, true, false}
use Rattle.listing.specs.declared.Built.{Built}
use Rattle.listing.specs.Answers.{plain}
use Rattle.listing.specs.Told.{told_built}
use Rattle.listing_outputs.specs.Output.{prefix}
use Rattle.product.proofs.make.make.Reads as make
use Rattle.flumedrac.proofs.fd_duopyramid.Reads as duopyramid
use Rattle.flumedrac.proofs.fd_duoprism.Reads as duoprism
use Rattle.flumedrac.proofs.fd_duotegum.Reads as duotegum
use Rattle.flumedrac.proofs.fd_duocomb.Reads as duocomb
use Rattle.promises.specs.Entries.{Takes, Says, SaysOfTwo, OneOutcome, ByPoles, Three, ThreeWritten}
use Rattle.promises.specs.Entries.{lent, right, outputs}
use Rattle.promises.specs.Products.{Produces, Kept, Exchange}

module _ {K A X : Type 0} where
  abbrev pub Carries : (K → A → Built → X → Type 0) → Type 0
  Carries P = Says P (λ a r x. r.answer ≡ plain r.answer.no)

module _ {K A X : Type 0} (min max : Bool)
    (P : K → Three (Three (ThreeWritten A)) → Built → Three (Three (ThreeWritten X)) → Type 0) where
  abbrev pub Makes : Type 0
  Makes = Says P (λ a r x. Produces min max (lent a) (right a) (outputs a) (outputs x) r)

  abbrev pub Keeps : Type 0
  Keeps = Says P (λ a r x. r.answer.no ≡ 0 → Kept min max (lent a) (right a) (prefix (outputs x) r))

  abbrev pub Swaps : Type 0
  Swaps = SaysOfTwo P P (λ a r x c s y. lent c ≡ right a → right c ≡ lent a
      → Exchange min max (lent a) (right a) (outputs a) (outputs c) (prefix (outputs x) r) (prefix (outputs y) s) r s)

pub record ProductsTaken : Type 0 where
  -- the four products, and what they all call
  pub products : Takes duopyramid.Asked × Takes duoprism.Asked × Takes duotegum.Asked × Takes duocomb.Asked
      × Takes make.Asked

pub record ProductsRefuse : Type 0 where
  -- the duopyramid refuses in the order 30 to 36 and then changes no number; else it writes its result, and no more
  pub duopyramid_produces : Makes false false duopyramid.Post
  -- so does the duoprism, which leaves minimal elements out of the pairs and adds one
  pub duoprism_produces : Makes true false duoprism.Post
  -- so does the duotegum, which leaves maximal elements out of the pairs and adds one
  pub duotegum_produces : Makes false true duotegum.Post
  -- so does the duocomb, which does both
  pub duocomb_produces : Makes true true duocomb.Post
  -- the refusals of the duopyramid carry nothing
  pub duopyramid_plain : Carries duopyramid.Post
  -- nor do those of the duoprism, the duotegum and the duocomb
  pub duoprism_plain : Carries duoprism.Post
  pub duotegum_plain : Carries duotegum.Post
  pub duocomb_plain : Carries duocomb.Post

pub record ProductsKeep : Type 0 where
  -- the duopyramid of closed factors is closed, and of bodies one body; it is all pairs, a step in one member being a
  -- step of the pair
  pub duopyramid_keeps : Keeps false false duopyramid.Post
  -- so is the duoprism, of ranks from 1; the added minimal element is under exactly the pairs of two vertices
  pub duoprism_keeps : Keeps true false duoprism.Post
  -- so is the duotegum, of ranks from 1; the added maximal element is over exactly the pairs of two facets
  pub duotegum_keeps : Keeps false true duotegum.Post
  -- so is the duocomb, with both of them: closed of ranks from 2 that together make at least 5, and one body of ranks
  -- from 3
  pub duocomb_keeps : Keeps true true duocomb.Post
  -- exchanging the factors of a duopyramid only swaps the pairs; with as much room it is answered too
  pub duopyramid_swaps : Swaps false false duopyramid.Post
  -- so with the duoprism
  pub duoprism_swaps : Swaps true false duoprism.Post
  -- so with the duotegum
  pub duotegum_swaps : Swaps false true duotegum.Post
  -- so with the duocomb
  pub duocomb_swaps : Swaps true true duocomb.Post

pub record ProductsOnce : Type 0 where
  pub one_duopyramid : OneOutcome duopyramid.Post outputs
  pub one_duoprism : OneOutcome duoprism.Post outputs
  pub one_duotegum : OneOutcome duotegum.Post outputs
  pub one_duocomb : OneOutcome duocomb.Post outputs
  -- of what they all call, whichever product it is
  pub one_make : (min max : Bool) → OneOutcome (ByPoles min max told_built make.Post) outputs
