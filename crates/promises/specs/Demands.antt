-- The three demands, and that no second answer fits: each a short record that collects what is promised of each family
-- of entries (OfTests, OfProducts, OfTexts, OfFlags, OfBodies, OfDuals, OfVolumes, OfBoundary). A promise speaks of an
-- entry through a `Post`, the reading of the contract of its function for C, and so of any slices that are lent; what
-- OfBoundary says carries it over to the entry. An answer that is an enum is said by the number or values of its case;
-- the events are said both ways.
--
-- AnyTaken        every entry takes any slices and numbers: no contract asks anything of its caller
-- RefusalsNamed   a refusal is true of what its fields name, and names the first such thing in order
-- DemandOne       any slices are answered: which refusal comes exactly when, and what is written
-- DemandTwo       the tests accept exactly what the book asks; what is answered by counts, readings of texts, changes,
--                 searches, events, the test for one body, duals and volumes; a C function and its entry answer
--                 alike
-- DemandThree     what the four products and duals keep
-- OneForEach      no second answer fits the contract of any entry
use Rattle.std.specs.Prelude.{◌≡◌, ◌↔◌}
use Rattle.listing.specs.Listing.{rank}
use Rattle.valid_diamond.specs.Dyadic.{DiamondAt}
use Rattle.valid.specs.Ascent.{Ascends}
use Rattle.flumedrac.proofs.fd_is_valid.Reads as is_valid
use Rattle.flumedrac.proofs.fd_closed.Reads as closed
use Rattle.promises.specs.Entries.{SaysOfTwo, lent}
use Rattle.promises.specs.OfTests.{TestsTaken, TestsRefuse, TestsNamed, TestsAnswer, TestsOnce}
use Rattle.promises.specs.OfProducts.{ProductsTaken, ProductsRefuse, ProductsKeep, ProductsOnce}
use Rattle.promises.specs.OfTexts.{TextsTaken, TextsRefuse, TextsAnswer, TextsOnce}
use Rattle.promises.specs.OfFlags.{FlagsTaken, FlagsRefuse, FlagsNamed, FlagsAnswer, FlagsOnce}
use Rattle.promises.specs.OfBodies.{BodiesTaken, BodiesRefuse, BodiesNamed, BodiesAnswer, BodiesOnce}
use Rattle.promises.specs.OfDuals.{DualsTaken, DualsRefuse, DualsAnswer, DualsKeep, DualsOnce}
use Rattle.promises.specs.OfVolumes.{VolumesTaken, VolumesRefuse, VolumesNamed, VolumesAnswer, VolumesOnce}
use Rattle.promises.specs.OfBoundary.{BoundaryTaken, Boundary, BoundaryBack, BoundaryOnce}

pub record AnyTaken : Type 0 where
  pub tests : TestsTaken
  pub products : ProductsTaken
  pub texts : TextsTaken
  pub flags : FlagsTaken
  pub bodies : BodiesTaken
  pub duals : DualsTaken
  pub volumes : VolumesTaken
  pub boundary : BoundaryTaken

pub record RefusalsNamed : Type 0 where
  pub tests : TestsNamed
  pub flags : FlagsNamed
  pub bodies : BodiesNamed
  pub volumes : VolumesNamed

pub record DemandOne : Type 0 where
  pub any_taken : AnyTaken
  pub tests_refuse : TestsRefuse
  pub products_refuse : ProductsRefuse
  pub texts_refuse : TextsRefuse
  pub flags_refuse : FlagsRefuse
  pub bodies_refuse : BodiesRefuse
  pub duals_refuse : DualsRefuse
  pub volumes_refuse : VolumesRefuse
  pub refusals_named : RefusalsNamed

pub record DemandTwo : Type 0 where
  pub tests_answer : TestsAnswer
  pub texts_answer : TextsAnswer
  pub flags_answer : FlagsAnswer
  pub bodies_answer : BodiesAnswer
  pub duals_answer : DualsAnswer
  pub volumes_answer : VolumesAnswer
  pub boundary_passes : Boundary
  pub boundary_back : BoundaryBack

pub record DemandThree : Type 0 where
  -- closed is is_valid, with lists that ascend and the diamond at the maximal element
  pub closed_is_valid_and : SaysOfTwo closed.Post is_valid.Post (λ a r x c s y. lent c ≡ lent a
      → r.no ≡ 0 ↔ ((s.no ≡ 0) × Ascends (lent a) × DiamondAt (lent a) (rank (lent a))))
  pub products_keep : ProductsKeep
  pub duals_keep : DualsKeep

pub record OneForEach : Type 0 where
  pub tests : TestsOnce
  pub products : ProductsOnce
  pub texts : TextsOnce
  pub flags : FlagsOnce
  pub bodies : BodiesOnce
  pub duals : DualsOnce
  pub volumes : VolumesOnce
  pub boundary : BoundaryOnce
