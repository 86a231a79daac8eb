-- The three demands, and that no second answer fits.
--
-- Demand 1. Every entry takes any slices and comes to an end: no contract asks anything of its caller, and each is met
-- in the end. Which refusal comes exactly when, and what is written.
-- Demand 2, the part that is proved: the tests accept exactly what the book asks; what the counts, a reading, a change,
-- a search, an orientation, the events, the test for one body, a dual and a volume are; and a C function and its entry
-- answer alike.
-- That the answers equal those of the Rust is shown by running both (docs/COMPARISON.md).
-- Demand 3. What the four products keep, and duals, each said of the slices that the entry wrote, up to the lengths
-- answered.
-- Assumes nothing.
use Rattle.listing.specs.Listing.{limits}
use Rattle.valid.proofs.ClosedExact as exact
use Rattle.promises.specs.Entries.{lent}
use Rattle.promises.specs.Demands.{DemandOne, DemandTwo, DemandThree, OneForEach}
use Rattle.promises.proofs.OfTests.{tests_taken, tests_refuse, tests_named, tests_answer, tests_once}
use Rattle.promises.proofs.OfProducts.{products_taken, products_refuse, products_keep, products_once}
use Rattle.promises.proofs.OfTexts.{texts_taken, texts_refuse, texts_answer, texts_once}
use Rattle.promises.proofs.OfFlags.{flags_taken, flags_refuse, flags_named, flags_answer, flags_once}
use Rattle.promises.proofs.OfBodies.{bodies_taken, bodies_refuse, bodies_named, bodies_answer, bodies_once}
use Rattle.promises.proofs.OfDuals.{duals_taken, duals_refuse, duals_answer, duals_keep, duals_once}
use Rattle.promises.proofs.OfVolumes.{volumes_taken, volumes_refuse, volumes_named, volumes_answer, volumes_once}
use Rattle.promises.proofs.OfBoundary.{boundary_taken, boundary, boundary_back, boundary_once}

pub demand_one : DemandOne
demand_one = record {
  any_taken = record {
    tests = tests_taken;
    products = products_taken;
    texts = texts_taken;
    flags = flags_taken;
    bodies = bodies_taken;
    duals = duals_taken;
    volumes = volumes_taken;
    boundary = boundary_taken;
  };
  tests_refuse = tests_refuse;
  products_refuse = products_refuse;
  texts_refuse = texts_refuse;
  flags_refuse = flags_refuse;
  bodies_refuse = bodies_refuse;
  duals_refuse = duals_refuse;
  volumes_refuse = volumes_refuse;
  refusals_named = record {
    tests = tests_named;
    flags = flags_named;
    bodies = bodies_named;
    volumes = volumes_named;
  };
}

pub demand_two : DemandTwo
demand_two = record {
  tests_answer = tests_answer;
  texts_answer = texts_answer;
  flags_answer = flags_answer;
  bodies_answer = bodies_answer;
  duals_answer = duals_answer;
  volumes_answer = volumes_answer;
  boundary_passes = boundary;
  boundary_back = boundary_back;
}

pub demand_three : DemandThree
demand_three = record {
  closed_is_valid_and = λ k l a c r s x y p q e. rw (p, q, e) (exact.closed_is_valid_and limits (lent a));
  products_keep = products_keep;
  duals_keep = duals_keep;
}

pub no_second_answer : OneForEach
no_second_answer = record {
  tests = tests_once;
  products = products_once;
  texts = texts_once;
  flags = flags_once;
  bodies = bodies_once;
  duals = duals_once;
  volumes = volumes_once;
  boundary = boundary_once;
}
