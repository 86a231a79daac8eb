-- What Flumedrac promises, over the contracts themselves. In which order to read it:
--   1. proofs/Insurer: the insurer's two questions, answered by theorems that read alone
--   2. Demands: the three demands, and that no second answer fits, as short records; proofs/Demands proves them
--   3. Entries: how a promise speaks of an entry, through the reading that the prover makes of its contract
--   4. the families, each with what is taken, refused, named, answered and left, a field for each promise: OfTests
--      (counts, classes, tests), OfProducts, OfTexts, OfFlags (changes, orientations, search, events), OfBodies,
--      OfDuals, OfVolumes, OfBoundary (C)
--   5. the rows of refusals, which stand with the tests that refuse: Rules in listing, valid, flag, search, product,
--      text, body, dual, volume
--   6. Named: what each refusal says of the elements that it names
--   7. Products: what is promised of one product; of one search it stands with the search, search/specs/Promised, and
--      of one test for one body in body/specs/Promised, of one volume in volume/specs/Promised
--   8. Starred: the listings to try, in one table
pub mod Entries
pub mod Named
pub mod Products
pub mod OfTests
pub mod OfProducts
pub mod OfTexts
pub mod OfFlags
pub mod OfBodies
pub mod OfDuals
pub mod OfVolumes
pub mod OfBoundary
pub mod Demands
pub mod Starred
