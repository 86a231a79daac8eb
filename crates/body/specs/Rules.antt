-- The refusals of the test for one body, in their order: the closed test's, then 22 and 25.
--
-- body_rules   with room for so many flags: no more flags than that, and these in one piece
use Rattle.std.specs.Prelude.{List, [], ◌∷◌, ◌++◌, ℕ, suc}
use Rattle.listing.specs.Refusals.{more_flags, several_parts}
use Rattle.listing.specs.Listing.{Listing, Limits}
use Rattle.listing.specs.Rules.{Rule, rule}
use Rattle.valid.specs.Rules.{closed_rules}
use Rattle.body_theory.specs.Pieces.{OnePiece}
use Rattle.body_theory.specs.InAll.{ManyFlags}

abbrev pub body_rules : Limits → Listing → ℕ → List Rule
body_rules m L room =
    closed_rules m L ++
    rule more_flags (¬ ManyFlags (suc room) L) ∷
    rule several_parts (OnePiece L) ∷ []
