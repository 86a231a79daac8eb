-- When the test for one body answers which number, with room for so many flags.
--
-- BodyExact   0 exactly for one body with not more flags than room; 22 exactly if it is closed and one flag more than
--             room exists; 25 exactly if it is closed, there is room for all flags, and they are not in one piece
use Rattle.std.specs.Prelude.{◌≡◌, ◌↔◌, ℕ, suc}
use Rattle.listing.specs.Refusals.{more_flags, several_parts}
use Rattle.listing.specs.Listing.{Listing, Limits}
use Rattle.valid.specs.Closed.{Closed}
use Rattle.body_theory.specs.Pieces.{OnePiece, OneBody}
use Rattle.body_theory.specs.InAll.{ManyFlags}

pub record BodyExact (m : Limits) (L : Listing) (room n : ℕ) : Type 0 where
  pub accepts : (n ≡ 0) ↔ (OneBody m L × ¬ ManyFlags (suc room) L)
  pub more : (n ≡ more_flags) ↔ (Closed m L × ManyFlags (suc room) L)
  pub parts : (n ≡ several_parts) ↔ (Closed m L × (¬ ManyFlags (suc room) L) × (¬ OnePiece L))
