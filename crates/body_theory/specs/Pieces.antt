-- A listing in one piece, said of its flags.
--
-- OneChange   g is a flag that differs from f at one rank exactly
-- OnePiece    single changes lead from each flag to each other
-- OneBody     closed, and in one piece
use Rattle.std.specs.Prelude.{List, ℕ}
use Rattle.order.specs.Steps.{ChangedAt, Reach}
use Rattle.listing.specs.Listing.{Listing, Limits}
use Rattle.valid.specs.Closed.{Closed}
use Rattle.flag_change.specs.Flags.{IsFlag}

pub record OneChange (L : Listing) (f g : List ℕ) : Type 0 where
  pub at : ℕ
  pub is_flag : IsFlag L g
  pub changed : ChangedAt at f g

unfoldable pub OnePiece : Listing → Type 0
OnePiece L = (f g : List ℕ) → IsFlag L f → IsFlag L g → Reach (OneChange L) f g

pub record OneBody (m : Limits) (L : Listing) : Type 0 where
  pub closed : Closed m L
  pub one_piece : OnePiece L
