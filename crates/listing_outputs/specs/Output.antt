-- A listing R written into three lent output slices: whether there is room, what is answered, what they hold then. The
-- slices held `old` and hold `new`; r is what is answered.
--
-- Fits         slices of the lengths c, e and i have room for R
-- need_of      how much room R takes
-- short_test   36: of the room that there is, one number is less than what is needed
-- room_test    36: one of slices of the lengths c, e and i is too short for R
-- built_of     the answer with the three lengths written; 0 where it is a refusal
-- after        what an output slice holds afterwards: the new numbers over what stood there; as it was at a refusal
-- Made         what is answered and left where the test t decides and R is to be written
-- prefix       the output slices up to the lengths that were answered
-- Untouched    no number has changed, and the answer says that none was written
-- Wrote        R stands at the front of each slice, nothing has changed past it, and the answer has its lengths
use Rattle.std.specs.Prelude.{◌≡◌, ◌||◌, List, ℕ, ◌≤◌, ltb, length, take}
use Rattle.order.specs.Lists.{over}
use Rattle.listing.specs.declared.Answer.{Answer}
use Rattle.listing.specs.declared.Built.{Built}
use Rattle.listing_outputs.specs.declared.outputs.Room.{Room}
use Rattle.listing.specs.Refusals.{output_short}
use Rattle.listing.specs.Answers.{plain, if_zero, on}
use Rattle.listing.specs.Listing.{Listing, listing}

abbrev pub Fits : Listing → ℕ → ℕ → ℕ → Type 0
Fits R c e i = (length R.counts ≤ c) × (length R.ends ≤ e) × (length R.inc ≤ i)

abbrev pub need_of : Listing → Room
need_of R = record { counts = length R.counts; ends = length R.ends; inc = length R.inc }

unfoldable pub short_test : Room → Room → Answer
short_test need room =
    on (ltb room.counts need.counts || (ltb room.ends need.ends || ltb room.inc need.inc))
    (plain output_short)

abbrev pub room_test : Listing → ℕ → ℕ → ℕ → Answer
room_test R c e i = short_test (need_of R) (record { counts = c; ends = e; inc = i })

unfoldable pub built_of : Answer → Listing → Built
built_of a R =
    if_zero a.no
    (record { answer = a; counts = length R.counts; ends = length R.ends; inc = length R.inc })
    (record { answer = a; counts = 0; ends = 0; inc = 0 })

unfoldable pub after : Answer → List ℕ → List ℕ → List ℕ
after a new old = if_zero a.no (over new old) old

pub record Made (t : Answer) (R old new : Listing) (r : Built) : Type 0 where
  pub answer : r ≡ built_of t R
  pub counts : new.counts ≡ after t R.counts old.counts
  pub ends : new.ends ≡ after t R.ends old.ends
  pub inc : new.inc ≡ after t R.inc old.inc

abbrev pub prefix : Listing → Built → Listing
prefix new r = listing (take r.counts new.counts) (take r.ends new.ends) (take r.inc new.inc)

pub record Untouched (old new : Listing) (r : Built) : Type 0 where
  pub same : new ≡ old
  pub counts : r.counts ≡ 0
  pub ends : r.ends ≡ 0
  pub inc : r.inc ≡ 0

pub record Wrote (R old new : Listing) (r : Built) : Type 0 where
  pub counts : (r.counts ≡ length R.counts) × (new.counts ≡ over R.counts old.counts)
  pub ends : (r.ends ≡ length R.ends) × (new.ends ≡ over R.ends old.ends)
  pub inc : (r.inc ≡ length R.inc) × (new.inc ≡ over R.inc old.inc)
