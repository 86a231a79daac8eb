-- The events of a finished search, by their place in the row: the flags 0, 1, .. count - 1, with NonOrientable after
-- the first `place` flags where place is from 1 to count, and without it otherwise.
--
-- marked      NonOrientable is among the events
-- event_at    the event at a place of the row; None past the last
-- events      how many events there are
-- next_at     the place after a place: the same past the last
-- up_from     the n values f i, f (i + 1), ..
-- events_of   the events in their order
-- replies     the answers of n calls of next_event, one after another, the first with the cursor at a place
-- said_of     an event as two numbers: kind 0 nothing, 1 a flag, 2 not orientable; and the flag
-- Stepped     one call of next_event: with the cursor at a place it says e, and leaves the cursor at another
-- SaidStep    the same where the event is said as numbers
use Rattle.std.specs.Prelude.{◌≡◌, Bool, cond, ◌&&◌, Option, Some, None}
use Rattle.std.specs.Prelude.{List, [], ◌∷◌, ◌++◌, ℕ, zero, suc, ◌+◌, ◌-◌, ltb, leb, eqb}
use Rattle.search_events.specs.declared.Said.{Said}
use Rattle.search_events.specs.declared.Event.{Event}
use Rattle.search_events.specs.declared.Event.TheVariants.{Flag, NonOrientable}

abbrev pub marked : ℕ → ℕ → Bool
marked count place = leb 1 place && leb place count

unfoldable pub event_at : ℕ → ℕ → ℕ → Option Event
event_at at count place =
    cond (marked count place)
    (cond (ltb at place) (Some (Flag at))
    (cond (eqb at place) (Some NonOrientable) (cond (leb at count) (Some (Flag (at - 1))) None)))
    (cond (ltb at count) (Some (Flag at)) None)

unfoldable pub events : ℕ → ℕ → ℕ
events count place = cond (marked count place) (count + 1) count

unfoldable pub next_at : ℕ → ℕ → ℕ → ℕ
unfolding events
next_at at count place = cond (ltb at (events count place)) (at + 1) at

unfoldable pub up_from : {A : Type 0} → (ℕ → A) → ℕ → ℕ → List A
up_from f i zero = []
up_from f i (suc n) = f i ∷ up_from f (suc i) n

unfoldable pub events_of : ℕ → ℕ → List Event
events_of count place =
    cond (marked count place)
    (up_from Flag 0 place ++ NonOrientable ∷ up_from Flag place (count - place))
    (up_from Flag 0 count)

unfoldable pub replies : ℕ → ℕ → ℕ → ℕ → List (Option Event)
replies at count place zero = []
replies at count place (suc n) = event_at at count place ∷ replies (next_at at count place) count place n

unfoldable pub said_of : Option Event → Said
said_of (Some (Flag i)) = record { kind = 1; flag = i }
said_of (Some NonOrientable) = record { kind = 2; flag = 0 }
said_of None = record { kind = 0; flag = 0 }

abbrev pub Stepped : ℕ → ℕ → ℕ → ℕ → Option Event → Type 0
Stepped at count place at' e = (e ≡ event_at at count place) × (at' ≡ next_at at count place)

abbrev pub SaidStep : ℕ → ℕ → ℕ → ℕ → Said → Type 0
SaidStep at count place at' s = (s ≡ said_of (event_at at count place)) × (at' ≡ next_at at count place)
