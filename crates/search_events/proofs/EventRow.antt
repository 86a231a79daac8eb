-- The events: how many there are, which one stands at each place of the row, and the place after it.
-- Assumes nothing.
use mathlib.Core.Path.{◌≡◌}
use mathlib.Core.Bool.{true, false}
use Prim.Native.Nat.{ℕ, ◌+◌, ◌-◌, ◌≤◌, ◌<◌}
use native.Mathlib.Omega.{arith}
use borrow.Author.Tests.{lt-ltb, le-ltb, le-leb, lt-leb, eq-eqb, ne_eqb}
use Rattle.std.specs.Prelude.{Some, None}
use Rattle.search_events.specs.declared.Event.TheVariants.{Flag, NonOrientable}
use Rattle.search_events.specs.Events.{marked, event_at, events, next_at}

module _ (n p : ℕ) where
  pub events_more : marked n p ≡ true → events n p ≡ n + 1
  unfolding events
  events_more w = rw w

  pub events_plain : marked n p ≡ false → events n p ≡ n
  unfolding events
  events_plain w = rw w

module _ (at n p : ℕ) where
  pub goes_on : at < events n p → next_at at n p ≡ at + 1
  unfolding next_at
  goes_on h = rw (lt-ltb at (events n p) h)

  pub stays : events n p ≤ at → next_at at n p ≡ at
  unfolding next_at
  stays h = rw (le-ltb at (events n p) h)

  -- ---- NonOrientable is among the events

  module _ (w : marked n p ≡ true) where
    pub flag_before : at < p → event_at at n p ≡ Some (Flag at)
    unfolding event_at
    flag_before h = rw (w, lt-ltb at p h)

    pub at_place : at ≡ p → event_at at n p ≡ Some NonOrientable
    unfolding event_at
    at_place h = rw (w, le-ltb at p (omega arith), eq-eqb at p h)

    pub flag_after : p < at → at ≤ n → event_at at n p ≡ Some (Flag (at - 1))
    unfolding event_at
    flag_after h k = rw (w, le-ltb at p (omega arith), ne_eqb at p (λ e. omega arith), le-leb at n k)

    pub past_after : p < at → n < at → event_at at n p ≡ None
    unfolding event_at
    past_after h k = rw (w, le-ltb at p (omega arith), ne_eqb at p (λ e. omega arith), lt-leb at n k)

  -- ---- it is not

  module _ (w : marked n p ≡ false) where
    pub flag_plain : at < n → event_at at n p ≡ Some (Flag at)
    unfolding event_at
    flag_plain h = rw (w, lt-ltb at n h)

    pub past_plain : n ≤ at → event_at at n p ≡ None
    unfolding event_at
    past_plain h = rw (w, le-ltb at n h)
