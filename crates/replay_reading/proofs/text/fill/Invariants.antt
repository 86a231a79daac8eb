-- `fill`. Invariant: what is read from the byte on is left to store from n on. Assumes nothing.
use Rattle.std.proofs.Common.{◌-◌, drop}
use Rattle.listing.specs.Listing.{width}
use Rattle.replay_reading.proofs.Stores.{Storing}
use Rattle.replay_reading.specs.Text.{read, numbers_in}
use Rattle.replay_reading.proofs.text.fill.Given as goal

abbrev pub invariant-loop-b : goal.invariant-loop-b
invariant-loop-b l =
    Storing (numbers_in (width - 1) l.text) 0 l.initial.out (read (width - 1) l.s (drop l.b-index l.text)) l.n l.out
