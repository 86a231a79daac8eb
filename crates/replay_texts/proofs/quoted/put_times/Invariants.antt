-- `put_times`. Invariant: the piece is left to store as often as it was not yet, from n on. Assumes nothing.
use Rattle.std.proofs.Common.{◌-◌}
use Rattle.replay_reading.proofs.Stores.{Storing}
use Rattle.replay_texts.specs.Quoted.{unescaped, copies}
use Rattle.replay_texts.proofs.quoted.put_times.Given as goal

abbrev pub invariant-loop : goal.invariant-loop
invariant-loop l =
    let piece = unescaped l.piece in
    Storing (copies l.times piece) l.from l.initial.out (copies (l.times - l.counter) piece) l.n l.out
