-- `put`. The part that is filled holds one number, as often as asked or as there is room for. Assumes nothing.
use Rattle.std.proofs.Common.{◌≡◌, ◌+◌, ◌-◌, ◌∙◌, ap, drop, replicate, length-take, length-drop, arith}
use Rattle.replay_reading.proofs.Stores.{filled}
use Rattle.replay_reading.proofs.text.put.Goals as goal

pub returns : goal.returns
returns c =
    let a = c.args in
    let m = c.min.result in
    let k : a.from + m - a.from ≡ m = omega arith in
    let long = length-drop a.from a.out.now in
    let n = length-take (a.from + m - a.from) (drop a.from a.out.now) in
    let held = c.fill.ensures.after (λ y e. e) ∙ ap (λ j. replicate j a.v) (omega arith) in
    filled _ _ _ _ _ _ _ c.requires c.min.ensures k held
