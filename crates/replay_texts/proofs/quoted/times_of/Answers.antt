-- `times_of`. After a star stands the number that is said. Assumes nothing.
use Rattle.std.proofs.Common.{◌≡◌, sym, ap, ◌∙◌, get_or, arith}
use Rattle.replay_reading.proofs.Texts.{take_rest}
use Rattle.replay_reading.specs.Text.{largest, numbers_in}
use Rattle.replay_texts.proofs.Pieces.{times_star}
use Rattle.replay_texts.proofs.quoted.times_of.Goals as goal

pub returns-in-42 : goal.returns-in-42
returns-in-42 c =
    let t = c.args.rest.now in
    let e : get_or t 0 0 ≡ 42 = omega arith in
    c.number_at.ensures
    ∙ ap (λ l. get_or (numbers_in largest l) 0 0) (take_rest 1 t)
    ∙ sym (times_star t c.in-42.len_at_least e)
