-- `all_coordinates`. The call asks the test of each number.
-- Assumes nothing.
use Rattle.std.proofs.Common.{◌∙◌, rules, tests}
use Rattle.std.proofs.lemmas.Iterator.{YieldsList-from_slice}
use Rattle.std.proofs.lemmas.Iterator.Search.{all_from_yields_List}
use Rattle.volume_metres.specs.Whole.{coordinate}
use Rattle.volume_metres.proofs.AllOf.{all_are}
use Rattle.volume_metres.proofs.metres.all_coordinates.Goals as goal

pub returns : goal.returns
returns c =
    let xs = c.args.xs.now in
    all_from_yields_List coordinate _ _ c.all.result c.all.ensures.ran (YieldsList-from_slice xs cc)
    (λ x b q k. search (rules, tests))
    ∙ all_are xs
