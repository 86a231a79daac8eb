-- `other_among`. What is looked for among the numbers of the first list is the first number of what the two share.
-- Assumes nothing.
use mathlib.Core.Path.{◌∙◌}
use mathlib.Core.Bool.{not, ◌&&◌}
use Prim.Native.Nat.{ℕ}
use lib.Dec.{eqb}
use Rattle.std.proofs.Common.{rules, tests}
use Rattle.std.proofs.lemmas.Iterator.{YieldsList-from_slice}
use Rattle.std.proofs.lemmas.Iterator.Consumers.{YieldsList-from_copied}
use Rattle.std.proofs.lemmas.Iterator.Search.{find_from_yields_List}
use Rattle.order.specs.Lists.{has}
use Rattle.flag_change.proofs.Common.{found_is}
use Rattle.flag_change.proofs.chain.other_among.Goals as goal

pub returns : goal.returns
returns c =
    let e = c.args.e in
    let short = c.args.short.now in
    let long = c.args.long.now in
    let test = λ (x : ℕ). not (eqb x e) && has long x in
    let found = find_from_yields_List test _ _ c.find.result c.find.ensures.ran
    (YieldsList-from_copied (YieldsList-from_slice short cc)) (λ x b q k. search (rules, tests)) in
    c.unwrap_or.ensures ∙ found_is e short long c.find.result found
