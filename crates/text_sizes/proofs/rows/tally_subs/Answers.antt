-- Where nothing stands after the key, nothing is counted.
use mathlib.Core.Path.{sym, ◌∙◌}
use Rattle.text_sizes.proofs.SubsLines.{none_counted}
use Rattle.text_sizes.proofs.rows.tally_subs.Goals as goal

pub returns-then-first-eq10-clause-counted : goal.returns-then-first-eq10-clause-counted
returns-then-first-eq10-clause-counted c =
    let keyed = sym c.has_key.ensures ∙ c.if-not-has_key.false in
    let l = c.in-Some.ensures.lookup.3 in
    none_counted _ _ keyed l.0 (sym (l.1 0) ∙ c.if-first-eq10.true) _ _ _ _ _ c.requires.by_index
