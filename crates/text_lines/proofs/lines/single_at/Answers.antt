use mathlib.Core.Path.{sym, ◌∙◌}
use Rattle.std.proofs.lemmas.Bool.{not-true}
use Rattle.text_lines.proofs.Singles.{single_read}
use Rattle.text_lines.proofs.lines.single_at.Goals as goal

pub returns-in-Some-clause-line_read : goal.returns-in-Some-clause-line_read
returns-in-Some-clause-line_read c =
    let keyed = sym c.has_key.ensures ∙ c.if-not-has_key.false in
    single_read _ _ _ keyed c.in-Some.ensures (not-true _ c.if-not-i.true) c.requires.key
