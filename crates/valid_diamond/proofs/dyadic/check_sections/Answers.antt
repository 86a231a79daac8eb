-- A walk that meets one index twice passes; else the answer is that of the walk's tally.
use mathlib.Core.Path.{◌∙◌}
use Rattle.listing.proofs.Told.{told_err}
use Rattle.valid_diamond.proofs.Sections.{pair_answer, third_answer, lone_answer}
use Rattle.valid_diamond.proofs.dyadic.check_sections.Goals as goal

pub returns-then-meets_one_twice-clause-value : goal.returns-then-meets_one_twice-clause-value
returns-then-meets_one_twice-clause-value c =
    pair_answer _ _ _ _ _ _ c.subs_of-subs.ensures _ c.if-meets_one_twice.true c.meets_one_twice.ensures

pub returns-in_err-totals-clause-value : goal.returns-in_err-totals-clause-value
returns-in_err-totals-clause-value c =
    let third = third_answer _ _ _ _ _ _ c.subs_of-subs.ensures _ _ c.in_err-totals.ensures.tallied in
    told_err _ _ c.from_residual.ensures.1 ∙ third

pub returns-in_err-check_lone-clause-value : goal.returns-in_err-check_lone-clause-value
returns-in_err-check_lone-clause-value c =
    let u = c.subs_of-subs.ensures in
    let t = c.in_ok-totals.ensures.tallied in
    told_err _ _ c.from_residual-in_err-check_lone.ensures.1
    ∙ lone_answer _ _ _ _ _ _ u _ t _ c.from.ensures _ c.in_err-check_lone.ensures

pub returns-clause-value : goal.returns-clause-value
returns-clause-value c =
    let u = c.subs_of-subs.ensures in
    let t = c.in_ok-totals.ensures.tallied in
    lone_answer _ _ _ _ _ _ u _ t _ c.from.ensures _ c.in_ok-check_lone.ensures
