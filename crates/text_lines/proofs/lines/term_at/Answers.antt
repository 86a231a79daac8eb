-- `term_at`. By what follows the digits: nothing, a comma, a newline, another byte. Assumes nothing.
use mathlib.Core.Path.{sym, ◌∙◌}
use native.Mathlib.Omega.{arith}
use Rattle.text_theory.proofs.Reading.{numbers_wrong}
use Rattle.text_lines.proofs.Terms.{term_last, term_more, bad_end, bad_byte}
use Rattle.text_lines.proofs.lines.term_at.Goals as goal
use Rattle.text_lines.proofs.lines.term_at.Goals.{in-44, in-10}

pub returns-in_err-value : goal.returns-in_err-value
returns-in_err-value c = rw c.from_residual.ensures (numbers_wrong _ c.in_err-value.ensures)

pub returns-in_err-get : goal.returns-in_err-get
returns-in_err-get c =
    rw c.from_residual-in_err-get.ensures (bad_end c.in_ok-value.ensures c.in_err-get.ensures.lookup.3)

pub returns-in_default : goal.returns-in_default
returns-in_default c =
    let b = c.in_ok-get.ensures.lookup.3.1 0 in
    bad_byte c.in_ok-value.ensures (λ q. omega (arith, b)) (λ q. omega (arith, b))

pub returns : goal.returns
returns c =
    let h = c.in_ok-value.ensures in
    let l = c.in_ok-get.ensures.lookup.3.0 in
    let b = sym (c.in_ok-get.ensures.lookup.3.1 0) in
    elim c.match-branch-3.branch [
      | in-44 w ↦ rw w.more-is (term_more h l (b ∙ w.in-44.is))
      | in-10 w ↦ rw w.more-is (term_last h l (b ∙ w.in-10.is))
    ]
