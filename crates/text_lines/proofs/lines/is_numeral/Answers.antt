-- By the first digit: a 0 is a number by itself alone.
use native.Mathlib.Omega.{arith}
use Rattle.text_lines.proofs.Values.{told_of, zero_front, other_front}
use Rattle.text_lines.proofs.lines.is_numeral.Goals as goal

pub returns-then-text-at-eq48 : goal.returns-then-text-at-eq48
returns-then-text-at-eq48 c =
    let told = told_of c.args.text.now c.requires.end_value c.requires.v_value in
    zero_front told c.if-at-end.false (omega arith) c.if-text-at-eq48.true

pub returns : goal.returns
returns c =
    let told = told_of c.args.text.now c.requires.end_value c.requires.v_value in
    other_front told c.if-at-end.false (omega arith) c.if-text-at-eq48.false
