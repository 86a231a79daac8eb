-- `number_at`. At a byte that is no digit, and at the end of the text, the digits so far are all (Reading).
-- Assumes nothing.
use mathlib.Core.Path.{sym, ◌∙◌}
use native.Mathlib.Omega.{arith}
use Rattle.text_lines.proofs.Values.{reading_end, reading_stop, reading_next}
use Rattle.text_lines.proofs.lines.number_at.Goals as goal

pub word_of-requires : goal.word_of-requires
word_of-requires c =
    let e = sym c.is_digit.ensures ∙ c.if-not-is_digit.true in
    let h = reading_stop _ _ _ _ c.loop-i.invariant c.loop-i-test.true e in
    record { at_le_end = (omega arith, omega arith); end_value = h.ends; v_value = h.tells }

pub loop-i-preserved : goal.loop-i-preserved
loop-i-preserved c =
    let e = sym c.is_digit.ensures ∙ c.if-not-is_digit.false in
    reading_next _ _ _ _ c.loop-i.invariant c.loop-i-test.true _ e c.with_digit-v.ensures

pub word_of-requires-2 : goal.word_of-requires-2
word_of-requires-2 c =
    let h = reading_end _ _ _ _ c.loop-i.invariant c.loop-i-test.false in
    record { at_le_end = (omega arith, omega arith); end_value = omega (arith, h.ends); v_value = h.tells }
