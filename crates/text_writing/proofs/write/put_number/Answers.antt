-- `put_number`. All but the first digit from the last on, and then the first (Spelling). Assumes nothing.
use native.Mathlib.Omega.{arith}
use Rattle.text_writing.proofs.Numbers.{spelling_first, spelling_done}
use Rattle.text_writing.proofs.write.put_number.Goals as goal

pub overflow_cast-text-2 : goal.overflow_cast-text-2
overflow_cast-text-2 c =
    omega (arith, spelling_first _ _ _ c.requires _ _ _ c.loop-p.invariant c.loop-p-test.false)

pub overflow_add-text-2 : goal.overflow_add-text-2
overflow_add-text-2 c =
    omega (arith, spelling_first _ _ _ c.requires _ _ _ c.loop-p.invariant c.loop-p-test.false)

pub bounds-text-at : goal.bounds-text-at
bounds-text-at c = (spelling_first _ _ _ c.requires _ _ _ c.loop-p.invariant c.loop-p-test.false).1

pub returns : goal.returns
returns c =
    spelling_done _ _ _ c.requires _ _ _ c.loop-p.invariant c.loop-p-test.false _ (omega (arith, c.digits.ensures.0))
