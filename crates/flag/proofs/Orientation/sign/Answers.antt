-- `sign`: each arm of the match is a case of the definition; the literals 1.0 and -1.0 are computed.
-- Assumes nothing.
use borrow.Author.Rules.{rules}
use lib.Ieee.{of_bits, of_int, neg}
use Rattle.flag.specs.Orientations.{sign_of}
use Rattle.flag.proofs.Orientation.sign.Goals as goal

pub returns-in-Even : goal.returns-in-Even
unfolding sign_of of_bits of_int
returns-in-Even c = search rules

pub returns-in-Odd : goal.returns-in-Odd
unfolding sign_of of_bits of_int neg
returns-in-Odd c = search rules
