-- `metres_of`. Each arm of the match is a case of the definition; the code less 2000 is a small integer.
-- Assumes nothing.
use Rattle.std.proofs.Common.{◌≤◌, sym, ap, ◌∙◌, arith}
use lib.Ieee.{binary64, of_bits, of_int, neg, div}
use Rattle.replay_volumes.specs.Codes.{metres_for}
use Rattle.replay_volumes.proofs.Metres.{metres_in, metres_past, less_small, less_is}
use Rattle.replay_volumes.proofs.codes.metres_of.Goals as goal

pub overflow_cast-code : goal.overflow_cast-code
overflow_cast-code c = record { sfits = omega arith }

pub overflow_sub-code : goal.overflow_sub-code
overflow_sub-code c = less_small c.args.code (omega arith)

pub returns-in-4001 : goal.returns-in-4001
unfolding metres_for of_bits div
returns-in-4001 c = sym (ap metres_for c.in-4001.is)

pub returns-in-4002 : goal.returns-in-4002
unfolding metres_for of_bits div
returns-in-4002 c = sym (ap metres_for c.in-4002.is)

pub returns-in-4003 : goal.returns-in-4003
unfolding metres_for of_bits neg div
returns-in-4003 c = sym (ap metres_for c.in-4003.is)

pub returns-in-4004 : goal.returns-in-4004
unfolding metres_for of_bits
returns-in-4004 c = sym (ap metres_for c.in-4004.is)

pub returns-in-0-to-4000 : goal.returns-in-0-to-4000
returns-in-0-to-4000 c =
    let n = c.args.code in
    let small : n ≤ 4000 = omega arith in
    c.nearest_i64_to_f64.ensures ∙ ap (of_int binary64) (less_is n small) ∙ sym (metres_in n small)

pub returns-in_default : goal.returns-in_default
unfolding of_bits neg
returns-in_default c = sym (metres_past _ (omega arith))
